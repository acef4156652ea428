use Rattle.q_logic.specs.Prelude.{negation, outer}
use Rattle.q_logic.proofs.Common.{IsIn-append_left, IsIn-append_right, item-in, Contains-IsIn, IsIn-outer_in}
use Rattle.q_judge.proofs.blocking.clashes.Goals as goal

pub clashes_on-requires-clause-second : goal.clashes_on-requires-clause-second
clashes_on-requires-clause-second c = c.requires.within c.k-item.result (item-in c.args.other.now c.loop-k.k-index c.k-item.result c.loop-k-test.true c.k-item.is)

pub returns-then-clashes_on : goal.returns-then-clashes_on
returns-then-clashes_on c t =
    let k = c.k-item.result in
    let C = c.args.clause.now in
    let D = c.args.other.now in
    let O = outer c.args.scope.now c.args.m D in
    let e = c.clashes_on.ensures c.if-clashes_on.true in
    (k, IsIn-append_right k C O (IsIn-outer_in c.args.scope.now c.args.m D k (item-in D c.loop-k.k-index k c.loop-k-test.true c.k-item.is) e.0), IsIn-append_left (negation k) C O (Contains-IsIn (negation k) C e.1))
