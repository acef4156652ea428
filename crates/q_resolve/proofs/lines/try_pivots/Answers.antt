use Rattle.std.proofs.Common.{◌≡◌, ◌+◌, ◌++◌, ◌∷◌, ◌≤◌, [], take, length, sym, subst, List, Some}
use Rattle.std.proofs.lemmas.List.{take_all}
use Rattle.q_logic.specs.Prelude.{Literal}
use Rattle.q_resolve.specs.Judged.{IsTrial, IsWorst, later_of}
use Rattle.q_logic.proofs.Common.{taken}
use Rattle.q_resolve.proofs.LineFaults.{worst-start, worst-next, item-in}
use Rattle.q_resolve.proofs.lines.try_pivots.Goals as goal

pub loop-k-init : goal.loop-k-init
loop-k-init c = worst-start c.args.prefix.now c.args.first.now c.args.second.now c.args.own.now

pub try_pivot-requires-clause-pivot : goal.try_pivot-requires-clause-pivot
try_pivot-requires-clause-pivot c = item-in c.args.first.now c.loop-k.k-index c.k-item.result c.loop-k-test.true c.k-item.is

pub loop-k-preserved : goal.loop-k-preserved
loop-k-preserved c =
    let P = c.args.prefix.now in
    let S = c.args.first.now in
    let U = c.args.second.now in
    let T = c.args.own.now in
    let V = take c.loop-k.k-index S in
    let k = c.k-item.result in
    let e : take (c.loop-k.k-index + 1) S ≡ V ++ k ∷ [] = taken S c.loop-k.k-index k c.loop-k-test.true c.k-item.is in
    let t : IsTrial P S U T k c.try_pivot.new.parent (Some c.in-Some.found) =
    subst (IsTrial P S U T k c.try_pivot.new.parent) c.in-Some.is c.in_ok-tried.ensures in
    let r = worst-next P S U T V c.try_pivot.new.parent k c.loop-k.fault c.in-Some.found c.loop-k.invariant t in
    subst (IsWorst P S U T (take (c.loop-k.k-index + 1) S)) (sym c.later-fault.ensures) (subst (λ (W : List Literal). IsWorst P S U T W (later_of c.loop-k.fault c.in-Some.found)) (sym e) r)

pub returns-in-None : goal.returns-in-None
returns-in-None c =
    subst (IsTrial c.args.prefix.now c.args.first.now c.args.second.now c.args.own.now c.k-item.result c.try_pivot.new.parent) c.in-None.is c.in_ok-tried.ensures

pub returns : goal.returns
returns c =
    let le : length c.args.first.now ≤ c.loop-k.k-index = c.loop-k-test.false in
    subst (λ (V : List Literal). IsWorst c.args.prefix.now c.args.first.now c.args.second.now c.args.own.now V c.loop-k.fault) (take_all c.loop-k.k-index c.args.first.now le) c.loop-k.invariant
