use Rattle.std.proofs.Common.{◌≢◌, refl}
use Rattle.q_logic.proofs.Common.{test-not}
use Rattle.q_kernel.specs.Prelude.{slots, HoldsLiteral}
use Rattle.q_kernel.proofs.ForLoops.{each-came}
use Rattle.q_reduce.proofs.ForestPaths.{lacks-one}
use Rattle.q_reduce.proofs.sides.lacks.Goals as goal

pub returns-then-clause-count : goal.returns-then-clause-count
returns-then-clause-count c t =
    let k = c.args.kernel.now in
    lacks-one k.prefix (slots k) c.args.u c.args.d c.lits-clause.result.now c.lits-clause.ensures.clause (test-not c.holds.result c.holds.ensures t)

pub returns : goal.returns
returns c t C e m =
    each-came (λ x. HoldsLiteral c.args.kernel.now x c.args.u) (λ x. x ≢ c.args.d) c.loop-x.yielded
    c.holders-x-items.ensures.all c.into_iter-x-iterator.ensures.into_iter_gives c.loop-x.yielded_by c.in-None.ensures.steps.0 c.loop-x.invariant c.args.d (C, e, m) refl
