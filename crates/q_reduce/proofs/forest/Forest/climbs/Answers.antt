use Rattle.std.proofs.Common.{◌≡◌, ℕ, true, subst}
use Rattle.q_logic.specs.Prelude.{Literal, outer_or_same}
use Rattle.q_kernel.specs.Prelude.{HoldsLiteral}
use Rattle.q_kernel.proofs.ForLoops.{holder-turn}
use Rattle.q_reduce.proofs.forest.Forest.climbs.Goals as goal

pub joins-requires-clause-block : goal.joins-requires-clause-block
joins-requires-clause-block c = subst (λ (v : ℕ). outer_or_same c.args.kernel.now.prefix v c.args.self.now.block ≡ true) c.var.ensures.value (c.serves.ensures c.if-not-serves.false)

pub joins-requires-clause-negation : goal.joins-requires-clause-negation
joins-requires-clause-negation c =
    subst (λ (l : Literal). HoldsLiteral c.args.kernel.now c.in-Some.d l) c.negated.ensures
    (holder-turn c.args.kernel.now c.negated.result c.loop-d.yielded c.holders-d-items.ensures.hold c.into_iter-d-iterator.ensures.into_iter_gives c.loop-d.yielded_by c.in-Some.ensures.steps)
