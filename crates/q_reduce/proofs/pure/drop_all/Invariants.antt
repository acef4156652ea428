use Rattle.q_logic.specs.Prelude.{negation, size_of, with_literal, OccursIn, live}
use Rattle.q_kernel.specs.Prelude.{slots}
use Rattle.q_rule.proofs.RemovalLoops.{IsClearing}
use Rattle.q_reduce.proofs.pure.drop_all.Given as goal

abbrev pub invariant-loop-id : goal.invariant-loop-id
invariant-loop-id l = record {
  clearing : IsClearing 16 l.l l.fn.kernel l.kernel;
  pure : OccursIn (negation l.l) (live (slots l.kernel)) → ⊥;
}

abbrev pub decreases-loop-id : goal.decreases-loop-id
decreases-loop-id l = size_of (with_literal l.l (live (slots l.kernel)))
