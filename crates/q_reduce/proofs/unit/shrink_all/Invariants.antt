use Rattle.std.proofs.Common.{◌≡◌, ℕ, [], ◌∷◌, Some}
use Rattle.q_logic.specs.Prelude.{negation, size_of, with_literal, slot, live}
use Rattle.q_kernel.specs.Prelude.{slots}
use Rattle.q_rule.proofs.RemovalLoops.{IsClearing}
use Rattle.q_reduce.proofs.unit.shrink_all.Given as goal

abbrev pub invariant-loop-id : goal.invariant-loop-id
invariant-loop-id l = record {
  clearing : IsClearing 32 (negation l.fn.l) l.fn.kernel l.kernel;
  unit : (c : ℕ) × (slot (slots l.kernel) c ≡ Some (l.fn.l ∷ []));
}

abbrev pub decreases-loop-id : goal.decreases-loop-id
decreases-loop-id l = size_of (with_literal (negation l.fn.l) (live (slots l.kernel)))
