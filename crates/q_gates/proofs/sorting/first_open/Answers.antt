use Rattle.std.proofs.Common.{◌∙◌, ap, sym, inl, inr, Option, ℕ}
use Rattle.q_gates.proofs.sorting.first_open.Goals as goal

pub open_part-requires : goal.open_part-requires
open_part-requires c = λ h e. c.requires.room h (inl (ap (λ (p : Option ℕ × Option ℕ). p.0) (sym c.parts_at-left.ensures) ∙ e))

pub open_part-requires-in-None : goal.open_part-requires-in-None
open_part-requires-in-None c = λ h e. c.requires.room h (inr (ap (λ (p : Option ℕ × Option ℕ). p.1) (sym c.parts_at-left.ensures) ∙ e))
