-- Whether the empty clause is there, by a slot that holds it.
use Rattle.std.proofs.Common.{◌↔◌, ℕ, Option, Some, None, refl, IsTrue}
use Rattle.std.specs.Prelude.{MatchOption, is_some}
use Rattle.q_logic.specs.Prelude.{Clause, IsIn, Slots}
use Rattle.q_prop.specs.Slots.{filled, Holds}
use Rattle.q_judge.proofs.SlotCollections.{held-in, in-held}

pub found-empty : (s : Slots) (C : Clause) (o : Option ℕ) → MatchOption o ((at : ℕ) → Holds s at C → ⊥) (λ at. Holds s at C) → IsTrue (is_some o) ↔ IsIn C (filled s)
found-empty s C None h = ((λ t. cc), (λ i. let r = in-held s C i in absurd (h r.0 r.1)))
found-empty s C (Some at) h = ((λ t. held-in s at C h), (λ i. refl))
