-- What a visit of a clause finds.
use Rattle.std.specs.Prelude.{◌≡◌, ◌≢◌, ℕ, ◌+◌, Some, length}
use Rattle.q_logic.specs.Prelude.{Literal, negation, Clause, IsIn, IsSubset, slot}
use Rattle.q_kernel.specs.Prelude.{Seen, slots}
use Rattle.q_watch.specs.declared.visit.Gift.{Gift}
use Rattle.q_watch.specs.declared.visit.Visit.{Visit}
use Rattle.q_watch.specs.declared.visit.Visit.TheVariants.{Next, Again, Gives}
use Rattle.q_watch.specs.declared.watches.Watches.{Watches}
use Rattle.q_watch.specs.Rows.{row_of}
use Rattle.q_watch.specs.Watches.{IsQuietFrom}

-- the clause of the gift's id, which is not c, gives S the literal
pub record IsGift (k : Seen) (c : ℕ) (S : Clause) (g : Gift) : Type 0 where
  pub giver : Clause
  pub other : g.id ≢ c
  pub there : slot (slots k) g.id ≡ Some giver
  pub negated : IsIn (negation g.lit) giver
  pub others_in : (j : Literal) → IsIn j giver → j ≢ negation g.lit → IsIn j S
  pub is_new : IsIn g.lit S → ⊥

-- the walk along the row of l goes on at the next place, or at the same one of a row that is shorter; or the clause gives a literal, and
-- the walk goes on once that has come
abbrev pub IsVisited : Seen → ℕ → Clause → Literal → ℕ → Watches → Watches → Visit → Type 0
IsVisited k c S l i old new Next =
    ((H : Clause) → IsSubset H S → IsQuietFrom k old c S H l i → IsQuietFrom k new c S H l (i + 1)) × (length (row_of new.rows l) ≡ length (row_of old.rows l))
IsVisited k c S l i old new Again =
    ((H : Clause) → IsSubset H S → IsQuietFrom k old c S H l i → IsQuietFrom k new c S H l i) × (length (row_of new.rows l) + 1 ≡ length (row_of old.rows l))
IsVisited k c S l i old new (Gives g) =
    IsGift k c S g × ((H T : Clause) → IsSubset S T → IsIn g.lit T → IsQuietFrom k old c S H l i → IsQuietFrom k new c T H l (i + 1)) × (length (row_of new.rows l) ≡ length (row_of old.rows l))
