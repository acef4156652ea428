-- Targets taken one after the other.
use Rattle.std.specs.Prelude.{◌≡◌, ℕ, List, [], ◌∷◌, Option}
use Rattle.q_logic.specs.declared.rule_bounds.Bounds.{Bounds}
use Rattle.q_logic.specs.Prelude.{PrenexFormula, Slots, live, formula_of, Target, Applicable, result_of, AreAlike, measure_of}
use Rattle.q_sched.specs.Drives.{IsSpentAt}

-- a target applies to F, its clauses numbered in some way, and G is the result up to the order of clauses
pub record IsMove (B : Bounds) (F G : PrenexFormula) : Type 0 where
  pub numbers : Slots
  pub are_clauses : formula_of F.prefix (live numbers) ≡ F
  pub target : Target
  pub applies : Applicable B F.prefix numbers target
  pub result : AreAlike (result_of F.prefix numbers target) G

-- by such moves from S to G, where each formula before a move is listed, the last one first: at none of these the budget is spent
abbrev pub MovesOver : Bounds → Option ℕ → ℕ → PrenexFormula → List PrenexFormula → PrenexFormula → Type 0
MovesOver B budget first S [] G = G ≡ S
MovesOver B budget first S (F ∷ passed) G =
    (¬ IsSpentAt budget first (measure_of B F)) × IsMove B F G × MovesOver B budget first S passed F

-- targets are taken from S on up to G, and once the budget is spent, no further one is
abbrev pub MovesTo : Bounds → Option ℕ → ℕ → PrenexFormula → PrenexFormula → Type 0
MovesTo B budget first S G = (passed : List PrenexFormula) × MovesOver B budget first S passed G
