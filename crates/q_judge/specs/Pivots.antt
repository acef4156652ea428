-- Outer clauses as they are gathered for a pivot, over slots.
use Rattle.std.specs.Prelude.{◌≡◌, ◌⊎◌, ℕ, List, [], ◌∷◌, ◌++◌, Contains, Result}
use Rattle.q_logic.specs.Prelude.{Literal, negation, clause_of, Clause, Prefix, Slots, outer, Implied, IsTautology}
use Rattle.q_logic.specs.Prelude.{without as others}
use Rattle.q_prop.specs.Slots.{Holds, filled, without}
use Rattle.q_judge.specs.declared.error.CheckError.{CheckError}
use Rattle.q_judge.specs.declared.pivots.Candidate.{Candidate}
use Rattle.q_judge.specs.declared.pivots.Question.{Question}
use Rattle.q_judge.specs.declared.pivots.Warrant.{Warrant}
use Rattle.q_judge.specs.Warrants.{IsAnswered}

-- the base joined with the outer clause
abbrev pub resolvent : Prefix → Question → Clause → Clause
resolvent P q D = q.base.now ++ outer P q.m D

-- the resolvent on m that is looked up: the base without the opposite of m, and the outer clause
abbrev pub looked_up : Prefix → Literal → Clause → Clause → Clause
looked_up P m base D = clause_of (others (negation m) base ++ outer P m D)

-- the outer clause of a slot's clause is appended, or clashes with the base
abbrev pub IsGathered : Prefix → Slots → Question → ℕ → List Clause → List Clause → Type 0
IsGathered P s q at' old new =
    ((new ≡ old) × ((D : Clause) → Holds s at' D → IsTautology (resolvent P q D)))
    ⊎ ((D : Clause) × Holds s at' D × (new ≡ old ++ outer P q.m D ∷ []))

-- the outer clauses of the slots' clauses, but of those that clash with the base, and no others
pub record AreGathered (P : Prefix) (s : Slots) (q : Question) (slots : List ℕ) (tails : List Clause) : Type 0 where
  pub all_there : (at : ℕ) (D : Clause) → Contains slots at → Holds s at D → IsTautology (resolvent P q D) ⊎ Contains tails (outer P q.m D)
  pub no_other : (t : Clause) → Contains tails t → (at : ℕ) × (D : Clause) × Contains slots at × Holds s at D × (t ≡ outer P q.m D)

-- the base joined with the outer clause of each of the slots' clauses is implied
abbrev pub ResolveAt : Prefix → Slots → Question → List ℕ → Type 0
ResolveAt P s q slots = (at' : ℕ) (D : Clause) → Contains slots at' → Holds s at' D → Implied (filled s) (resolvent P q D)

-- why the clause may come or go over the slots but its own, or the refusal
abbrev pub IsJudged : Prefix → Slots → Candidate → Result Warrant CheckError → Type 0
IsJudged P s k r = IsAnswered P (filled (without s k.skip)) k.clause.now k.first r
