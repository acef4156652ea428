-- What a search for targets answers.
use Rattle.std.specs.Prelude.{◌≡◌, ◌≤◌, ◌<◌, ℕ}
use Rattle.q_logic.specs.Prelude.{place}
use Rattle.q_reduce.specs.declared.target.Target.{Target}
use Rattle.q_reduce.specs.declared.target.Target.TheVariants.{Tautology, Unit, Cut, Pure}
use Rattle.q_reduce.specs.Targets.{target_of}

-- a literal of the clause of an id
abbrev pub IsCutOf : ℕ → Target → Type 0
IsCutOf c (Tautology d) = ⊥
IsCutOf c (Unit d) = ⊥
IsCutOf c (Cut d l) = d ≡ c
IsCutOf c (Pure l) = ⊥

-- the clause of an id, or a literal of it
abbrev pub IsOfClause : ℕ → Target → Type 0
IsOfClause c (Tautology d) = d ≡ c
IsOfClause c (Unit d) = d ≡ c
IsOfClause c (Cut d l) = d ≡ c
IsOfClause c (Pure l) = ⊥

-- a literal of a variable
abbrev pub IsOfVariable : ℕ → Target → Type 0
IsOfVariable v (Tautology d) = ⊥
IsOfVariable v (Unit d) = ⊥
IsOfVariable v (Cut d l) = ⊥
IsOfVariable v (Pure l) = l.var ≡ v

-- a place from one number on and before another
pub record IsBetween (from end : ℕ) (t : Target) : Type 0 where
  pub order : from ≤ place (target_of t)
  pub before : place (target_of t) < end
