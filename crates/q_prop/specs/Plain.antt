-- Hints found by looking at all clauses again and again.
use Rattle.std.specs.Prelude.{◌≡◌, ◌<◌, ℕ, Bool, true, false, List, [], ◌∷◌, ◌++◌, Contains, length}
use Rattle.q_logic.specs.Prelude.{Literal, Clause, Slots, Follows}
use Rattle.q_prop.specs.Chains.{IsFalsified, HasOpposites}
use Rattle.q_prop.specs.Search.{IsQuiet, AreQuiet}
use Rattle.q_prop.specs.Slots.{Holds, filled}
use Rattle.q_prop.specs.Working.{IsReached}
use Rattle.q_prop.specs.Hinting.{IsLeft}
use Rattle.q_prop.specs.declared.chain.Left.TheVariants.{One}
use Rattle.q_prop.specs.declared.plain.Find.{Find}
use Rattle.q_prop.specs.declared.plain.Find.TheVariants.{Conflict, New, Quiet}

-- the clause of the slot forces a literal that is new, and both are noted
pub record IsNoted (s : Slots) (at : ℕ) (known : List Literal) (hints : List ℕ) (more : List Literal) (hints' : List ℕ) : Type 0 where
  pub literal : Literal
  pub clause : Clause
  pub holds : Holds s at clause
  pub forced : IsLeft known clause (One literal)
  pub new : Contains known literal → ⊥
  pub known_is : more ≡ known ++ literal ∷ []
  pub hints_are : hints' ≡ hints ++ at ∷ []

-- what a look at one slot finds
abbrev pub IsFind : Slots → ℕ → List Literal → List ℕ → List Literal → List ℕ → Find → Type 0
IsFind s at' known hints more hints' Conflict = (hints' ≡ hints ++ at' ∷ []) × ((c : Clause) × Holds s at' c × IsFalsified known c)
IsFind s at' known hints more hints' New = IsNoted s at' known hints more hints'
IsFind s at' known hints more hints' Quiet = (more ≡ known) × (hints' ≡ hints) × ((c : Clause) → Holds s at' c → IsQuiet known c)

-- hints that go on from what is known now are hints from before, with the new ones in front
pub record IsLed (s : Slots) (known : List Literal) (hints : List ℕ) (more : List Literal) (hints' : List ℕ) : Type 0 where
  pub added : List ℕ
  pub is : hints' ≡ hints ++ added
  pub follows : (hs : List ℕ) → Follows s more hs → Follows s known (added ++ hs)
  pub reached : IsReached (filled s) known more
  pub consistent : HasOpposites more → ⊥

-- the new hints lead to a clause that is refuted
pub record IsEnded (s : Slots) (known : List Literal) (hints hints' : List ℕ) : Type 0 where
  pub added : List ℕ
  pub is : hints' ≡ hints ++ added
  pub follows : Follows s known added

abbrev pub answer_of : Bool → Find
answer_of true = New
answer_of false = Quiet

-- what the looks at the slots before a place found
abbrev pub IsPassed : Slots → ℕ → List Literal → List ℕ → List Literal → List ℕ → Bool → Type 0
IsPassed s i known hints more hints' true = IsLed s known hints more hints' × (length known < length more)
IsPassed s i known hints more hints' false = (more ≡ known) × (hints' ≡ hints) × ((n : ℕ) (c : Clause) → n < i → Holds s n c → IsQuiet known c)

-- what a look at each clause finds
abbrev pub IsPass : Slots → List Literal → List ℕ → List Literal → List ℕ → Find → Type 0
IsPass s known hints more hints' Conflict = IsEnded s known hints hints'
IsPass s known hints more hints' New = IsLed s known hints more hints' × (length known < length more)
IsPass s known hints more hints' Quiet = (more ≡ known) × (hints' ≡ hints) × AreQuiet known (filled s)

-- hints from what is known lead to a conflict, or nothing more is to be found
abbrev pub IsExplained : Slots → List Literal → List Literal → List ℕ → Bool → Type 0
IsExplained s known more hints true = Follows s known hints
IsExplained s known more hints false = IsReached (filled s) known more × (HasOpposites more → ⊥) × AreQuiet more (filled s)

-- the search has come so far, and goes on or not
abbrev pub IsSearching : Slots → List Literal → List Literal → List ℕ → Bool → Type 0
IsSearching s known more hints true = IsLed s known [] more hints
IsSearching s known more hints false = IsExplained s known more hints false
