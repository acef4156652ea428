-- The clauses and variables that are connected to a universal variable, as a walk meets them.
use Rattle.std.specs.Prelude.{◌≡◌, ◌≤◌, ◌+◌, ℕ, true, false, cond, List, [], ◌∷◌, ◌++◌, ◌⊎◌, length, Option, Some, None}
use Rattle.q_logic.specs.Prelude.{Literal, negation, Clause, Matrix, Prefix, IsIn, is_bound, has_variable, positive, Slots, slot, live, clauses_of, inner_existential, Spread}
use Rattle.q_kernel.specs.Lists.{Has, AreApart}
use Rattle.q_kernel.specs.Prelude.{Seen, slots}
use Rattle.q_expand.specs.declared.dependents.Room.{Room}

-- what a walk has met: variables, clauses, and of the clauses without u the number of literals and clauses, and of clauses
pub record Walked : Type 0 where
  pub vars : List Literal
  pub met : List ℕ
  pub size : ℕ
  pub others : ℕ

-- the clause holds u or a variable that is connected to it
abbrev pub IsConnected : Prefix → Matrix → ℕ → Clause → Type 0
IsConnected P X u C = (j : Literal) × IsIn j C × ((j.var ≡ u) ⊎ Spread P X u j.var)

abbrev pub weigh : (Clause → ℕ) → Option Clause → ℕ
weigh w None = 0
weigh w (Some C) = w C

-- the weight of the clauses of some ids
abbrev pub tally : (Clause → ℕ) → Slots → List ℕ → ℕ
tally w N [] = 0
tally w N (c ∷ cs) = weigh w (slot N c) + tally w N cs

-- a clause without u, by size and by number
abbrev pub size_beside : ℕ → Clause → ℕ
size_beside u C = cond (has_variable u C) 0 (length C + 1)

abbrev pub one_beside : ℕ → Clause → ℕ
one_beside u C = cond (has_variable u C) 0 1

-- the positive literals of the clause's inner existentials are there
abbrev pub IsSpread : Prefix → ℕ → List Literal → Clause → Type 0
IsSpread P u vars C = (k : Literal) → IsIn k C → inner_existential P u k.var ≡ true → IsIn (positive k.var) vars

-- no literal twice
abbrev pub Lone : List Literal → Type 0
Lone [] = Unit {0}
Lone (k ∷ ks) = (IsIn k ks → ⊥) × Lone ks

-- what holds of a walk at all times
pub record AreDependents (k : Seen) (u : ℕ) (r : Walked) : Type 0 where
  -- variables that are connected, as positive literals, each once
  pub linked : (j : Literal) → IsIn j r.vars → (j.negative ≡ false) × Spread k.prefix (live (slots k)) u j.var
  pub lone : Lone r.vars
  -- clauses that are connected and hold at most one literal of u, each once
  pub apart : AreApart r.met
  pub connected : (c : ℕ) → Has r.met c → (C : Clause) × (slot (slots k) c ≡ Some C) × IsConnected k.prefix (live (slots k)) u C
  pub clean : (c : ℕ) (C : Clause) → Has r.met c → slot (slots k) c ≡ Some C → IsIn (positive u) C → IsIn (negation (positive u)) C → ⊥
  -- whose inner existentials are among the variables
  pub spread : (c : ℕ) (C : Clause) → Has r.met c → slot (slots k) c ≡ Some C → IsSpread k.prefix u r.vars C
  pub size : r.size ≡ tally (size_beside u) (slots k) r.met
  pub others : r.others ≡ tally (one_beside u) (slots k) r.met

-- nothing that was met is forgotten
pub record IsLarger (old new : Walked) : Type 0 where
  pub added : List Literal
  pub vars : new.vars ≡ old.vars ++ added
  pub met : (c : ℕ) → Has old.met c → Has new.met c

-- the clauses with a literal were met
abbrev pub HasMet : Seen → Walked → Literal → Type 0
HasMet k r l = (c : ℕ) (C : Clause) → slot (slots k) c ≡ Some C → IsIn l C → Has r.met c

-- all that is connected was met
pub record IsWhole (k : Seen) (u : ℕ) (r : Walked) : Type 0 where
  pub dependents : AreDependents k u r
  pub all_met : (c : ℕ) (C : Clause) → slot (slots k) c ≡ Some C → IsConnected k.prefix (live (slots k)) u C → Has r.met c
  pub all_vars : (v : ℕ) → Spread k.prefix (live (slots k)) u v → IsIn (positive v) r.vars

abbrev pub nothing_met : Walked
nothing_met = record { vars = []; met = []; size = 0; others = 0 }

-- the room suffices
pub record IsWithin (room : Room) (r : Walked) : Type 0 where
  pub vars : length r.vars ≤ room.vars
  pub size : r.size ≤ room.size

-- the variables of a clause came to others, each once
pub record IsWidened (P : Prefix) (u : ℕ) (C : Clause) (old new : List Literal) : Type 0 where
  pub added : List Literal
  pub is : new ≡ old ++ added
  pub all_there : IsSpread P u new C
  pub from : (j : Literal) → IsIn j new → IsIn j old ⊎ ((k : Literal) × IsIn k C × (inner_existential P u k.var ≡ true) × (j ≡ positive k.var))
  pub lone : Lone old → Lone new

-- a clause was met
pub record IsMet (k : Seen) (u c : ℕ) (old new : Walked) : Type 0 where
  pub dependents : AreDependents k u new
  pub larger : IsLarger old new
  pub there : Has new.met c

-- the clauses with a literal may be met: its variable is u, which is bound, or connected to it, and the room is for u
pub record MayVisit (k : Seen) (u : Literal) (room : Room) (l : Literal) (r : Walked) : Type 0 where
  pub sign : u.negative ≡ false
  pub bound : is_bound k.prefix u.var ≡ true
  pub room_for : room.size ≡ room.vars + length (clauses_of u.var (live (slots k)))
  pub linked : (l.var ≡ u.var) ⊎ Spread k.prefix (live (slots k)) u.var l.var
  pub dependents : AreDependents k u.var r
  pub within : IsWithin room r

-- the clauses with a literal were met
pub record IsVisited (k : Seen) (u : ℕ) (room : Room) (l : Literal) (old new : Walked) : Type 0 where
  pub dependents : AreDependents k u new
  pub larger : IsLarger old new
  pub within : IsWithin room new
  pub met : HasMet k new l
