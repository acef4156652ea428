-- The steps by which a covered clause goes.
use Rattle.std.specs.Prelude.{◌≡◌, ◌≤◌, ◌+◌, ◌*◌, ℕ, List, [], ◌∷◌, length, take, Option, Some, None}
use Rattle.q_logic.specs.Prelude.{Literal, IsBelow, Clause, Matrix, Prefix, clause_of, Implied, ExistsPivot, ArePairs, standard, IsSubset, Within, KeepsLimits, Slots, slot, set_slot, others, live, size_of}
use Rattle.q_kernel.specs.Prelude.{Seen, slots, KeepsRoom, IsLed}
use Rattle.q_blocked.specs.declared.plan.Stage.{Stage}
use Rattle.q_blocked.specs.declared.plan.Plan.{Plan}

-- the literals before a place, as a clause
abbrev pub front : List Literal → ℕ → Clause
front S n = clause_of (take n S)

-- beside the clauses X the clause A may go: it is implied, or has the pivot
abbrev pub MayGo : Prefix → Matrix → Clause → Option Literal → Type 0
MayGo P X A None = Implied X A
MayGo P X A (Some l) = ExistsPivot P X A l

-- stages from one place to another: at each the larger clause comes, and beside it the smaller one may go
abbrev pub IsWay : Prefix → Matrix → List Literal → ℕ → List Stage → ℕ → Type 0
IsWay P X S from [] to = from ≡ to
IsWay P X S from (s ∷ ss) to =
    (from ≤ s.to) × (s.to ≤ length S) × MayGo P (front S s.to ∷ X) (front S from) s.on × IsWay P X S s.to ss to

-- stages lead from the clause C to one that may go
pub record IsPlan (P : Prefix) (X : Matrix) (C : Clause) (p : Plan) : Type 0 where
  pub begins : front p.lits.items (length C) ≡ C
  pub within : Within P p.lits.items
  pub to : ℕ
  pub way : IsWay P X p.lits.items (length C) p.stages.items to
  pub goes : MayGo P X (front p.lits.items to) p.last

-- the literals of all larger clauses
abbrev pub words_of : List Stage → ℕ
words_of [] = 0
words_of (s ∷ ss) = s.to + words_of ss

-- the plan is for the clause of an id
abbrev pub IsPlanFor : Prefix → Slots → ℕ → Plan → Type 0
IsPlanFor P N c p = (C : Clause) × (slot N c ≡ Some C) × IsPlan P (others c N) C p

-- there is room for all of its clauses, and for the text of its steps and of a sweep
pub record HasRoomFor (k : Seen) (ss : List Stage) : Type 0 where
  pub words : words_of ss ≤ k.arena.spare_words
  pub ids : length ss ≤ k.arena.spare_ids
  pub bytes : 16 * (size_of (live (slots k)) + length k.prefix) + 32 * (words_of ss + length ss) ≤ k.spare_bytes

-- a clause may come in the place of the smaller one of an id
pub record MayReplace (k : Seen) (c : ℕ) (T : Clause) (on : Option Literal) : Type 0 where
  pub smaller : Clause
  pub there : slot (slots k) c ≡ Some smaller
  pub larger : IsSubset smaller T
  pub ordered : ArePairs IsBelow T
  pub within : Within k.prefix T
  pub limits : KeepsLimits standard (T ∷ live (slots k))
  pub words : length T ≤ k.arena.spare_words
  pub ids : 1 ≤ k.arena.spare_ids
  pub bytes : 16 * (length T + 1) + 16 * (length smaller + 1) ≤ k.spare_bytes
  pub goes : MayGo k.prefix (T ∷ others c (slots k)) smaller on

-- it has come under an id, and the other clauses are the same
pub record IsReplaced (old new : Seen) (c : ℕ) (T : Clause) (id : ℕ) : Type 0 where
  pub there : slot (slots new) id ≡ Some T
  pub beside : others id (slots new) ≡ others c (slots old)
  pub led : IsLed old new
  pub prefix : new.prefix ≡ old.prefix
  pub words : old.arena.spare_words ≤ new.arena.spare_words + length T
  pub ids : old.arena.spare_ids ≤ new.arena.spare_ids + 1
  pub bytes : (S : Clause) → slot (slots old) c ≡ Some S → old.spare_bytes ≤ new.spare_bytes + (16 * (length T + 1) + 16 * (length S + 1))

-- the clause of an id may go
pub record MayLeave (k : Seen) (c : ℕ) (on : Option Literal) : Type 0 where
  pub clause : Clause
  pub there : slot (slots k) c ≡ Some clause
  pub goes : MayGo k.prefix (others c (slots k)) clause on
  pub bytes : 16 * (length clause + 1) ≤ k.spare_bytes

-- it has gone
pub record HasLeft (old new : Seen) (c : ℕ) : Type 0 where
  pub change : slots new ≡ set_slot c None (slots old)
  pub led : IsLed old new
  pub prefix : new.prefix ≡ old.prefix
  pub room : KeepsRoom old new
  pub bytes : (S : Clause) → slot (slots old) c ≡ Some S → old.spare_bytes ≤ new.spare_bytes + 16 * (length S + 1)
