-- How a literal takes the place of an equivalent one, step by step.
use Rattle.std.specs.Prelude.{◌≡◌, ◌≢◌, ◌≤◌, ◌+◌, ◌*◌, ℕ, true, false, cond, eqb, [], ◌∷◌, length, Some}
use Rattle.q_logic.specs.Prelude.{Literal, IsBelow, negation, Clause, Matrix, Prefix, insert, ArePairs, is_existential, outer_or_same, Implied, size_of, has_variable, put_unless_tautology, literals_in, Within, KeepsLimits, standard, slot, live, others, copies, merged}
use Rattle.q_kernel.specs.Prelude.{Seen, slots, IsLed}
use Rattle.q_equiv.specs.declared.bridge.Bridge.{Bridge}

-- the literals have different variables, that of gone is existential, and that of keep is not inner to it
pub record CanStandFor (P : Prefix) (keep gone : Literal) : Type 0 where
  pub different : eqb keep.var gone.var ≡ false
  pub existential : is_existential P gone.var ≡ true
  pub kept_outer : outer_or_same P keep.var gone.var ≡ true

-- the clauses by which keep gives gone, and gone gives keep
abbrev pub over_clause : Literal → Literal → Clause
over_clause keep gone = insert (negation keep) (gone ∷ [])

abbrev pub back_clause : Literal → Literal → Clause
back_clause keep gone = insert keep (negation gone ∷ [])

-- a number for each clause with the variable, all together
abbrev pub total_with : (Clause → ℕ) → ℕ → Matrix → ℕ
total_with w v [] = 0
total_with w v (C ∷ X) = cond (has_variable v C) (w C) 0 + total_with w v X

-- one for each clause; the literals of a clause, and one more
abbrev pub one : Clause → ℕ
one C = 1

abbrev pub size : Clause → ℕ
size C = length C + 1

-- enough is reserved for the steps by which a variable goes
pub record HasRoomFor (k : Seen) (v : ℕ) : Type 0 where
  pub words : total_with length v (live (slots k)) + 8 ≤ k.arena.spare_words
  pub ids : total_with one v (live (slots k)) + 4 ≤ k.arena.spare_ids
  pub bytes : 16 * (3 * size_of (live (slots k)) + length k.prefix) + 384 ≤ k.spare_bytes

-- the same once the clauses that join the two literals have come
pub record HasRenamingRoom (k : Seen) (v : ℕ) : Type 0 where
  pub words : total_with length v (live (slots k)) ≤ k.arena.spare_words
  pub ids : total_with one v (live (slots k)) ≤ k.arena.spare_ids
  pub bytes : 32 * total_with size v (live (slots k)) + 16 * (size_of (live (slots k)) + length k.prefix) ≤ k.spare_bytes
  pub clauses : length (live (slots k)) ≤ 33554434
  pub lits : literals_in (live (slots k)) ≤ 134217732

-- the two clauses have their ids
pub record IsBridged (keep gone : Literal) (k : Seen) (b : Bridge) : Type 0 where
  pub over : slot (slots k) b.over ≡ Some (over_clause keep gone)
  pub back : slot (slots k) b.back ≡ Some (back_clause keep gone)

-- the two clauses have come
pub record IsBuilt (keep gone : Literal) (old new : Seen) (b : Bridge) : Type 0 where
  pub led : IsLed old new
  pub prefix : new.prefix ≡ old.prefix
  pub bridge : IsBridged keep gone new b
  pub clauses : (C : Clause) → copies C (live (slots new)) ≡ copies C (over_clause keep gone ∷ back_clause keep gone ∷ live (slots old))
  pub room : HasRenamingRoom new gone.var
  pub grown : total_with length gone.var (live (slots new)) ≤ total_with length gone.var (live (slots old)) + 8

-- beside them, all clauses are renamed
pub record IsRenamed (keep gone : Literal) (old new : Seen) (b : Bridge) : Type 0 where
  pub led : IsLed old new
  pub prefix : new.prefix ≡ old.prefix
  pub bridge : IsBridged keep gone new b
  pub clauses : (X : Matrix) → ((C : Clause) → copies C (live (slots old)) ≡ copies C (over_clause keep gone ∷ back_clause keep gone ∷ X)) → (C : Clause) → copies C (live (slots new)) ≡ copies C (over_clause keep gone ∷ back_clause keep gone ∷ merged keep gone X)
  pub bytes : 16 * (size_of (live (slots new)) + length new.prefix) ≤ new.spare_bytes

-- another clause may take the place of the clause of an id, or nothing where the other clause is a tautology
pub record MayReplace (k : Seen) (id : ℕ) (R : Clause) : Type 0 where
  pub clause : Clause
  pub there : slot (slots k) id ≡ Some clause
  pub ordered : ArePairs IsBelow R
  pub within : Within k.prefix R
  pub may_come : Implied (live (slots k)) R
  pub may_go : Implied (put_unless_tautology R (others id (slots k))) clause
  pub limits : KeepsLimits standard (R ∷ live (slots k))
  pub words : length R ≤ k.arena.spare_words
  pub ids : 1 ≤ k.arena.spare_ids
  pub bytes : 16 * (length R + 1) + 16 * (length clause + 1) ≤ k.spare_bytes

-- it has taken its place
pub record IsReplaced (old new : Seen) (id : ℕ) (R : Clause) : Type 0 where
  pub led : IsLed old new
  pub prefix : new.prefix ≡ old.prefix
  pub clause : Clause
  pub was : slot (slots old) id ≡ Some clause
  pub clauses : (C : Clause) → copies C (live (slots new)) ≡ copies C (put_unless_tautology R (others id (slots old)))
  pub kept : (c : ℕ) (D : Clause) → c ≢ id → slot (slots old) c ≡ Some D → slot (slots new) c ≡ Some D
  pub words : old.arena.spare_words ≤ new.arena.spare_words + length R
  pub ids : old.arena.spare_ids ≤ new.arena.spare_ids + 1
  pub bytes : old.spare_bytes ≤ new.spare_bytes + (16 * (length R + 1) + 16 * (length clause + 1))
