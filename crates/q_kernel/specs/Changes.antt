-- What the step calls of a kernel ask for, and what they change.
use Rattle.std.specs.Prelude.{◌≡◌, ◌≤◌, ◌+◌, ℕ, List, ◌++◌, length, Option, Some, None}
use Rattle.std.specs.List.{AllByRecursion}
use Rattle.q_logic.specs.Prelude.{Clause, PrenexFormula, IsIn, Literal, IsBelow, ArePairs, without, standard, ProofStep, add, delete, drop_literal, fresh, remove_variable, Valid, insert_after, removed_from, first_of, IsFirst, ValidSteps, AreAlike, slot, set_slot}
use Rattle.q_log.specs.Texts.{IsLogged, step_text, steps_text}
use Rattle.q_kernel.specs.Kernels.{Seen, slots, formula_in, KeepsRoom}

-- valid steps lead from one formula to the other, up to the order of clauses, and their text has come behind the log;
-- the steps are such that this text is read as them
pub record IsLed (old new : Seen) : Type 0 where
  pub steps : List ProofStep
  pub logged : AllByRecursion IsLogged steps
  pub text : new.text ≡ old.text ++ steps_text steps
  pub last : PrenexFormula
  pub valid : ValidSteps standard (formula_in old) steps last
  pub alike : AreAlike last (formula_in new)

-- a step is valid now, and there is room for its text
pub record MayStep (k : Seen) (s : ProofStep) : Type 0 where
  pub valid : Valid standard (formula_in k) s
  pub bytes : length (step_text s) ≤ k.spare_bytes

-- exactly this step has come behind the log
pub record HasLogged (old new : Seen) (s : ProofStep) : Type 0 where
  pub text : new.text ≡ old.text ++ step_text s
  pub bytes : old.spare_bytes ≡ new.spare_bytes + length (step_text s)
  pub led : IsLed old new

-- a clause with this first literal may come
pub record MayAdd (k : Seen) (p : Option Literal) (C : Clause) : Type 0 where
  pub ordered : ArePairs IsBelow C
  pub first : IsFirst p C
  pub step : MayStep k (add p C)
  pub words : length C ≤ k.arena.spare_words
  pub ids : 1 ≤ k.arena.spare_ids

-- the clause has come, under an id that was not live
pub record IsAdded (old new : Seen) (p : Option Literal) (C : Clause) (id : ℕ) : Type 0 where
  pub free : slot (slots old) id ≡ None
  pub change : slots new ≡ set_slot id (Some C) (slots old)
  pub there : slot (slots new) id ≡ Some C
  pub prefix : new.prefix ≡ old.prefix
  pub logged : HasLogged old new (add p C)
  pub words : old.arena.spare_words ≤ new.arena.spare_words + length C
  pub ids : old.arena.spare_ids ≤ new.arena.spare_ids + 1
  pub vars : old.spare_vars ≤ new.spare_vars
  pub greatest : old.greatest ≤ new.greatest

-- the clause of an id may go by this step
pub record MayDelete (k : Seen) (id : ℕ) (p : Clause → Option Literal) : Type 0 where
  pub clause : Clause
  pub there : slot (slots k) id ≡ Some clause
  pub first : IsFirst (p clause) clause
  pub step : MayStep k (delete (p clause) clause)

-- the clause has gone
pub record IsDeleted (old new : Seen) (id : ℕ) (p : Clause → Option Literal) : Type 0 where
  pub clause : Clause
  pub was : slot (slots old) id ≡ Some clause
  pub change : slots new ≡ set_slot id None (slots old)
  pub prefix : new.prefix ≡ old.prefix
  pub logged : HasLogged old new (delete (p clause) clause)
  pub room : KeepsRoom old new

-- the clause of an id may lose the literal by this step
pub record MayDrop (k : Seen) (id : ℕ) (l : Literal) : Type 0 where
  pub clause : Clause
  pub there : slot (slots k) id ≡ Some clause
  pub step : MayStep k (drop_literal l clause)

-- the clause has lost the literal, under its id
pub record IsDropped (old new : Seen) (id : ℕ) (l : Literal) : Type 0 where
  pub clause : Clause
  pub was : slot (slots old) id ≡ Some clause
  pub change : slots new ≡ set_slot id (Some (without l clause)) (slots old)
  pub prefix : new.prefix ≡ old.prefix
  pub logged : HasLogged old new (drop_literal l clause)
  pub room : KeepsRoom old new

-- the shorter clause is implied, and there is room for the text of both steps
pub record MayShrink (k : Seen) (id : ℕ) (l : Literal) : Type 0 where
  pub clause : Clause
  pub there : slot (slots k) id ≡ Some clause
  pub held : IsIn l clause
  pub valid : Valid standard (formula_in k) (add (first_of (without l clause)) (without l clause))
  pub bytes : length (step_text (add (first_of (without l clause)) (without l clause))) + length (step_text (delete (first_of clause) clause)) ≤ k.spare_bytes

-- the clause has lost the literal, under its id, by the addition of the shorter clause and the deletion of the longer one
pub record IsShrunk (old new : Seen) (id : ℕ) (l : Literal) : Type 0 where
  pub clause : Clause
  pub was : slot (slots old) id ≡ Some clause
  pub change : slots new ≡ set_slot id (Some (without l clause)) (slots old)
  pub prefix : new.prefix ≡ old.prefix
  pub text : new.text ≡ old.text ++ (step_text (add (first_of (without l clause)) (without l clause)) ++ step_text (delete (first_of clause) clause))
  pub bytes : old.spare_bytes ≡ new.spare_bytes + (length (step_text (add (first_of (without l clause)) (without l clause))) + length (step_text (delete (first_of clause) clause)))
  pub led : IsLed old new
  pub room : KeepsRoom old new

-- a fresh existential variable v may come behind w
pub record MayFresh (k : Seen) (v w : ℕ) : Type 0 where
  pub step : MayStep k (fresh v w)
  pub reserved : v ≤ k.greatest
  pub spare : 1 ≤ k.spare_vars

pub record IsFreshened (old new : Seen) (v w : ℕ) : Type 0 where
  pub prefix : new.prefix ≡ insert_after w v old.prefix
  pub change : slots new ≡ slots old
  pub logged : HasLogged old new (fresh v w)
  pub words : old.arena.spare_words ≤ new.arena.spare_words
  pub ids : old.arena.spare_ids ≤ new.arena.spare_ids
  pub vars : old.spare_vars ≡ new.spare_vars + 1
  pub greatest : old.greatest ≤ new.greatest

-- the variable has left the prefix
pub record IsRemoved (old new : Seen) (v : ℕ) : Type 0 where
  pub prefix : new.prefix ≡ removed_from v old.prefix
  pub change : slots new ≡ slots old
  pub logged : HasLogged old new (remove_variable v)
  pub room : KeepsRoom old new
