-- What the steps of a rule have made of a kernel.
use Rattle.std.specs.Prelude.{◌≡◌, ◌≤◌, ◌+◌, ◌*◌, length}
use Rattle.q_logic.specs.Prelude.{Matrix, standard, IsInLimits, size_of, live, Target, change, result_of, AreAlike}
use Rattle.q_kernel.specs.Prelude.{Seen, slots, formula_in, HasSweepBytes, IsLed, IsReady}

-- the bytes that a sweep may take are spare, and twice as many for each literal and clause beside
abbrev pub CanChange : Seen → Type 0
CanChange k = 16 * (3 * size_of (live (slots k)) + length k.prefix) ≤ k.spare_bytes

-- steps have led to these clauses, and a sweep may follow
pub record HasBecome (old new : Seen) (X : Matrix) : Type 0 where
  pub led : IsLed old new
  pub prefix : new.prefix ≡ old.prefix
  pub matrix : live (slots new) ≡ X
  pub limits : IsInLimits standard (formula_in new)
  pub bytes : HasSweepBytes new

-- steps have led to the change of a target, and a sweep may follow
pub record IsChanged (old new : Seen) (t : Target) : Type 0 where
  pub led : IsLed old new
  pub alike : AreAlike (change old.prefix (slots old) t) (formula_in new)
  pub limits : IsInLimits standard (formula_in new)
  pub bytes : HasSweepBytes new

-- steps have led to the result of a target
pub record HasResult (old new : Seen) (t : Target) : Type 0 where
  pub led : IsLed old new
  pub alike : AreAlike (result_of old.prefix (slots old) t) (formula_in new)
  pub ready : IsReady new
