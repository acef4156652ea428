-- What a step that was tried on numbered clauses answers: the least cause, or a valid step and what shows it.
use Rattle.std.proofs.Common.{◌≡◌, ℕ, ◌∷◌, ◌++◌, [], Option, Some, None, inl, inr, arith, refl, Err, Ok}
use Rattle.q_logic.specs.declared.limits.Limits.{Limits}
use Rattle.q_logic.specs.Prelude.{Literal, Clause, Prefix, IsIn, NumberedFormula, ProofPart, Slots, slot, set_slot, live, formula_of, add, delete, drop_literal, Cause, Within, IsWarranted, IsDroppable, KeepsLimits, one_less}
use Rattle.q_logic.proofs.Common.{warranted-within, droppable-within, live-slot}
use Rattle.q_logic.proofs.HintedRuns.{forward, backward, shows-warranted}
use Rattle.q_judge.specs.declared.error.CheckError.{CheckError}
use Rattle.q_judge.specs.declared.error.CheckError.TheVariants.{Refused, NoMemory}
use Rattle.q_check.specs.Annotations.{IsShown, IsDropShown, IsAnnotated}

module _ (m : Limits) (P : Prefix) (N : Slots) where
  F : NumberedFormula
  F = record { prefix = P; slots = N }

  add-unwarranted : (p : Option Literal) (C : Clause) → Within P C → ¬ IsWarranted P (live N) C p → Cause m (formula_of P (live N)) (add p C) 4
  add-unwarranted p C h n = record { applies = inr (inl (refl, n)); least = λ k l w. elim w [ inl a ↦ a.1 h | inr b ↦ elim b [ inl a ↦ let e = a.0 in omega arith | inr a ↦ let e = a.0 in omega arith ] ] }

  pub add-not_shown : (p : Option Literal) (C : Clause) (e : CheckError) → Within P C → IsShown P N C p 0 (Err e) → IsAnnotated m (record { prefix = P; slots = N }) (add p C) (record { prefix = P; slots = N }) (Err e)
  add-not_shown p C (Refused n) h (q, o) = (refl, rw q (add-unwarranted p C h o))
  add-not_shown p C NoMemory h a = refl

  pub delete-unbound : (p : Option Literal) (C : Clause) → ¬ Within P C → Cause m (formula_of P (live N)) (delete p C) 2
  delete-unbound p C n = record { applies = inl (refl, n); least = λ k l w. elim w [ inl a ↦ let e = a.0 in omega arith | inr b ↦ elim b [ inl a ↦ let e = a.0 in omega arith | inr a ↦ let e = a.0 in omega arith ] ] }

  pub delete-missing : (p : Option Literal) (C : Clause) → Within P C → ¬ IsIn C (live N) → Cause m (formula_of P (live N)) (delete p C) 3
  delete-missing p C h n = record { applies = inr (inl (refl, n)); least = λ k l w. elim w [ inl a ↦ a.1 h | inr b ↦ elim b [ inl a ↦ let e = a.0 in omega arith | inr a ↦ let e = a.0 in omega arith ] ] }

  pub drop-unbound : (l : Literal) (C : Clause) → ¬ Within P C → Cause m (formula_of P (live N)) (drop_literal l C) 2
  drop-unbound q C n = record { applies = inl (refl, n); least = λ k l w. elim w [ inl a ↦ let e = a.0 in omega arith | inr b ↦ elim b [ inl a ↦ let e = a.0 in omega arith | inr a ↦ let e = a.0 in omega arith ] ] }

  pub drop-missing : (l : Literal) (C : Clause) → Within P C → ¬ IsIn C (live N) → Cause m (formula_of P (live N)) (drop_literal l C) 3
  drop-missing q C h n = record { applies = inr (inl (refl, n)); least = λ k l w. elim w [ inl a ↦ a.1 h | inr b ↦ elim b [ inl a ↦ let e = a.0 in omega arith | inr a ↦ let e = a.0 in omega arith ] ] }

  module _ (n : ℕ) (C : Clause) (h : slot N n ≡ Some C) where
    delete-unwarranted : (p : Option Literal) → Within P C → ¬ IsWarranted P (live (set_slot n None N)) C p → Cause m (formula_of P (live N)) (delete p C) 4
    delete-unwarranted p w o = record {
      applies = inr (inr (refl, λ v. o (warranted-within P (one_less C (live N)) (live (set_slot n None N)) C p (backward N n C h) (forward N n C h) v)));
      least = λ k l x. elim x [ inl a ↦ a.1 w | inr b ↦ elim b [ inl a ↦ a.1 (live-slot N n C h) | inr a ↦ let e = a.0 in omega arith ] ];
    }

    pub delete-not_shown : (p : Option Literal) (e : CheckError) → Within P C → IsShown P (set_slot n None N) C p n (Err e) → IsAnnotated m (record { prefix = P; slots = N }) (delete p C) (record { prefix = P; slots = N }) (Err e)
    delete-not_shown p (Refused k) w (q, o) = (refl, rw q (delete-unwarranted p w o))
    delete-not_shown p NoMemory w a = refl

    drop-refused : (l : Literal) → Within P C → ¬ IsDroppable P (live (set_slot n None N)) C l → Cause m (formula_of P (live N)) (drop_literal l C) 5
    drop-refused l w o = record {
      applies = inr (inr (refl, λ v. o (droppable-within P (one_less C (live N)) (live (set_slot n None N)) C l (backward N n C h) (forward N n C h) v)));
      least = λ k j x. elim x [ inl a ↦ a.1 w | inr b ↦ elim b [ inl a ↦ a.1 (live-slot N n C h) | inr a ↦ let e = a.0 in omega arith ] ];
    }

    pub drop-not_shown : (l : Literal) (e : CheckError) → Within P C → IsDropShown P (set_slot n None N) C l n (Err e) → IsAnnotated m (record { prefix = P; slots = N }) (drop_literal l C) (record { prefix = P; slots = N }) (Err e)
    drop-not_shown l (Refused k) w (q, o) = (refl, rw q (drop-refused l w o))
    drop-not_shown l NoMemory w a = refl

    pub delete-shown : (p : Option Literal) (t : ProofPart) → Within P C → IsShown P (set_slot n None N) C p n (Ok t) →
        IsAnnotated m (record { prefix = P; slots = N }) (delete p C) (record { prefix = P; slots = set_slot n None N }) (Ok t)
    delete-shown p t w (q, s) = rw q ((w, h, s), refl, tt)

    pub drop-shown : (l : Literal) (t : ProofPart) (R : Clause) → R ≡ Rattle.q_logic.specs.Pivots.without l C → Within P C → IsDropShown P (set_slot n None N) C l n (Ok t) →
        IsAnnotated m (record { prefix = P; slots = N }) (drop_literal l C) (record { prefix = P; slots = set_slot n (Some R) N }) (Ok t)
    drop-shown l t R r w (q, s, f) = rw (q, r) ((w, h, s), refl, f)

pub shown-warranted : (P : Prefix) (N : Slots) (p : Option Literal) (C : Clause) (n : ℕ) (t : ProofPart) → IsShown P N C p n (Ok t) → IsWarranted P (live N) C p
shown-warranted P N p C n t s = shows-warranted P N C p t s.1

pub add-shown : (m : Limits) (P : Prefix) (N : Slots) (p : Option Literal) (C : Clause) (t : ProofPart) → Within P C → KeepsLimits m (C ∷ live N) → IsShown P N C p 0 (Ok t) →
    IsAnnotated m (record { prefix = P; slots = N }) (add p C) (record { prefix = P; slots = N ++ Some C ∷ [] }) (Ok t)
add-shown m P N p C t w k s = ((w, s.1, k), refl, s.0)
