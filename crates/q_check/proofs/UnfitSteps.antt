-- What a step that can't be made answers, and how answers are carried over.
use Rattle.std.proofs.Common.{◌≡◌, ◌<◌, ℕ, inl, inr, arith, refl, Option, Result, Ok, Err, ap, sym}
use Rattle.std.specs.Prelude.{OnOk}
use Rattle.q_logic.specs.declared.limits.Limits.{Limits}
use Rattle.q_logic.specs.Prelude.{Literal, Clause, Matrix, Prefix, PrenexFormula, IsIn, Within, Slots, ProofStep, add, delete, drop_literal, copies, AreAlike}
use Rattle.q_prop.specs.Slots.{filled, Holds}
use Rattle.q_judge.specs.declared.error.CheckError.{CheckError}
use Rattle.q_judge.specs.declared.error.CheckError.TheVariants.{Refused, NoMemory}
use Rattle.q_judge.specs.Ledgers.{slotted, formula_in}
use Rattle.q_judge.specs.Warrants.{IsSlotOf}
use Rattle.q_judge.proofs.StartFormula.{filled-numbered}
use Rattle.q_judge.proofs.SlotCollections.{in-held}
use Rattle.q_judge.proofs.TriedSteps.{of}
use Rattle.q_same_steps.specs.Making.{Unfit}
use Rattle.q_check.specs.Replays.{IsUnfitFor}

pub on_ok : {T E : Type 0} (r : Result T E) (A B : Type 0) → (A → B) → OnOk r A → OnOk r B
on_ok (Ok x) A B f a = f a
on_ok (Err e) A B f a = a

delete-unbound : (m : Limits) (P : Prefix) (X : Matrix) (p : Option Literal) (C : Clause) → (Within P C → ⊥) → Unfit m (of P X) (delete p C) 2
delete-unbound m P X p C n = record { applies = inl (refl, n); least = λ k l w. elim w [ inl a ↦ let e = a.0 in omega arith | inr a ↦ let e = a.0 in omega arith ] }

delete-missing : (m : Limits) (P : Prefix) (s : Slots) (p : Option Literal) (C : Clause) → Within P C → ((n : ℕ) → Holds s n C → ⊥) → Unfit m (of P (filled s)) (delete p C) 3
delete-missing m P s p C h n = record { applies = inr (refl, λ i. let r = in-held s C i in n r.0 r.1); least = λ k l w. elim w [ inl a ↦ a.1 h | inr a ↦ let e = a.0 in omega arith ] }

pub delete-unfound : (P : Prefix) (s : Slots) (C : Clause) (e : CheckError) → IsSlotOf P s C (Err e) → (m : Limits) (p : Option Literal) → IsUnfitFor m (of P (filled s)) (delete p C) e
delete-unfound P s C (Refused n) (inl (q, w)) m p = rw q (delete-unbound m P (filled s) p C w)
delete-unfound P s C (Refused n) (inr (q, w, h)) m p = rw q (delete-missing m P s p C w h)
delete-unfound P s C NoMemory h m p = absurd h

drop-unbound : (m : Limits) (P : Prefix) (X : Matrix) (l : Literal) (C : Clause) → (Within P C → ⊥) → Unfit m (of P X) (drop_literal l C) 2
drop-unbound m P X q C n = record { applies = inl (refl, n); least = λ k l w. elim w [ inl a ↦ let e = a.0 in omega arith | inr a ↦ let e = a.0 in omega arith ] }

drop-missing : (m : Limits) (P : Prefix) (s : Slots) (l : Literal) (C : Clause) → Within P C → ((n : ℕ) → Holds s n C → ⊥) → Unfit m (of P (filled s)) (drop_literal l C) 3
drop-missing m P s q C h n = record { applies = inr (refl, λ i. let r = in-held s C i in n r.0 r.1); least = λ k l w. elim w [ inl a ↦ a.1 h | inr a ↦ let e = a.0 in omega arith ] }

pub drop-unfound : (P : Prefix) (s : Slots) (l : Literal) (C : Clause) (e : CheckError) → IsSlotOf P s C (Err e) → (m : Limits) → IsUnfitFor m (of P (filled s)) (drop_literal l C) e
drop-unfound P s l C (Refused n) (inl (q, w)) m = rw q (drop-unbound m P (filled s) l C w)
drop-unfound P s l C (Refused n) (inr (q, w, h)) m = rw q (drop-missing m P s l C w h)
drop-unfound P s l C NoMemory h m = absurd h

pub slotted-alike : (F : PrenexFormula) → AreAlike F (formula_in (slotted F))
slotted-alike F = record { prefix = refl; clauses = λ C. ap (copies C) (sym (filled-numbered F.matrix)) }
