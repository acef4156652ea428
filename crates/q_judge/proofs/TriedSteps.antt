-- What a step that was tried answers: the least cause, or a valid step.
use Rattle.std.proofs.Common.{◌≡◌, ◌≤◌, ◌+◌, ◌*◌, ℕ, Bool, true, false, cond, [], ◌∷◌, Option, Some, None, inl, inr, arith, refl, sym, ◌∙◌, ap, subst, length, set, slice_get, true≢false, Err}
use Rattle.q_logic.specs.declared.limits.Limits.{Limits}
use Rattle.q_logic.specs.Prelude.{Literal, negation, Clause, Matrix, Prefix, PrenexFormula, Distinct, IsFormula, is_bound, is_existential, without, ProofStep, add, delete, drop_literal, fresh, remove_variable, Valid, Cause, Within, IsWarranted, IsDroppable, IsAbsent, IsFresh, KeepsLimits, after, one_less, literals_in, removed, freshened, copies, AreAlike, Slots}
use Rattle.std.specs.Prelude.{if◌then◌else◌, ◌&&◌}
use Rattle.q_prop.proofs.SlotLemmas.{slice_get-append, slice_get-set_other}
use Rattle.q_logic.proofs.Common.{Valid-justified, after-formula, SameClauses, IsIn-alike, alike-sym, one_less-alike, Within as IsWithin, warranted-within, droppable-within, implied-within, outers-same}
use Rattle.q_prop.specs.Slots.{filled, Holds, IsPut}
use Rattle.q_prop.specs.Slots.{without as without_slot}
use Rattle.q_judge.specs.declared.pivots.Warrant.{Warrant}
use Rattle.q_judge.specs.declared.pivots.Warrant.TheVariants.{Propagation, Pivot}
use Rattle.q_judge.specs.declared.undo.Undo.{Undo}
use Rattle.q_judge.specs.declared.error.CheckError.{CheckError}
use Rattle.q_judge.specs.declared.error.CheckError.TheVariants.{Refused, NoMemory}
use Rattle.q_judge.specs.Tried.{IsCounted, IsEntry, IsTried}
use Rattle.q_judge.specs.Entries.{IsPivotEntry, entries_of, kept_pivot}
use Rattle.q_judge.specs.Warrants.{IsWarrant, IsAnswered, IsSlotOf}
use Rattle.q_judge.proofs.SlotCollections.{held-in, in-held, put-same, put-sizes, left-same, left-sizes, emptied-same}

abbrev pub of : Prefix → Matrix → PrenexFormula
of P X = record { prefix = P; matrix = X }

pub add-unbound : (m : Limits) (P : Prefix) (X : Matrix) (p : Option Literal) (C : Clause) → (Within P C → ⊥) → Cause m (of P X) (add p C) 2
add-unbound m P X p C n = record { applies = inl (refl, n); least = λ k l w. elim w [ inl a ↦ let e = a.0 in omega arith | inr b ↦ elim b [ inl a ↦ let e = a.0 in omega arith | inr a ↦ let e = a.0 in omega arith ] ] }

pub warranted : (P : Prefix) (X : Matrix) (p : Option Literal) (C : Clause) (w : Warrant) → IsWarrant P X C p w → IsWarranted P X C p
warranted P X p C Propagation h = inl h
warranted P X p C Pivot h = inr h.1

add-unwarranted : (m : Limits) (P : Prefix) (X : Matrix) (p : Option Literal) (C : Clause) → Within P C → (IsWarranted P X C p → ⊥) → Cause m (of P X) (add p C) 4
add-unwarranted m P X p C h n = record { applies = inr (inl (refl, n)); least = λ k l w. elim w [ inl a ↦ a.1 h | inr b ↦ elim b [ inl a ↦ let e = a.0 in omega arith | inr a ↦ let e = a.0 in omega arith ] ] }

pub add-refused : (keep : Bool) (m : Limits) (P : Prefix) (X : Matrix) (p : Option Literal) (C : Clause) (e : CheckError) → Within P C → IsAnswered P X C p (Err e) → IsTried keep m (of P X) (add p C) (of P X) (Err e)
add-refused keep m P X p C (Refused n) h (q, o) = (refl, rw q (add-unwarranted m P X p C h o))
add-refused keep m P X p C NoMemory h a = refl

pub add-roomless : (m : Limits) (P : Prefix) (X : Matrix) (p : Option Literal) (C : Clause) → Within P C → IsWarranted P X C p → (KeepsLimits m (C ∷ X) → ⊥) → Cause m (of P X) (add p C) 8
add-roomless m P X p C h v n = record { applies = inr (inr (refl, n)); least = λ k l w. elim w [ inl a ↦ a.1 h | inr b ↦ elim b [ inl a ↦ a.1 v | inr a ↦ let e = a.0 in omega arith ] ] }

delete-unbound : (m : Limits) (P : Prefix) (X : Matrix) (p : Option Literal) (C : Clause) → (Within P C → ⊥) → Cause m (of P X) (delete p C) 2
delete-unbound m P X p C n = record { applies = inl (refl, n); least = λ k l w. elim w [ inl a ↦ let e = a.0 in omega arith | inr b ↦ elim b [ inl a ↦ let e = a.0 in omega arith | inr a ↦ let e = a.0 in omega arith ] ] }

delete-missing : (m : Limits) (P : Prefix) (s : Slots) (p : Option Literal) (C : Clause) → Within P C → ((n : ℕ) → Holds s n C → ⊥) → Cause m (of P (filled s)) (delete p C) 3
delete-missing m P s p C h n = record { applies = inr (inl (refl, λ i. let r = in-held s C i in n r.0 r.1)); least = λ k l w. elim w [ inl a ↦ a.1 h | inr b ↦ elim b [ inl a ↦ let e = a.0 in omega arith | inr a ↦ let e = a.0 in omega arith ] ] }

pub delete-unfound : (keep : Bool) (m : Limits) (P : Prefix) (s : Slots) (p : Option Literal) (C : Clause) (e : CheckError) → IsSlotOf P s C (Err e) → IsTried keep m (of P (filled s)) (delete p C) (of P (filled s)) (Err e)
delete-unfound keep m P s p C (Refused n) (inl (q, w)) = (refl, rw q (delete-unbound m P (filled s) p C w))
delete-unfound keep m P s p C (Refused n) (inr (q, w, h)) = (refl, rw q (delete-missing m P s p C w h))
delete-unfound keep m P s p C NoMemory h = absurd h

drop-unbound : (m : Limits) (P : Prefix) (X : Matrix) (l : Literal) (C : Clause) → (Within P C → ⊥) → Cause m (of P X) (drop_literal l C) 2
drop-unbound m P X q C n = record { applies = inl (refl, n); least = λ k l w. elim w [ inl a ↦ let e = a.0 in omega arith | inr b ↦ elim b [ inl a ↦ let e = a.0 in omega arith | inr a ↦ let e = a.0 in omega arith ] ] }

drop-missing : (m : Limits) (P : Prefix) (s : Slots) (l : Literal) (C : Clause) → Within P C → ((n : ℕ) → Holds s n C → ⊥) → Cause m (of P (filled s)) (drop_literal l C) 3
drop-missing m P s q C h n = record { applies = inr (inl (refl, λ i. let r = in-held s C i in n r.0 r.1)); least = λ k l w. elim w [ inl a ↦ a.1 h | inr b ↦ elim b [ inl a ↦ let e = a.0 in omega arith | inr a ↦ let e = a.0 in omega arith ] ] }

pub drop-unfound : (keep : Bool) (m : Limits) (P : Prefix) (s : Slots) (l : Literal) (C : Clause) (e : CheckError) → IsSlotOf P s C (Err e) → IsTried keep m (of P (filled s)) (drop_literal l C) (of P (filled s)) (Err e)
drop-unfound keep m P s l C (Refused n) (inl (q, w)) = (refl, rw q (drop-unbound m P (filled s) l C w))
drop-unfound keep m P s l C (Refused n) (inr (q, w, h)) = (refl, rw q (drop-missing m P s l C w h))
drop-unfound keep m P s l C NoMemory h = absurd h

pub fresh-refused : (m : Limits) (P : Prefix) (X : Matrix) (v w : ℕ) → (IsFresh m P v w → ⊥) → Cause m (of P X) (fresh v w) 6
fresh-refused m P X v w n = record { applies = (refl, n); least = λ k l a. let e = a.0 in omega arith }

pub remove-unbound : (m : Limits) (P : Prefix) (X : Matrix) (v : ℕ) → is_bound P v ≡ false → Cause m (of P X) (remove_variable v) 2
remove-unbound m P X v n = record { applies = inl (refl, n); least = λ k l w. elim w [ inl a ↦ let e = a.0 in omega arith | inr a ↦ let e = a.0 in omega arith ] }

pub remove-occurring : (m : Limits) (P : Prefix) (X : Matrix) (v : ℕ) → is_bound P v ≡ true → (IsAbsent X v → ⊥) → Cause m (of P X) (remove_variable v) 7
remove-occurring m P X v b n = record { applies = inr (refl, n); least = λ k l w. elim w [ inl a ↦ true≢false (sym b ∙ a.1) | inr a ↦ let e = a.0 in omega arith ] }

-- over the other slots or over one copy less
module _ (P : Prefix) (s : Slots) (n : ℕ) (C : Clause) (h : Holds s n C) where
  same : SameClauses (filled (without_slot s (Some n))) (one_less C (filled s))
  same = left-same s n C h

  there : IsWithin (filled (without_slot s (Some n))) (one_less C (filled s))
  there = IsIn-alike (filled (without_slot s (Some n))) (one_less C (filled s)) same

  back : IsWithin (one_less C (filled s)) (filled (without_slot s (Some n)))
  back = IsIn-alike (one_less C (filled s)) (filled (without_slot s (Some n))) (alike-sym (filled (without_slot s (Some n))) (one_less C (filled s)) same)

  delete-unwarranted : (m : Limits) (p : Option Literal) → Within P C → (IsWarranted P (filled (without_slot s (Some n))) C p → ⊥) → Cause m (of P (filled s)) (delete p C) 4
  delete-unwarranted m p w o = record {
    applies = inr (inr (refl, λ v. o (warranted-within P (one_less C (filled s)) (filled (without_slot s (Some n))) C p back there v)));
    least = λ k l x. elim x [ inl a ↦ a.1 w | inr b ↦ elim b [ inl a ↦ a.1 (held-in s n C h) | inr a ↦ let e = a.0 in omega arith ] ];
  }

  pub delete-refused : (keep : Bool) (m : Limits) (p : Option Literal) (e : CheckError) → Within P C → IsAnswered P (filled (without_slot s (Some n))) C p (Err e) → IsTried keep m (of P (filled s)) (delete p C) (of P (filled s)) (Err e)
  delete-refused keep m p (Refused k) w (q, o) = (refl, rw q (delete-unwarranted m p w o))
  delete-refused keep m p NoMemory w a = refl

  pub delete-valid : (m : Limits) (p : Option Literal) → Within P C → IsWarranted P (filled (without_slot s (Some n))) C p → Valid m (of P (filled s)) (delete p C)
  delete-valid m p w v = (w, held-in s n C h, warranted-within P (filled (without_slot s (Some n))) (one_less C (filled s)) C p there back v)

  pub delete-after : (p : Option Literal) → AreAlike (after (of P (filled s)) (delete p C)) (of P (filled (set s n None)))
  delete-after p = record { prefix = refl; clauses = alike-sym (filled (without_slot s (Some n))) (one_less C (filled s)) same }

  pub drop-refused : (m : Limits) (l : Literal) → Within P C → (IsDroppable P (filled (without_slot s (Some n))) C l → ⊥) → Cause m (of P (filled s)) (drop_literal l C) 5
  drop-refused m l w o = record {
    applies = inr (inr (refl, λ v. o (droppable-within P (one_less C (filled s)) (filled (without_slot s (Some n))) C l back there v)));
    least = λ k j x. elim x [ inl a ↦ a.1 w | inr b ↦ elim b [ inl a ↦ a.1 (held-in s n C h) | inr a ↦ let e = a.0 in omega arith ] ];
  }

  pub drop-valid : (m : Limits) (l : Literal) → Within P C → IsDroppable P (filled (without_slot s (Some n))) C l → Valid m (of P (filled s)) (drop_literal l C)
  drop-valid m l w v = (w, held-in s n C h, droppable-within P (filled (without_slot s (Some n))) (one_less C (filled s)) C l there back v)

  none_entries : (u : Option Undo) → u ≡ None → entries_of u ≡ []
  none_entries u e = ap entries_of e

  pub delete-entry : (keep : Bool) (p : Option Literal) (w : Warrant) (u : Option Undo) → IsWarrant P (filled (without_slot s (Some n))) C p w → IsPivotEntry P (filled (without_slot s (Some n))) (kept_pivot keep w p) u → IsEntry keep (of P (filled s)) (delete p C) u
  delete-entry false p w u v e = e
  delete-entry true p Propagation u v e = inl (implied-within (filled (without_slot s (Some n))) (one_less C (filled s)) C there v, none_entries u e)
  delete-entry true p Pivot u (i, (l, f, q)) e =
      let r = rw f at e in
      inr ((λ j. i (implied-within (one_less C (filled s)) (filled (without_slot s (Some n))) C back j)), (l, r.0, f, outers-same P (filled (without_slot s (Some n))) (one_less C (filled s)) (negation l) r.0 (left-same s n C h) r.1, r.2))

pub add-after : (P : Prefix) (s t : Slots) (n : ℕ) (p : Option Literal) (C : Clause) → IsPut s n C t → AreAlike (after (of P (filled s)) (add p C)) (of P (filled t))
add-after P s t n p C h = record { prefix = refl; clauses = alike-sym (filled t) (C ∷ filled s) (put-same s t n C h) }

-- the formula after a valid step, in another order, is a formula
pub alike-formula : (F G : PrenexFormula) → AreAlike F G → IsFormula F → IsFormula G
alike-formula F G a f = record {
  distinct = subst (λ (P : Prefix). Distinct P) a.prefix f.distinct;
  closed = λ D d k m. subst (λ (P : Prefix). is_bound P k.var ≡ true) a.prefix (f.closed D (IsIn-alike G.matrix F.matrix (λ C. sym (a.clauses C)) D d) k m);
}

pub valid-formula : (m : Limits) (F G : PrenexFormula) (s : ProofStep) → Valid m F s → AreAlike (after F s) G → IsFormula F → IsFormula G
valid-formula m F G s v a f = alike-formula (after F s) G a (after-formula F s f (Valid-justified m F s v))

pub add-valid : (m : Limits) (P : Prefix) (X : Matrix) (p : Option Literal) (C : Clause) (clauses lits : ℕ) → IsCounted (of P X) clauses lits → Within P C → IsWarranted P X C p → (clauses + 1 ≤ 4 * m.clauses) × (length C + lits ≤ 4 * m.lits) → Valid m (of P X) (add p C)
add-valid m P X p C clauses lits i w v r = (w, v, record { clauses = (let a = r.0 in let b = i.clauses_are in omega (arith, a, b)); lits = (let a = r.1 in let b = i.lits_are in omega (arith, a, b)) })

pub add-full : (m : Limits) (P : Prefix) (X : Matrix) (p : Option Literal) (C : Clause) (clauses lits : ℕ) → IsCounted (of P X) clauses lits → Within P C → IsWarranted P X C p → ((clauses + 1 ≤ 4 * m.clauses) × (length C + lits ≤ 4 * m.lits) → ⊥) → Cause m (of P X) (add p C) 8
add-full m P X p C clauses lits i w v n = add-roomless m P X p C w v (λ k. n ((let a = k.clauses in let b = i.clauses_are in omega (arith, a, b)), (let a = k.lits in let b = i.lits_are in omega (arith, a, b))))

pub add-entry : (keep : Bool) (F : PrenexFormula) (p : Option Literal) (C : Clause) → IsEntry keep F (add p C) None
add-entry false F p C = refl
add-entry true F p C = refl

pub drop-entry : (keep : Bool) (F : PrenexFormula) (l : Literal) (C : Clause) → IsEntry keep F (drop_literal l C) None
drop-entry false F l C = refl
drop-entry true F l C = refl

no_entry : (u : Option Undo) → entries_of u ≡ [] → u ≡ None
no_entry None e = refl
no_entry (Some x) e = cc

pub fresh-entry : (keep : Bool) (F : PrenexFormula) (v w : ℕ) (u : Option Undo) → entries_of u ≡ (if keep then freshened v ∷ [] else []) → IsEntry keep F (fresh v w) u
fresh-entry false F v w u e = no_entry u e
fresh-entry true F v w u e = e

pub removed-entry : (keep : Bool) (F : PrenexFormula) (v : ℕ) (x : Bool) (u : Option Undo) → x ≡ is_existential F.prefix v → entries_of u ≡ (if keep && x then removed v ∷ [] else []) → IsEntry keep F (remove_variable v) u
removed-entry false F v x u q e = no_entry u e
removed-entry true F v true u q e = e ∙ ap (λ (b : Bool). cond b (removed v ∷ []) []) q
removed-entry true F v false u q e = e ∙ ap (λ (b : Bool). cond b (removed v ∷ []) []) q

-- a clause that is put aside first stays where it is
pub put-holds : (s t : Slots) (n k : ℕ) (C D : Clause) → IsPut s k D t → Holds s n C → Holds t n C
put-holds s t n k C D (inl h) e = rw (h.1) (slice_get-append s (Some D ∷ []) n (Some C) e)
put-holds s t n k C D (inr h) e = rw (h.1) (slice_get-set_other s k n (Some D) (λ f. other (sym h.0 ∙ ap (slice_get s) (sym f) ∙ e)) ∙ e)
  where
    other : Some None ≡ Some (Some C) → ⊥
    other x = cc

pub drop-after : (P : Prefix) (s t : Slots) (n k : ℕ) (l : Literal) (C : Clause) → Holds s n C → IsPut s k (without l C) t → AreAlike (after (of P (filled s)) (drop_literal l C)) (of P (filled (set t n None)))
drop-after P s t n k l C h p = record { prefix = refl; clauses = λ D. step D }
  where
    step : (D : Clause) → copies D (without l C ∷ one_less C (filled s)) ≡ copies D (filled (set t n None))
    step D =
        let a : copies D (filled t) ≡ copies D (without l C ∷ filled s) = put-same s t k (without l C) p D in
        let b : copies D (filled t) ≡ copies D (C ∷ filled (set t n None)) = emptied-same t n C (put-holds s t n k C (without l C) p h) D in
        let e : copies D (filled s) ≡ copies D (C ∷ one_less C (filled s)) = one_less-alike C (filled s) (held-in s n C h) D in
        grind arith

pub drop-sizes : (s t : Slots) (n k : ℕ) (l : Literal) (C : Clause) → Holds s n C → IsPut s k (without l C) t → (length (filled (set t n None)) ≡ length (filled s)) × (literals_in (filled (set t n None)) + length C ≡ literals_in (filled s) + length (without l C))
drop-sizes s t n k l C h p =
    let a = put-sizes s t k (without l C) p in
    let b = left-sizes t n C (put-holds s t n k C (without l C) p h) in
    (omega (arith, a.0, b.0), omega (arith, a.1, b.1))
