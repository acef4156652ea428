-- Sweeping step by step: the clauses beside an empty one go, and then the idle variables.
use Rattle.std.proofs.Common.{◌≡◌, ◌≢◌, ◌⊎◌, ◌≤◌, ◌<◌, ◌+◌, ◌*◌, ℕ, zero, suc, Bool, true, false, cond, eqb, List, [], ◌∷◌, length, slice_get, inl, inr, arith, refl, sym, ap, ◌∙◌, subst, Option, Some, None, true≢false, not-suc-le-zero}
use Rattle.q_logic.specs.Prelude.{Literal, Clause, Matrix, Prefix, IsIn, PrenexFormula, IsProper, is_bound, standard, delete, remove_variable, Valid, one_less, removed_from, first_of, copies, has_empty, occurs, size_of, Slots, slot, set_slot, live, others, put_first}
use Rattle.q_logic.proofs.Common.{IsIn-alike, copies-IsIn, IsIn-copies, others-slot, implied-subsumed, before_or_at, slot-below, live-slot, slot-set_other}
use Rattle.q_logic.proofs.SweepRun.{occurs_var-of, has_empty-IsIn}
use Rattle.q_log.specs.Texts.{step_text}
use Rattle.q_log.proofs.WritableRuns.{first-of}
use Rattle.q_kernel.specs.Kernels.{Seen, slots, formula_in}
use Rattle.q_kernel.specs.Changes.{MayStep}
use Rattle.q_kernel.proofs.SlotLists.{slot-set_same, alike-others, IsIn-has_empty, size-gone, live-none}
use Rattle.q_kernel.proofs.TextCosts.{cost-delete, cost-remove, proper-in_order, proper-small, proper-var}

-- What sweeping leaves.
pub counted-empty : (X : Matrix) → 1 ≤ copies [] X → has_empty X ≡ true
counted-empty X h = IsIn-has_empty X (copies-IsIn [] X h)

pub counted-full : (X : Matrix) → copies [] X ≡ 0 → has_empty X ≡ false
counted-full X e = go (has_empty X) refl
  where
    go : (b : Bool) → has_empty X ≡ b → b ≡ false
    go false q = refl
    go true q = let z : 1 ≤ copies [] X = IsIn-copies [] X (has_empty-IsIn X q) in absurd (omega arith)

-- A clause beside an empty one may go.
pub valid-beside_empty : (F : PrenexFormula) (N : Slots) (kept c : ℕ) (C : Clause) (p : Option Literal) → IsProper F → F.matrix ≡ live N → slot N kept ≡ Some [] → slot N c ≡ Some C → kept ≢ c → Valid standard F (delete p C)
valid-beside_empty F N kept c C p f e k s n =
    let m : IsIn C F.matrix = subst (λ (X : Matrix). IsIn C X) (sym e) (live-slot N c C s) in
    let o : IsIn [] (one_less C (live N)) = IsIn-alike (others c N) (one_less C (live N)) (alike-others N c C s) [] (others-slot N kept c [] n k) in
    (λ j i. f.formula.closed C m j i, m, inl (implied-subsumed (one_less C F.matrix) [] C (subst (λ (X : Matrix). IsIn [] (one_less C X)) (sym e) o) (λ j i. elim i [ ])))

-- And there is room for its text, and then for what is left.
pub may-delete : (k : Seen) (kept c : ℕ) (C : Clause) → IsProper (formula_in k) → slot (slots k) kept ≡ Some [] → slot (slots k) c ≡ Some C → kept ≢ c
    → 16 * (size_of (live (slots k)) + length k.prefix) ≤ k.spare_bytes → MayStep k (delete (first_of C) C)
may-delete k kept c C f e s n b = record {
  valid = valid-beside_empty (formula_in k) (slots k) kept c C (first_of C) f refl e s n;
  bytes = room (size_of (live (slots k))) (size_of (live (set_slot c None (slots k)))) (length k.prefix) k.spare_bytes (length C) (length (step_text (delete (first_of C) C))) (size-gone (slots k) c C s)
      (delete-cost k c C f s) b;
}
  where
    delete-cost : (k : Seen) (c : ℕ) (C : Clause) → IsProper (formula_in k) → slot (slots k) c ≡ Some C → length (step_text (delete (first_of C) C)) ≤ 16 * (length C + 1)
    delete-cost k c C f s = let m : IsIn C (live (slots k)) = live-slot (slots k) c C s in cost-delete (first_of C) C (proper-in_order (formula_in k) C f m) (first-of C) (proper-small (formula_in k) C f m)

    room : (s t p b n d : ℕ) → s ≡ t + (n + 1) → d ≤ 16 * (n + 1) → 16 * (s + p) ≤ b → d ≤ b
    room s t p b n d e f g = omega arith

pub spare-after_delete : (k : Seen) (c : ℕ) (C : Clause) (new : ℕ) → IsProper (formula_in k) → slot (slots k) c ≡ Some C
    → 16 * (size_of (live (slots k)) + length k.prefix) ≤ k.spare_bytes → k.spare_bytes ≡ new + length (step_text (delete (first_of C) C))
    → 16 * (size_of (live (set_slot c None (slots k))) + length k.prefix) ≤ new
spare-after_delete k c C new f s b e =
    let m : IsIn C (live (slots k)) = live-slot (slots k) c C s in
    left (size_of (live (slots k))) (size_of (live (set_slot c None (slots k)))) (length k.prefix) k.spare_bytes new (length C) (length (step_text (delete (first_of C) C))) (size-gone (slots k) c C s)
    (cost-delete (first_of C) C (proper-in_order (formula_in k) C f m) (first-of C) (proper-small (formula_in k) C f m)) b e
  where
    left : (s t p b r n d : ℕ) → s ≡ t + (n + 1) → d ≤ 16 * (n + 1) → 16 * (s + p) ≤ b → b ≡ r + d → 16 * (t + p) ≤ r
    left s t p b r n d e f g h = omega arith

-- An idle variable may leave.
pub length-removed : (v : ℕ) (P : Prefix) → is_bound P v ≡ true → length P ≡ length (removed_from v P) + 1
length-removed v [] h = absurd (true≢false (sym h))
length-removed v (b ∷ P) h = go (eqb b.var v) h (length-removed v P)
  where
    go : (t : Bool) → cond t true (is_bound P v) ≡ true → (is_bound P v ≡ true → length P ≡ length (removed_from v P) + 1) → suc (length P) ≡ length (cond t P (b ∷ removed_from v P)) + 1
    go true h ih = omega arith
    go false h ih = let e : length P ≡ length (removed_from v P) + 1 = ih h in more (length P) (length (removed_from v P)) e
      where
        more : (m n : ℕ) → m ≡ n + 1 → suc m ≡ suc n + 1
        more m n e = omega arith

pub may-remove : (k : Seen) (v : ℕ) → IsProper (formula_in k) → is_bound k.prefix v ≡ true → occurs v (live (slots k)) ≡ false
    → 16 * (size_of (live (slots k)) + length k.prefix) ≤ k.spare_bytes → MayStep k (remove_variable v)
may-remove k v f h o b = record {
  valid = (h, λ D m j i. occurs_var-of v (live (slots k)) o D m j i);
  bytes = room (size_of (live (slots k))) (length k.prefix) (length (removed_from v k.prefix)) k.spare_bytes (length (step_text (remove_variable v))) (length-removed v k.prefix h) (cost-remove v (proper-var (formula_in k) v f h).1) b;
}
  where
    room : (s p q b d : ℕ) → p ≡ q + 1 → d ≤ 16 → 16 * (s + p) ≤ b → d ≤ b
    room s p q b d e f g = omega arith

pub spare-after_remove : (k : Seen) (v new : ℕ) → IsProper (formula_in k) → is_bound k.prefix v ≡ true
    → 16 * (size_of (live (slots k)) + length k.prefix) ≤ k.spare_bytes → k.spare_bytes ≡ new + length (step_text (remove_variable v))
    → 16 * (size_of (live (slots k)) + length (removed_from v k.prefix)) ≤ new
spare-after_remove k v new f h b e = left (size_of (live (slots k))) (length k.prefix) (length (removed_from v k.prefix)) k.spare_bytes new (length (step_text (remove_variable v))) (length-removed v k.prefix h) (cost-remove v (proper-var (formula_in k) v f h).1) b e
  where
    left : (s p q b r d : ℕ) → p ≡ q + 1 → d ≤ 16 → 16 * (s + p) ≤ b → b ≡ r + d → 16 * (s + q) ≤ r
    left s p q b r d e f g h = omega arith

pub first-none : (ys : List ℕ) → slice_get ys 0 ≡ None → ys ≡ []
first-none [] e = refl
first-none (y ∷ ys) e = absurd (none y e)
  where
    none : (y : ℕ) → Some y ≡ None → ⊥
    none y e = cc

-- Clause by clause: below a number only the empty clause is left.
pub record IsAlone (N : Slots) (kept from : ℕ) : Type 0 where
  pub there : slot N kept ≡ Some []
  pub gone : (c : ℕ) → c < from → c ≢ kept → slot N c ≡ None

pub alone-first : (N : Slots) (kept : ℕ) → slot N kept ≡ Some [] → IsAlone N kept 0
alone-first N kept e = record { there = e; gone = λ c h n. absurd (not-suc-le-zero h) }

-- the empty clause itself, or one that has been deleted
pub alone-kept : (N : Slots) (kept from id : ℕ) → IsAlone N kept from → ((c : ℕ) → from ≤ c → c < id → slot N c ≡ None) → id ≡ kept → IsAlone N kept (id + 1)
alone-kept N kept from id a least e = record {
  there = a.there;
  gone = λ c h n. elim (before_or_at c id h) [
    | inl l ↦ below c l n
    | inr q ↦ absurd (n (q ∙ e))
  ];
}
  where
    split : (c : ℕ) → (c < from) ⊎ (from ≤ c)
    split c = grind arith

    below : (c : ℕ) → c < id → c ≢ kept → slot N c ≡ None
    below c l n = elim (split c) [
      | inl f ↦ a.gone c f n
      | inr f ↦ least c f l
    ]

pub alone-deleted : (N : Slots) (kept from id : ℕ) (C : Clause) → IsAlone N kept from → ((c : ℕ) → from ≤ c → c < id → slot N c ≡ None) → slot N id ≡ Some C → id ≢ kept → IsAlone (set_slot id None N) kept (id + 1)
alone-deleted N kept from id C a least s d = record {
  there = slot-set_other id kept None N (λ e. d (sym e)) ∙ a.there;
  gone = λ c h n. elim (before_or_at c id h) [
    | inl l ↦ slot-set_other id c None N (apart c l) ∙ below c l n
    | inr q ↦ ap (slot (set_slot id None N)) q ∙ slot-set_same id None N (slot-below N id C s)
  ];
}
  where
    apart : (c : ℕ) → c < id → c ≢ id
    apart c l e = absurd (omega arith)

    split : (c : ℕ) → (c < from) ⊎ (from ≤ c)
    split c = grind arith

    below : (c : ℕ) → c < id → c ≢ kept → slot N c ≡ None
    below c l n = elim (split c) [
      | inl f ↦ a.gone c f n
      | inr f ↦ least c f l
    ]

pub live-single : (N : Slots) (c : ℕ) (C : Clause) → slot N c ≡ Some C → ((d : ℕ) → d ≢ c → slot N d ≡ None) → live N ≡ C ∷ []
live-single [] c C s h = grind arith
live-single (o ∷ N) zero C s h = subst (λ (q : Option Clause). put_first q (live N) ≡ C ∷ []) (sym s) (ap (λ (X : Matrix). C ∷ X) (live-none N (λ d. h (suc d) (later d))))
  where
    later : (d : ℕ) → suc d ≢ 0
    later d e = absurd (omega arith)
live-single (o ∷ N) (suc c) C s h =
    let e : o ≡ None = h 0 first in
    subst (λ (q : Option Clause). put_first q (live N) ≡ C ∷ []) (sym e) (live-single N c C s (λ d n. h (suc d) (λ q. n (lower d c q))))
  where
    first : 0 ≢ suc c
    first e = absurd (omega arith)

    lower : (d c : ℕ) → suc d ≡ suc c → d ≡ c
    lower d c e = omega arith

pub alone-live : (N : Slots) (kept from : ℕ) → IsAlone N kept from → ((c : ℕ) → from ≤ c → slot N c ≡ None) → live N ≡ [] ∷ []
alone-live N kept from a none = live-single N kept [] a.there (λ d n. elim (split d) [
  | inl f ↦ a.gone d f n
  | inr f ↦ none d f
])
  where
    split : (c : ℕ) → (c < from) ⊎ (from ≤ c)
    split c = grind arith
