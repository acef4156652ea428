-- Outer clauses that are collected, slot by slot.
use Rattle.std.proofs.Common.{◌≡◌, ℕ, suc, Bool, true, false, cond, List, [], ◌∷◌, ◌++◌, append-nil, append_assoc, refl, sym, ◌∙◌, ap, subst, inl, inr, arith, Option, None, Some}
use Rattle.std.specs.Prelude.{slice_get}
use Rattle.q_logic.specs.Prelude.{Literal, Clause, Prefix, IsIn, outer, has, copies, every_outer, OutersOf, Slots}
use Rattle.q_logic.proofs.Outers.{every_outer-count, every_outer-same}
use Rattle.q_logic.proofs.Common.{IsIn-Contains, Contains-IsIn, copies-append, has-IsIn, IsIn-has}
use Rattle.q_prop.specs.Slots.{Holds, filled, without}
use Rattle.q_prop.specs.Lists.{IsDistinct}
use Rattle.q_prop.proofs.SlotLemmas.{without-le, without-here, without-other, slice_get-Contains}
use Rattle.q_judge.specs.Warrants.{AreSlotsOf}
use Rattle.q_judge.proofs.SlotCollections.{in-held, emptied-same}

-- the outer clause of what stands in a slot
abbrev pub outer_at : Prefix → Literal → Option (Option Clause) → List Clause
outer_at P m None = []
outer_at P m (Some None) = []
outer_at P m (Some (Some D)) = outer P m D ∷ []

-- the outer clauses of the clauses in the slots, in their order
abbrev pub collected : Prefix → Slots → Literal → List ℕ → List Clause
collected P s m [] = []
collected P s m (n ∷ slots) = outer_at P m (slice_get s n) ++ collected P s m slots

collected-append : (P : Prefix) (s : Slots) (m : Literal) (slots : List ℕ) (n : ℕ) → collected P s m (slots ++ n ∷ []) ≡ collected P s m slots ++ outer_at P m (slice_get s n)
collected-append P s m [] n = append-nil (outer_at P m (slice_get s n))
collected-append P s m (k ∷ slots) n =
    let i = collected-append P s m slots n in
    ap (λ (os : List Clause). outer_at P m (slice_get s k) ++ os) i ∙ sym (append_assoc (outer_at P m (slice_get s k)) (collected P s m slots) (outer_at P m (slice_get s n)))

pub collected-more : (P : Prefix) (s : Slots) (m : Literal) (slots : List ℕ) (os : List Clause) (n : ℕ) (C : Clause) → os ≡ collected P s m slots → Holds s n C → os ++ outer P m C ∷ [] ≡ collected P s m (slots ++ n ∷ [])
collected-more P s m slots os n C v h =
    ap (λ (xs : List Clause). xs ++ outer P m C ∷ []) v
    ∙ ap (λ (o : Option (Option Clause)). collected P s m slots ++ outer_at P m o) (sym h)
    ∙ sym (collected-append P s m slots n)

pub collected-none : (P : Prefix) (s : Slots) (m : Literal) (slots : List ℕ) (os : List Clause) (n : ℕ) → os ≡ collected P s m slots → ((D : Clause) → Holds s n D → ⊥) → os ≡ collected P s m (slots ++ n ∷ [])
collected-none P s m slots os n v h =
    v ∙ sym (append-nil (collected P s m slots))
    ∙ ap (λ (xs : List Clause). collected P s m slots ++ xs) (sym (nothing (slice_get s n) h))
    ∙ sym (collected-append P s m slots n)
  where
    nothing : (o : Option (Option Clause)) → ((D : Clause) → o ≡ Some (Some D) → ⊥) → outer_at P m o ≡ []
    nothing None f = refl
    nothing (Some None) f = refl
    nothing (Some (Some D)) f = absurd (f D refl)

-- other slots that have the same clauses
collected-other : (P : Prefix) (s t : Slots) (m : Literal) (slots : List ℕ) → ((n : ℕ) → IsIn n slots → slice_get s n ≡ slice_get t n) → collected P s m slots ≡ collected P t m slots
collected-other P s t m [] h = refl
collected-other P s t m (n ∷ slots) h =
    let i = collected-other P s t m slots (λ k j. h k (inr j)) in
    ap (λ (xs : List Clause). outer_at P m (slice_get s n) ++ xs) i
    ∙ ap (λ (o : Option (Option Clause)). outer_at P m o ++ collected P t m slots) (h n (inl refl))

distinct-head : (n : ℕ) (slots : List ℕ) → IsDistinct (n ∷ slots) → IsIn n slots → ⊥
distinct-head n slots d i =
    let r = slice_get-Contains slots n (IsIn-Contains n slots i) in
    let e : 0 ≡ suc r.0 = d 0 (suc r.0) n refl r.1 in
    cc

distinct-tail : (n : ℕ) (slots : List ℕ) → IsDistinct (n ∷ slots) → IsDistinct slots
distinct-tail n slots d i j k e f = let g : suc i ≡ suc j = d (suc i) (suc j) k e f in cc

every_outer-none : (P : Prefix) (m : Literal) (X : List Clause) → ((D : Clause) → IsIn D X → IsIn m D → ⊥) → every_outer P m X ≡ []
every_outer-none P m [] h = refl
every_outer-none P m (D ∷ X) h = go (has m D) refl (every_outer-none P m X (λ E i. h E (inr i)))
  where
    go : (b : Bool) → has m D ≡ b → every_outer P m X ≡ [] → cond b (outer P m D ∷ every_outer P m X) (every_outer P m X) ≡ []
    go true e ih = absurd (h D (inl refl) (has-IsIn m D e))
    go false e ih = ih

-- slot by slot, one outer clause for each clause that holds m
collected-counts : (P : Prefix) (m : Literal) (slots : List ℕ) (s : Slots) → AreSlotsOf s m slots → (O : Clause) → copies O (collected P s m slots) ≡ copies O (every_outer P m (filled s))
collected-counts P m [] s h O =
    ap (λ (os : List Clause). copies O os) (sym (every_outer-none P m (filled s) (λ D d i. let n = in-held s D d in Contains-IsIn n.0 [] (h.all_there n.0 D n.1 i))))
collected-counts P m (n ∷ slots) s h O = go (slice_get s n) refl (λ t g. collected-counts P m slots t g O)
  where
    less : (t : Slots) → ((k : ℕ) (D : Clause) → Holds t k D → Holds s k D) → ((D : Clause) → Holds t n D → ⊥) → AreSlotsOf t m slots
    less t f none = record {
      once = distinct-tail n slots h.once;
      all_there = λ k D e i. elim (Contains-IsIn k (n ∷ slots) (h.all_there k D (f k D e) i)) [
        | inl z ↦ absurd (none D (subst (λ (j : ℕ). Holds t j D) z e))
        | inr j ↦ IsIn-Contains k slots j
      ];
      no_other = λ k D i e. h.no_other k D (IsIn-Contains k (n ∷ slots) (inr (Contains-IsIn k slots i))) (f k D e);
    }

    go : (o : Option (Option Clause)) → slice_get s n ≡ o → ((t : Slots) → AreSlotsOf t m slots → copies O (collected P t m slots) ≡ copies O (every_outer P m (filled t))) →
        copies O (outer_at P m o ++ collected P s m slots) ≡ copies O (every_outer P m (filled s))
    go None e ih = ih s (less s (λ k D f. f) (λ D f. let z : None ≡ Some (Some D) = sym e ∙ f in cc))
    go (Some None) e ih = ih s (less s (λ k D f. f) (λ D f. let z : Some None ≡ Some (Some D) = sym e ∙ f in cc))
    go (Some (Some C)) e ih =
        let t = without s (Some n) in
        let i = ih t (less t (λ k D f. without-le s (Some n) k D f) (λ D f. without-here s n D f)) in
        let a = collected-other P s t m slots (λ k j. sym (without-other s n k (λ z. distinct-head n slots h.once (subst (λ (y : ℕ). IsIn y slots) z j)))) in
        let b = every_outer-same P m (filled s) (C ∷ filled t) (emptied-same s n C e) O in
        let c = every_outer-count P m C (filled t) O in
        let d : has m C ≡ true = IsIn-has m C (h.no_other n C (IsIn-Contains n (n ∷ slots) (inl refl)) e) in
        let f : every_outer P m (C ∷ []) ≡ outer P m C ∷ [] = ap (λ (y : Bool). cond y (outer P m C ∷ []) []) d in
        let g = copies-append O (outer P m C ∷ []) (collected P s m slots) in
        let k = ap (λ (os : List Clause). copies O os) f in
        let l = ap (λ (os : List Clause). copies O os) a in
        omega (arith, i, b, c, g, k, l)

pub collected-outers : (P : Prefix) (s : Slots) (m : Literal) (slots : List ℕ) (os : List Clause) → AreSlotsOf s m slots → os ≡ collected P s m slots → OutersOf P (filled s) m os
collected-outers P s m slots os h v O = ap (λ (xs : List Clause). copies O xs) v ∙ collected-counts P m slots s h O
