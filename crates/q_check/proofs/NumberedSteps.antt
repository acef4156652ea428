-- Numbered clauses over clauses in slots: what steps make of them.
use Rattle.std.proofs.Common.{◌≡◌, ◌≢◌, ℕ, zero, suc, ◌<◌, List, [], ◌∷◌, ◌++◌, ◌⊎◌, inl, inr, refl, sym, ap, ◌∙◌, subst, Option, None, Some, slice_get, set, get_or, length, arith}
use Rattle.std.proofs.lemmas.Bool.{cases_eq}
use Rattle.std.proofs.lemmas.Option.{slice_get_within}
use Rattle.q_logic.specs.Prelude.{Clause, Slots, slot, set_slot, live, others, one_less}
use Rattle.q_logic.proofs.ClauseCounts.{one_less-same}
use Rattle.q_logic.proofs.HintedRuns.{live-added, live-changed, left-alike}
use Rattle.q_logic.proofs.Common.{alike-sym, alike-trans, alike-cons, live-gone}
use Rattle.q_prop.specs.Slots.{Holds, filled, IsPut}
use Rattle.q_prop.proofs.HintSteps.{Holds-slot}
use Rattle.q_prop.proofs.SlotLemmas.{slice_get-append, slice_get-end, slice_get-push_cases, slice_get-set_same, slice_get-set_other, slice_get-set_here, without-le, without-here}
use Rattle.q_judge.proofs.SlotCollections.{put-same, left-same}
use Rattle.q_judge.proofs.TriedSteps.{put-holds}
use Rattle.q_check.specs.Numbers.{IsAt, look, numbered_by, AreNumbered}

same_place : (n m : ℕ) → Some (Some n) ≡ Some (Some m) → n ≡ m
same_place n m e = cc

pub IsAt-one : (ps : List (Option ℕ)) (n h k : ℕ) → IsAt ps n h → IsAt ps n k → h ≡ k
IsAt-one ps n h k e f = same_place h k (sym e ∙ f)

-- Clauses at numbers.
pub look-same : (s t : Slots) (ps : List (Option ℕ)) → ((n at' : ℕ) → IsAt ps n at' → slot t at' ≡ slot s at') → numbered_by t ps ≡ numbered_by s ps
look-same s t [] f = refl
look-same s t (None ∷ ps) f = ap (λ (N : Slots). None ∷ N) (look-same s t ps (λ n h e. f (suc n) h e))
look-same s t (Some k ∷ ps) f =
    ap (λ (o : Option Clause). o ∷ numbered_by t ps) (f zero k refl) ∙
    ap (λ (N : Slots). slot s k ∷ N) (look-same s t ps (λ n h e. f (suc n) h e))

pub numbered-append : (s : Slots) (ps qs : List (Option ℕ)) → numbered_by s (ps ++ qs) ≡ numbered_by s ps ++ numbered_by s qs
numbered-append s [] qs = refl
numbered-append s (p ∷ ps) qs = ap (λ (N : Slots). look s p ∷ N) (numbered-append s ps qs)

pub numbered-set : (s : Slots) (ps : List (Option ℕ)) (n : ℕ) (p : Option ℕ) → numbered_by s (set ps n p) ≡ set_slot n (look s p) (numbered_by s ps)
numbered-set s [] n p = refl
numbered-set s (q ∷ ps) zero p = refl
numbered-set s (q ∷ ps) (suc n) p = ap (λ (N : Slots). look s q ∷ N) (numbered-set s ps n p)

pub numbered-slot : (s : Slots) (ps : List (Option ℕ)) (n : ℕ) → slot (numbered_by s ps) n ≡ look s (get_or ps n None)
numbered-slot s [] n = refl
numbered-slot s (p ∷ ps) zero = refl
numbered-slot s (p ∷ ps) (suc n) = numbered-slot s ps n

pub numbered-at : (s : Slots) (ps : List (Option ℕ)) (n h : ℕ) → IsAt ps n h → slot (numbered_by s ps) n ≡ slot s h
numbered-at s [] n h e = cc
numbered-at s (p ∷ ps) zero h e = let q : p ≡ Some h = cc in ap (look s) q
numbered-at s (p ∷ ps) (suc n) h e = numbered-at s ps n h e

pub numbered-back : (s : Slots) (ps : List (Option ℕ)) (n : ℕ) (D : Clause) → slot (numbered_by s ps) n ≡ Some D → (h : ℕ) × IsAt ps n h × (slot s h ≡ Some D)
numbered-back s [] n D e = cc
numbered-back s (None ∷ ps) zero D e = cc
numbered-back s (Some h ∷ ps) zero D e = (h, refl, e)
numbered-back s (p ∷ ps) (suc n) D e = numbered-back s ps n D e

pub length-numbered : (s : Slots) (ps : List (Option ℕ)) → length (numbered_by s ps) ≡ length ps
length-numbered s [] = refl
length-numbered s (p ∷ ps) = ap suc (length-numbered s ps)

-- A clause is put into a slot.
put-here : (s t : Slots) (k : ℕ) (C : Clause) → IsPut s k C t → Holds t k C
put-here s t k C (inl (e, f)) = rw (e, f) (slice_get-end s (Some C))
put-here s t k C (inr (e, f)) = rw f (slice_get-set_same s k None (Some C) e)

put-vacant : (s t : Slots) (k : ℕ) (C D : Clause) → IsPut s k C t → Holds s k D → ⊥
put-vacant s t k C D (inl (e, f)) h = let l = slice_get_within s k (Some D) h in absurd (omega arith)
put-vacant s t k C D (inr (e, f)) h = let g : Some None ≡ Some (Some D) = sym e ∙ h in cc

put-back : (s t : Slots) (k : ℕ) (C : Clause) (h : ℕ) (D : Clause) → IsPut s k C t → Holds t h D → (h ≡ k) ⊎ Holds s h D
put-back s t k C h D (inl (e, f)) i =
    elim (slice_get-push_cases s (Some C) (Some D) h (subst (λ (u : Slots). Holds u h D) f i)) [
      | inl a ↦ inr a
      | inr b ↦ inl (b.0 ∙ sym e)
    ]
put-back s t k C h D (inr (e, f)) i =
    elim (cases_eq h k) [
      | inl q ↦ inl q
      | inr d ↦ inr (sym (slice_get-set_other s k h (Some C) d) ∙ subst (λ (u : Slots). Holds u h D) f i)
    ]

module _ (s : Slots) (ps : List (Option ℕ)) (a : AreNumbered s ps) where
  pub put-fresh : (t : Slots) (k : ℕ) (C : Clause) → IsPut s k C t → (n : ℕ) → IsAt ps n k → ⊥
  put-fresh t k C p n i = let h = a.held n k i in put-vacant s t k C h.0 p h.1

  put-looks : (t : Slots) (k : ℕ) (C : Clause) → IsPut s k C t → numbered_by t ps ≡ numbered_by s ps
  put-looks t k C p = look-same s t ps (λ n h i.
      let d = a.held n h i in
      Holds-slot t h d.0 (put-holds s t h k d.0 C p d.1) ∙ sym (Holds-slot s h d.0 d.1))

  pub put-numbers : (t : Slots) (k : ℕ) (C : Clause) → IsPut s k C t → numbered_by t (ps ++ Some k ∷ []) ≡ numbered_by s ps ++ Some C ∷ []
  put-numbers t k C p =
      let e : slot t k ≡ Some C = Holds-slot t k C (put-here s t k C p) in
      numbered-append t ps (Some k ∷ []) ∙
      ap (λ (N : Slots). N ++ slot t k ∷ []) (put-looks t k C p) ∙
      ap (λ (o : Option Clause). numbered_by s ps ++ o ∷ []) e

  pub put-numbered : (t : Slots) (k : ℕ) (C : Clause) → IsPut s k C t → AreNumbered t (ps ++ Some k ∷ [])
  put-numbered t k C p = record {
    held = λ n h i. elim (slice_get-push_cases ps (Some k) (Some h) n i) [
      | inl e ↦ let d = a.held n h e in (d.0, put-holds s t h k d.0 C p d.1)
      | inr e ↦ (C, subst (λ (m : ℕ). Holds t m C) (same_inner k h e.1) (put-here s t k C p))
    ];
    named = λ h D i. elim (put-back s t k C h D p i) [
      | inl e ↦ (length ps, subst (λ (m : ℕ). IsAt (ps ++ Some k ∷ []) (length ps) m) (sym e) (slice_get-end ps (Some k)))
      | inr g ↦ let n = a.named h D g in (n.0, slice_get-append ps (Some k ∷ []) n.0 (Some h) n.1)
    ];
    apart = λ m n h i j. both m n h (slice_get-push_cases ps (Some k) (Some h) m i) (slice_get-push_cases ps (Some k) (Some h) n j);
    alike = rw (put-numbers t k C p)
        (alike-trans (filled t) (C ∷ filled s) (live (numbered_by s ps ++ Some C ∷ []))
        (put-same s t k C p)
        (alike-trans (C ∷ filled s) (C ∷ live (numbered_by s ps)) (live (numbered_by s ps ++ Some C ∷ []))
        (alike-cons C (filled s) (live (numbered_by s ps)) a.alike)
        (live-added (numbered_by s ps) C)));
  }
    where
      same_inner : (i j : ℕ) → Some i ≡ Some j → i ≡ j
      same_inner i j e = cc

      both : (m n h : ℕ) → IsAt ps m h ⊎ ((m ≡ length ps) × (Some k ≡ Some h)) → IsAt ps n h ⊎ ((n ≡ length ps) × (Some k ≡ Some h)) → m ≡ n
      both m n h (inl i) (inl j) = a.apart m n h i j
      both m n h (inl i) (inr j) = absurd (put-fresh t k C p m (subst (λ (x : ℕ). IsAt ps m x) (sym (same_inner k h j.1)) i))
      both m n h (inr i) (inl j) = absurd (put-fresh t k C p n (subst (λ (x : ℕ). IsAt ps n x) (sym (same_inner k h i.1)) j))
      both m n h (inr i) (inr j) = i.0 ∙ sym j.0

-- What is at another number, or in another slot, stays.
set-IsAt : (ps : List (Option ℕ)) (n m h : ℕ) → IsAt (set ps n None) m h → (m ≢ n) × IsAt ps m h
set-IsAt ps n m h e =
    elim (cases_eq m n) [
      | inl q ↦ absurd (none (slice_get-set_here ps n None (Some h) (subst (λ (x : ℕ). slice_get (set ps n None) x ≡ Some (Some h)) q e)))
      | inr d ↦ (d, sym (slice_get-set_other ps n m None d) ∙ e)
    ]
  where
    none : None ≡ Some h → ⊥
    none e = cc

module _ (s : Slots) (ps : List (Option ℕ)) (a : AreNumbered s ps) (n k : ℕ) (C : Clause) (there : IsAt ps n k) (here : Holds s k C) where
  other-slot : (m h : ℕ) → m ≢ n → IsAt ps m h → h ≢ k
  other-slot m h d i q = d (a.apart m n k (subst (λ (x : ℕ). IsAt ps m x) q i) there)

  kept : (m h : ℕ) → IsAt (set ps n None) m h → (D : Clause) × Holds s h D × Holds (set s k None) h D
  kept m h i =
      let j = set-IsAt ps n m h i in
      let d = a.held m h j.1 in
      (d.0, d.1, slice_get-set_other s k h None (other-slot m h j.0 j.1) ∙ d.1)

  pub gone-numbers : numbered_by (set s k None) (set ps n None) ≡ set_slot n None (numbered_by s ps)
  gone-numbers =
      look-same s (set s k None) (set ps n None) (λ m h i.
      let d = kept m h i in
      Holds-slot (set s k None) h d.0 d.2 ∙ sym (Holds-slot s h d.0 d.1)) ∙
      numbered-set s ps n None

  pub gone-numbered : AreNumbered (set s k None) (set ps n None)
  gone-numbered = record {
    held = λ m h i. let d = kept m h i in (d.0, d.2);
    named = λ h D i.
        let m = a.named h D (without-le s (Some k) h D i) in
        let d : m.0 ≢ n = λ q. without-here s k D (subst (λ (x : ℕ). Holds (set s k None) x D) (IsAt-one ps n h k (subst (λ (x : ℕ). IsAt ps x h) q m.1) there) i) in
        (m.0, slice_get-set_other ps n m.0 None d ∙ m.1);
    apart = λ i j h e f. a.apart i j h (set-IsAt ps n i h e).1 (set-IsAt ps n j h f).1;
    alike = rw gone-numbers
        (alike-trans (filled (set s k None)) (one_less C (filled s)) (live (set_slot n None (numbered_by s ps)))
        (left-same s k C here)
        (alike-trans (one_less C (filled s)) (one_less C (live (numbered_by s ps))) (live (set_slot n None (numbered_by s ps)))
        (one_less-same C (filled s) (live (numbered_by s ps)) a.alike)
        (left-alike (numbered_by s ps) n C (numbered-at s ps n k there ∙ Holds-slot s k C here))));
  }

  -- the rest of the clause is put into another slot first
  put-besides : (t : Slots) (j : ℕ) (R : Clause) → IsPut s j R t → IsPut (set s k None) j R (set t k None)
  put-besides t j R (inl (e, f)) = inl (e ∙ sym (length_set s k None), ap (λ (u : Slots). set u k None) f ∙ set_append s k None (Some R) (slice_get_within s k (Some C) here))
    where
      length_set : (u : Slots) (i : ℕ) (o : Option Clause) → length (set u i o) ≡ length u
      length_set [] i o = refl
      length_set (x ∷ u) zero o = refl
      length_set (x ∷ u) (suc i) o = ap suc (length_set u i o)

      set_append : (u : Slots) (i : ℕ) (o x : Option Clause) → i < length u → set (u ++ x ∷ []) i o ≡ set u i o ++ x ∷ []
      set_append [] i o x l = absurd (omega arith)
      set_append (y ∷ u) zero o x l = refl
      set_append (y ∷ u) (suc i) o x l = ap (λ (v : Slots). y ∷ v) (set_append u i o x (omega arith))
  put-besides t j R (inr (e, f)) = inr (slice_get-set_other s k j None d ∙ e, ap (λ (u : Slots). set u k None) f ∙ set_swap s j k (Some R) None d)
    where
      d : j ≢ k
      d q = let g : Some None ≡ Some (Some C) = sym e ∙ subst (λ (x : ℕ). Holds s x C) (sym q) here in cc

      set_swap : (u : Slots) (i j : ℕ) (x y : Option Clause) → i ≢ j → set (set u i x) j y ≡ set (set u j y) i x
      set_swap [] i j x y n = refl
      set_swap (z ∷ u) zero zero x y n = absurd (n refl)
      set_swap (z ∷ u) zero (suc j) x y n = refl
      set_swap (z ∷ u) (suc i) zero x y n = refl
      set_swap (z ∷ u) (suc i) (suc j) x y n = ap (λ (v : Slots). z ∷ v) (set_swap u i j x y (λ e. n (ap suc e)))

  module _ (t : Slots) (j : ℕ) (R : Clause) (p : IsPut s j R t) where
    q : IsPut (set s k None) j R (set t k None)
    q = put-besides t j R p

    set_twice : (xs : List (Option ℕ)) (i : ℕ) (x y : Option ℕ) → set (set xs i x) i y ≡ set xs i y
    set_twice [] i x y = refl
    set_twice (z ∷ xs) zero x y = refl
    set_twice (z ∷ xs) (suc i) x y = ap (λ (v : List (Option ℕ)). z ∷ v) (set_twice xs i x y)

    slots_twice : (N : Slots) (i : ℕ) (x y : Option Clause) → set_slot i y (set_slot i x N) ≡ set_slot i y N
    slots_twice [] i x y = refl
    slots_twice (z ∷ N) zero x y = refl
    slots_twice (z ∷ N) (suc i) x y = ap (λ (v : Slots). z ∷ v) (slots_twice N i x y)

    pub shortened-numbers : numbered_by (set t k None) (set ps n (Some j)) ≡ set_slot n (Some R) (numbered_by s ps)
    shortened-numbers =
        let u = set t k None in
        let e : slot u j ≡ Some R = Holds-slot u j R (put-here (set s k None) u j R q) in
        ap (numbered_by u) (sym (set_twice ps n None (Some j))) ∙
        numbered-set u (set ps n None) n (Some j) ∙
        ap (λ (o : Option Clause). set_slot n o (numbered_by u (set ps n None))) e ∙
        ap (set_slot n (Some R)) (put-looks (set s k None) (set ps n None) gone-numbered u j R q ∙ gone-numbers) ∙
        slots_twice (numbered_by s ps) n None (Some R)

    at_cases : (m h : ℕ) → IsAt (set ps n (Some j)) m h → ((m ≡ n) × (j ≡ h)) ⊎ IsAt (set ps n None) m h
    at_cases m h i =
        elim (cases_eq m n) [
          | inl e ↦ inl (e, inner (slice_get-set_here ps n (Some j) (Some h) (subst (λ (x : ℕ). IsAt (set ps n (Some j)) x h) e i)))
          | inr d ↦ inr (slice_get-set_other ps n m None d ∙ sym (slice_get-set_other ps n m (Some j) d) ∙ i)
        ]
      where
        inner : Some j ≡ Some h → j ≡ h
        inner e = cc

    pub shortened-numbered : AreNumbered (set t k None) (set ps n (Some j))
    shortened-numbered =
        let u = set t k None in
        let g = gone-numbered in
        record {
          held = λ m h i. elim (at_cases m h i) [
            | inl e ↦ (R, subst (λ (x : ℕ). Holds u x R) e.1 (put-here (set s k None) u j R q))
            | inr i' ↦ let d = g.held m h i' in (d.0, put-holds (set s k None) u h j d.0 R q d.1)
          ];
          named = λ h D i. elim (put-back (set s k None) u j R h D q i) [
            | inl e ↦ (n, subst (λ (x : ℕ). IsAt (set ps n (Some j)) n x) (sym e) (slice_get-set_same ps n (Some k) (Some j) there))
            | inr i' ↦
                let m = g.named h D i' in
                let x = set-IsAt ps n m.0 h m.1 in
                (m.0, slice_get-set_other ps n m.0 (Some j) x.0 ∙ x.1)
          ];
          apart = λ m o h e f. both m o h (at_cases m h e) (at_cases o h f);
          alike = rw shortened-numbers
              (alike-trans (filled u) (R ∷ filled (set s k None)) (live (set_slot n (Some R) (numbered_by s ps)))
              (put-same (set s k None) u j R q)
              (alike-trans (R ∷ filled (set s k None)) (R ∷ live (set_slot n None (numbered_by s ps))) (live (set_slot n (Some R) (numbered_by s ps)))
              (alike-cons R (filled (set s k None)) (live (set_slot n None (numbered_by s ps))) (rw gone-numbers at g.alike))
              (rw (live-gone (numbered_by s ps) n) (alike-sym (live (set_slot n (Some R) (numbered_by s ps))) (R ∷ others n (numbered_by s ps)) (live-changed (numbered_by s ps) n C R (numbered-at s ps n k there ∙ Holds-slot s k C here))))));
        }
      where
        both : (m o h : ℕ) → ((m ≡ n) × (j ≡ h)) ⊎ IsAt (set ps n None) m h → ((o ≡ n) × (j ≡ h)) ⊎ IsAt (set ps n None) o h → m ≡ o
        both m o h (inl e) (inl f) = e.0 ∙ sym f.0
        both m o h (inl e) (inr f) = absurd (put-fresh (set s k None) (set ps n None) gone-numbered (set t k None) j R q o (subst (λ (x : ℕ). IsAt (set ps n None) o x) (sym e.1) f))
        both m o h (inr e) (inl f) = absurd (put-fresh (set s k None) (set ps n None) gone-numbered (set t k None) j R q m (subst (λ (x : ℕ). IsAt (set ps n None) m x) (sym f.1) e))
        both m o h (inr e) (inr f) = gone-numbered.apart m o h e f
