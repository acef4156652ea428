-- What regions tell, and that they stay right.
use Rattle.std.proofs.Common.{◌≡◌, ◌⊎◌, ◌<◌, ◌≤◌, ◌+◌, ℕ, true, false, eqb, length, set, slice_get, List, ◌∷◌, Some, None, sym, ◌∙◌, ap, subst, inl, inr, arith, true≢false}
use Rattle.std.proofs.lemmas.Bool.{ne_eqb}
use Rattle.std.proofs.lemmas.Option.{slice_get_within}
use Rattle.q_logic.specs.Prelude.{Literal, negation, Clause, Matrix, Prefix, IsIn, Closed, Distinct, is_bound, is_existential, is_universal, outer_or_same, inner_existential, without, Reached, Reducible, IsAbsent, insert_after, removed_from, Slots}
use Rattle.q_logic.proofs.Common.{inner_of, IsIn-Contains, Contains-IsIn, without-IsIn, IsIn-alike, universal-is_bound}
use Rattle.q_prop.specs.Slots.{filled, Holds, IsPut}
use Rattle.q_prop.proofs.SlotLemmas.{slice_get-there, slice_get-set_here, slice_get-set_other, slice_get-Contains, Contains-slice_get}
use Rattle.q_judge.specs.Regions.{region_of, IsCoarser, RegionMap, IsRegional, AreRegions, AreRegionsOf}
use Rattle.q_judge.proofs.SlotCollections.{held-in, left-in, put-same}
use Rattle.q_judge.proofs.InnerVariables.{inner-nested, inserted-inner, inserted-universal, removed-inner, removed-universal}

-- One region is right.
pub regions-one : (P : Prefix) (X : Matrix) (R : RegionMap) → ((v : ℕ) → region_of R.labels v ≡ 0) → AreRegions P X R
regions-one P X R h t D m j k a b s r = h j.var ∙ sym (h k.var)

pub regional-of : (P : Prefix) (R : RegionMap) (r : ℕ) (D : Clause) → ((k : Literal) → IsIn k D → inner_existential P R.var k.var ≡ true → region_of R.labels k.var ≡ r) → IsRegional P R D
regional-of P R r D h j k a b s t = h j a s ∙ sym (h k b t)

-- What is reached from a clause whose inner literals lie in a region has its own there.
module _ (P : Prefix) (X : Matrix) (R : RegionMap) (C : Clause) (l : Literal) (r : ℕ) (all : AreRegions P X R) (t : is_universal P R.var ≡ true) (u : is_universal P l.var ≡ true) (o : outer_or_same P R.var l.var ≡ true) (one : (k : Literal) → IsIn k C → inner_existential P l.var k.var ≡ true → region_of R.labels k.var ≡ r) where
  wider : (k : Literal) → inner_existential P l.var k.var ≡ true → inner_existential P R.var k.var ≡ true
  wider k h = inner-nested P R.var l.var k.var (universal-is_bound P R.var t) (universal-is_bound P l.var u) o h

  inside : (D : Clause) → Reached P X C l D → (k : Literal) → IsIn k D → inner_existential P l.var k.var ≡ true → region_of R.labels k.var ≡ r
  inside D Reached.first k m s = one k m s
  inside D (Reached.next {D = B} E i a b e n m x h) k d s =
      let f = inner_of P l.var i.var e n in
      all t D m k (negation i) d b (wider k s) (wider i f) ∙ inside B h i a f

  pub reducible-apart : IsIn l C → (IsIn (negation l) C → ⊥) → ((D : Clause) → IsIn D X → IsIn (negation l) D → (k : Literal) → IsIn k D → inner_existential P l.var k.var ≡ true → region_of R.labels k.var ≡ r → ⊥) → Reducible P X C l
  reducible-apart held lacks apart = record { universal_literal = u; in_clause = held; no_negation = λ D h m. none D h m }
    where
      none : (D : Clause) → Reached P X C l D → IsIn (negation l) D → ⊥
      none D Reached.first m = lacks m
      none D (Reached.next {D = B} E i a b e n m x h) y = let f = inner_of P l.var i.var e n in apart D m y (negation i) b f (inside B h i a f)

-- Each clause is part of one that was there.
abbrev pub IsPartOf : Matrix → Matrix → Type 0
IsPartOf Y X = (D : Clause) → IsIn D Y → (E : Clause) × IsIn E X × ((k : Literal) → IsIn k D → IsIn k E)

pub regions-part : (P : Prefix) (X Y : Matrix) (R : RegionMap) → IsPartOf Y X → AreRegions P X R → AreRegions P Y R
regions-part P X Y R f all t D m j k a b = let e = f D m in all t e.0 e.1 j k (e.2 j a) (e.2 k b)

-- A clause comes.
pub regions-more : (P : Prefix) (X : Matrix) (R : RegionMap) (C : Clause) → (is_universal P R.var ≡ true → IsRegional P R C) → AreRegions P X R → AreRegions P (C ∷ X) R
regions-more P X R C h all t D (inl e) = subst (λ (E : Clause). IsRegional P R E) (sym e) (h t)
regions-more P X R C h all t D (inr m) = all t D m

-- Regions become one.
pub regions-coarser : (P : Prefix) (X : Matrix) (R S : RegionMap) → S.var ≡ R.var → IsCoarser R.labels S.labels → AreRegions P X R → AreRegions P X S
regions-coarser P X R S e f all t D m j k a b s r =
    f j.var k.var (all (subst (λ (v : ℕ). is_universal P v ≡ true) e t) D m j k a b (subst (λ (v : ℕ). inner_existential P v j.var ≡ true) e s) (subst (λ (v : ℕ). inner_existential P v k.var ≡ true) e r))

-- Regions for a variable serve what it is outer or same to.
pub regions-nested : (P : Prefix) (X : Matrix) (R : RegionMap) (w : ℕ) → is_universal P R.var ≡ true → outer_or_same P R.var w ≡ true → AreRegions P X R → AreRegions P X (record { var = w; labels = R.labels })
regions-nested P X R w t o all u D m j k a b s r =
    let v = universal-is_bound P R.var t in
    let x = universal-is_bound P w u in
    all t D m j k a b (inner-nested P R.var w j.var v x o s) (inner-nested P R.var w k.var v x o r)

-- A variable comes or goes that no clause holds.
unlike : (P : Prefix) (X : Matrix) (v : ℕ) → Closed P X → is_bound P v ≡ false → (D : Clause) → IsIn D X → (k : Literal) → IsIn k D → k.var ≡ v → ⊥
unlike P X v h n D m k a e = true≢false (sym (h D m k a) ∙ ap (is_bound P) e ∙ n)

module _ (P : Prefix) (X : Matrix) (R S : RegionMap) (v : ℕ) (closed : Closed P X) (absent : is_bound P v ≡ false) (e : S.var ≡ R.var) (same : (x : ℕ) → (x ≡ v → ⊥) → region_of S.labels x ≡ region_of R.labels x) (all : AreRegions P X R) where
  alike : (D : Clause) → IsIn D X → (k : Literal) → IsIn k D → region_of S.labels k.var ≡ region_of R.labels k.var
  alike D m k a = same k.var (unlike P X v closed absent D m k a)

  pub regions-relabelled : AreRegions P X S
  regions-relabelled t D m j k a b s r =
      alike D m j a ∙
      all (subst (λ (x : ℕ). is_universal P x ≡ true) e t) D m j k a b (subst (λ (x : ℕ). inner_existential P x j.var ≡ true) e s) (subst (λ (x : ℕ). inner_existential P x k.var ≡ true) e r) ∙
      sym (alike D m k b)

pub regions-inserted : (P : Prefix) (X : Matrix) (R : RegionMap) (w v : ℕ) → is_existential P w ≡ true → Closed P X → is_bound P v ≡ false → AreRegions P X R → AreRegions (insert_after w v P) X R
regions-inserted P X R w v e closed n all t D m j k a b s r =
    let u = inserted-universal w v P R.var n t in
    let other : (i : Literal) → IsIn i D → eqb i.var v ≡ false = λ i h. ne_eqb i.var v (unlike P X v closed n D m i h) in
    all u.1 D m j k a b (inserted-inner w v P e R.var j.var u.0 (other j a) s) (inserted-inner w v P e R.var k.var u.0 (other k b) r)

pub regions-removed : (P : Prefix) (X : Matrix) (R : RegionMap) (v : ℕ) → Distinct P → IsAbsent X v → AreRegions P X R → AreRegions (removed_from v P) X R
regions-removed P X R v d absent all t D m j k a b s r =
    let u = removed-universal v P R.var d t in
    all u.1 D m j k a b (removed-inner v P R.var j.var u.0 (absent D m j a) s) (removed-inner v P R.var k.var u.0 (absent D m k b) r)

same-place : (i n : ℕ) → (i ≡ n) ⊎ (i ≡ n → ⊥)
same-place i n = grind arith

-- What a step leaves of the regions of several variables.
module _ (P : Prefix) (Rs : List RegionMap) where
  all-part : (X Y : Matrix) → IsPartOf Y X → AreRegionsOf P X Rs → AreRegionsOf P Y Rs
  all-part X Y f all R m = regions-part P X Y R f (all R m)

  pub all-rest : (X : Matrix) (C : Clause) → AreRegionsOf P (C ∷ X) Rs → AreRegionsOf P X Rs
  all-rest X C all = all-part (C ∷ X) X (λ D m. (D, inr m, λ k i. i)) all

  pub all-put : (s t : Slots) (n : ℕ) (C : Clause) → IsPut s n C t → AreRegionsOf P (C ∷ filled s) Rs → AreRegionsOf P (filled t) Rs
  all-put s t n C p all = all-part (C ∷ filled s) (filled t) (λ D m. (D, IsIn-alike (filled t) (C ∷ filled s) (put-same s t n C p) D m, λ k i. i)) all

  pub all-left : (s : Slots) (n : ℕ) → AreRegionsOf P (filled s) Rs → AreRegionsOf P (filled (set s n None)) Rs
  all-left s n all = all-part (filled s) (filled (set s n None)) (λ D m. (D, left-in s (Some n) D m, λ k i. i)) all

  pub all-shrunk : (s t : Slots) (n k : ℕ) (l : Literal) (C : Clause) → Holds s n C → IsPut s k (without l C) t → AreRegionsOf P (filled s) Rs → AreRegionsOf P (filled (set t n None)) Rs
  all-shrunk s t n k l C h p all = all-part (filled s) (filled (set t n None)) part all
    where
      part : IsPartOf (filled (set t n None)) (filled s)
      part D m = elim (IsIn-alike (filled t) (without l C ∷ filled s) (put-same s t k (without l C) p) D (left-in t (Some n) D m)) [
        | inl e ↦ (C, held-in s n C h, λ i a. without-IsIn l C i (subst (λ (E : Clause). IsIn i E) e a))
        | inr b ↦ (D, b, λ i a. a)
      ]

  pub all-inserted : (X : Matrix) (w v : ℕ) → is_existential P w ≡ true → Closed P X → is_bound P v ≡ false → AreRegionsOf P X Rs → AreRegionsOf (insert_after w v P) X Rs
  all-inserted X w v e closed n all R m = regions-inserted P X R w v e closed n (all R m)

  pub all-removed : (X : Matrix) (v : ℕ) → Distinct P → IsAbsent X v → AreRegionsOf P X Rs → AreRegionsOf (removed_from v P) X Rs
  all-removed X v d absent all R m = regions-removed P X R v d absent (all R m)

-- One of several items becomes another one.
pub regions-set : {A : Type 0} (Q : A → Type 0) (Rs : List A) (n : ℕ) (R' : A) → n < length Rs → ((R : A) → IsIn R Rs → Q R) → (((R : A) → slice_get Rs n ≡ Some R → Q R) → Q R') → (R : A) → IsIn R (set Rs n R') → Q R
regions-set Q Rs n R' l h f R m =
    let p = slice_get-Contains (set Rs n R') R (IsIn-Contains R (set Rs n R') m) in
    elim (same-place p.0 n) [
      | inl q ↦
          let here : slice_get (set Rs n R') n ≡ Some R = subst (λ (i : ℕ). slice_get (set Rs n R') i ≡ Some R) q p.1 in
          subst Q (slice_get-set_here Rs n R' R here) (f (λ S e. h S (Contains-IsIn S Rs (Contains-slice_get Rs n S e))))
      | inr o ↦
          let was : slice_get Rs p.0 ≡ Some R = sym (slice_get-set_other Rs n p.0 R' o) ∙ p.1 in
          h R (Contains-IsIn R Rs (Contains-slice_get Rs p.0 R was))
    ]

-- Of a list of items those before a place have become right for more.
abbrev pub AreHalf : {A : Type 0} → (A → Type 0) → (A → Type 0) → ℕ → List A → Type 0
AreHalf {A} Q S n Rs = (i : ℕ) (R : A) → slice_get Rs i ≡ Some R → (i < n → S R) × (n ≤ i → Q R)

module _ {A : Type 0} (Q S : A → Type 0) where
  pub half-begun : (Rs : List A) → ((R : A) → IsIn R Rs → Q R) → AreHalf Q S 0 Rs
  half-begun Rs h i R e = ((λ l. absurd (omega arith)), (λ l. h R (Contains-IsIn R Rs (Contains-slice_get Rs i R e))))

  pub half-more : (n : ℕ) (Rs : List A) (R' : A) → n < length Rs → ((R : A) → slice_get Rs n ≡ Some R → Q R → S R') → AreHalf Q S n Rs → AreHalf Q S (n + 1) (set Rs n R')
  half-more n Rs R' l f h i R e = elim (same-place i n) [
    | inl q ↦
        let there = slice_get-there Rs n l in
        let here : slice_get (set Rs n R') n ≡ Some R = subst (λ (m : ℕ). slice_get (set Rs n R') m ≡ Some R) q e in
        let new : R' ≡ R = slice_get-set_here Rs n R' R here in
        ((λ k. subst S new (f there.0 there.1 ((h n there.0 there.1).1 (omega arith)))), (λ k. absurd (omega arith)))
    | inr o ↦
        let was : slice_get Rs i ≡ Some R = sym (slice_get-set_other Rs n i R' o) ∙ e in
        ((λ k. (h i R was).0 (omega arith)), (λ k. (h i R was).1 (omega arith)))
  ]

  pub half-ended : (n : ℕ) (Rs : List A) → length Rs ≤ n → AreHalf Q S n Rs → (R : A) → IsIn R Rs → S R
  half-ended n Rs l h R m =
      let p = slice_get-Contains Rs R (IsIn-Contains R Rs m) in
      let b = slice_get_within Rs p.0 R p.1 in
      (h p.0 R p.1).0 (omega arith)
