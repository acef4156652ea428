-- Slots one behind the other.
use Rattle.std.proofs.Common.{◌≡◌, ◌≢◌, ℕ, ◌<◌, ◌≤◌, List, [], ◌∷◌, ◌++◌, Some, false, Contains, slice_get, set, length, refl, sym, ◌∙◌, ap, subst, inl, inr, arith}
use Rattle.std.proofs.Math.Dec.{eqb}
use Rattle.std.specs.List.{AllByRecursion, IsDistinct}
use Rattle.std.proofs.lemmas.Bool.{eqb-true, ne_eqb, cases_eq}
use Rattle.std.proofs.lemmas.Map.Keys.{IsDistinct-cons}
use Rattle.std.proofs.lemmas.Map.Views.{Contains-from_any}
use Rattle.std.proofs.lemmas.Map.Steps.{length-le_from_distinct_below}
use Rattle.std.proofs.lemmas.Option.{slice_get_within}
use Rattle.q_prop.specs.Buckets.{IsWalk}
use Rattle.q_prop.proofs.ListMembers.{Contains-here, Contains-there, Contains-nil, Contains-cons_cases, Contains-along}
use Rattle.q_prop.proofs.SlotLemmas.{slice_get-append, slice_get-set_same, slice_get-set_other, same_slice_get}

-- what is set at a slot that is not on the way changes nothing
pub walk-other : (nexts : List ℕ) (at' : ℕ) (xs : List ℕ) (p v : ℕ) → IsWalk nexts at' xs → (Contains xs p → ⊥) → IsWalk (set nexts p v) at' xs
walk-other nexts at' [] p v w n = w
walk-other nexts at' (x ∷ xs) p v w n =
    let d : at' ≢ p = λ e. n (Contains-along (x ∷ xs) x p (w.1 ∙ e) (Contains-here x xs)) in
    (w.0, w.1, slice_get-set_other nexts p at' v d ∙ w.2, walk-other nexts w.0 xs p v w.3 (λ h. n (Contains-there x xs p h)))

pub walk-more : (nexts more : List ℕ) (at' : ℕ) (xs : List ℕ) → IsWalk nexts at' xs → IsWalk (nexts ++ more) at' xs
walk-more nexts more at' [] w = w
walk-more nexts more at' (x ∷ xs) w = (w.0, w.1, slice_get-append nexts more at' w.0 w.2, walk-more nexts more w.0 xs w.3)

pub walk-below : (nexts : List ℕ) (at' : ℕ) (xs : List ℕ) (m : ℕ) → IsWalk nexts at' xs → Contains xs m → m < length nexts
walk-below nexts at' [] m w h = absurd (Contains-nil m h)
walk-below nexts at' (x ∷ xs) m w h = elim (Contains-cons_cases x xs m h) [
  | inl e ↦ let b = slice_get_within nexts at' w.0 w.2 in omega (arith, b, w.1, e)
  | inr t ↦ walk-below nexts w.0 xs m w.3 t
]

module _ (nexts : List ℕ) (short : length nexts ≤ 4294967295) where
  -- a walk from a slot begins with it
  pub walk-head : (at' : ℕ) (xs : List ℕ) (next : ℕ) → IsWalk nexts at' xs → slice_get nexts at' ≡ Some next → (ys : List ℕ) × (xs ≡ at' ∷ ys) × IsWalk nexts next ys
  walk-head at' [] next w e = absurd (let b = slice_get_within nexts at' next e in omega (arith, b, w, short))
  walk-head at' (x ∷ xs) next w e = (xs, ap (λ (z : ℕ). z ∷ xs) w.1, subst (λ z. IsWalk nexts z xs) (same_slice_get nexts at' w.0 next w.2 e) w.3)

  pub walk-unique : (at' : ℕ) (xs ys : List ℕ) → IsWalk nexts at' xs → IsWalk nexts at' ys → xs ≡ ys
  walk-unique at' [] [] v w = refl
  walk-unique at' [] (y ∷ ys) v w = absurd (let b = slice_get_within nexts at' w.0 w.2 in omega (arith, b, v, short))
  walk-unique at' (x ∷ xs) ys v w =
      let t = walk-head at' ys v.0 w v.2 in
      let same = walk-unique v.0 xs t.0 v.3 t.2 in
      ap (λ (z : ℕ). z ∷ xs) v.1 ∙ ap (λ (zs : List ℕ). at' ∷ zs) same ∙ sym t.1

  -- from a slot on the way the walk goes on
  pub walk-from : (at' : ℕ) (xs : List ℕ) (m : ℕ) → IsWalk nexts at' xs → Contains xs m → (ys : List ℕ) × IsWalk nexts m ys × (length ys ≤ length xs)
  walk-from at' [] m w h = absurd (Contains-nil m h)
  walk-from at' (x ∷ xs) m w h = elim (Contains-cons_cases x xs m h) [
    | inl e ↦ (x ∷ xs, subst (λ z. IsWalk nexts z (x ∷ xs)) (sym w.1 ∙ e) w, omega arith)
    | inr t ↦ let r = walk-from w.0 xs m w.3 t in (r.0, r.1, omega (arith, r.2))
  ]

  -- no slot stands twice on the way
  pub walk-once : (at' x : ℕ) (xs : List ℕ) → IsWalk nexts at' (x ∷ xs) → Contains xs x → ⊥
  walk-once at' x xs w h =
      let r = walk-from w.0 xs x w.3 h in
      let same = walk-unique x (x ∷ xs) r.0 (subst (λ z. IsWalk nexts z (x ∷ xs)) (sym w.1) w) r.1 in
      let l : length (x ∷ xs) ≡ length r.0 = ap length same in
      omega (arith, l, r.2)

  apart : (x : ℕ) (xs : List ℕ) → (Contains xs x → ⊥) → AllByRecursion (λ y. eqb x y ≡ false) xs
  apart x [] n = tt
  apart x (y ∷ ys) n = (
    ne_eqb x y (λ e. n (Contains-along (y ∷ ys) y x (sym e) (Contains-here y ys))),
    apart x ys (λ h. n (Contains-there y ys x h)),
  )

  walk-distinct : (at' : ℕ) (xs : List ℕ) → IsWalk nexts at' xs → IsDistinct eqb xs
  unfolding IsDistinct
  walk-distinct at' [] w = tt
  walk-distinct at' (x ∷ xs) w = IsDistinct-cons eqb x xs (apart x xs (walk-once at' x xs w)) (walk-distinct w.0 xs w.3)

  -- it is no longer than there are slots
  pub walk-few : (at' : ℕ) (xs : List ℕ) → IsWalk nexts at' xs → length xs ≤ length nexts
  walk-few at' xs w = length-le_from_distinct_below xs (length nexts) (walk-distinct at' xs w) (λ q h. walk-below nexts at' xs q w (Contains-from_any eqb-true q xs h))

  -- what stands behind a slot on the way is on the way
  pub walk-follows : (p n a : ℕ) → slice_get nexts p ≡ Some n → slice_get nexts n ≡ Some a → (at' : ℕ) (xs : List ℕ) → IsWalk nexts at' xs → Contains xs p → Contains xs n
  walk-follows p n a hp hn at' [] w h = absurd (Contains-nil p h)
  walk-follows p n a hp hn at' (x ∷ xs) w h = elim (Contains-cons_cases x xs p h) [
    | inl e ↦
        let atp : at' ≡ p = sym w.1 ∙ e in
        let nx : w.0 ≡ n = same_slice_get nexts at' w.0 n w.2 (ap (slice_get nexts) atp ∙ hp) in
        let t = walk-head n xs a (subst (λ z. IsWalk nexts z xs) nx w.3) hn in
        Contains-there x xs n (rw t.1 (Contains-here n t.0))
    | inr t ↦ Contains-there x xs n (walk-follows p n a hp hn w.0 xs w.3 t)
  ]

  -- one is left out: the slot before it leads to the one behind it
  pub walk-cut : (p n a : ℕ) → slice_get nexts p ≡ Some n → slice_get nexts n ≡ Some a → (at' : ℕ) (xs : List ℕ) → IsWalk nexts at' xs → Contains xs p → (ys : List ℕ) × IsWalk (set nexts p a) at' ys × ((m : ℕ) → Contains ys m → Contains xs m × (m ≢ n)) × ((m : ℕ) → Contains xs m → m ≢ n → Contains ys m)
  walk-cut p n a hp hn at' [] w h = absurd (Contains-nil p h)
  walk-cut p n a hp hn at' (x ∷ xs) w h = elim (cases_eq x p) [
    | inl e ↦
        let atp : at' ≡ p = sym w.1 ∙ e in
        let nx : w.0 ≡ n = same_slice_get nexts at' w.0 n w.2 (ap (slice_get nexts) atp ∙ hp) in
        let wn : IsWalk nexts n xs = subst (λ z. IsWalk nexts z xs) nx w.3 in
        let t = walk-head n xs a wn hn in
        let once_x : Contains xs x → ⊥ = walk-once at' x xs w in
        let n_in : Contains xs n = rw t.1 (Contains-here n t.0) in
        let up : (m : ℕ) → Contains t.0 m → Contains xs m = λ m g. rw t.1 (Contains-there n t.0 m g) in
        let once_n : Contains t.0 n → ⊥ = walk-once n n t.0 (subst (λ (zs : List ℕ). IsWalk nexts n zs) t.1 wn) in
        let not_p : Contains t.0 p → ⊥ = λ g. once_x (Contains-along xs p x (sym e) (up p g)) in (
          x ∷ t.0,
          (a, w.1, ap (slice_get (set nexts p a)) atp ∙ slice_get-set_same nexts p n a hp, walk-other nexts a t.0 p a t.2 not_p),
          (λ m g. elim (Contains-cons_cases x t.0 m g) [
            | inl f ↦ (Contains-along (x ∷ xs) x m f (Contains-here x xs), λ k. once_x (Contains-along xs n x (sym k ∙ sym f) n_in))
            | inr g2 ↦ (Contains-there x xs m (up m g2), λ k. once_n (Contains-along t.0 m n k g2))
          ]),
          (λ m g d. elim (Contains-cons_cases x xs m g) [
            | inl f ↦ Contains-along (x ∷ t.0) x m f (Contains-here x t.0)
            | inr g2 ↦ elim (Contains-cons_cases n t.0 m (subst (λ (zs : List ℕ). Contains zs m) t.1 g2)) [
              | inl f ↦ absurd (d (sym f))
              | inr g3 ↦ Contains-there x t.0 m g3
            ]
          ]),
        )
    | inr d ↦
        let p_in : Contains xs p = elim (Contains-cons_cases x xs p h) [
          | inl e ↦ absurd (d e)
          | inr t ↦ t
        ] in
        let n_in = walk-follows p n a hp hn w.0 xs w.3 p_in in
        let once_x : Contains xs x → ⊥ = walk-once at' x xs w in
        let r = walk-cut p n a hp hn w.0 xs w.3 p_in in (
          x ∷ r.0,
          (w.0, w.1, slice_get-set_other nexts p at' a (λ f. d (w.1 ∙ f)) ∙ w.2, r.1),
          (λ m g. elim (Contains-cons_cases x r.0 m g) [
            | inl f ↦ (Contains-along (x ∷ xs) x m f (Contains-here x xs), λ k. once_x (Contains-along xs n x (sym k ∙ sym f) n_in))
            | inr g2 ↦ let q = r.2 m g2 in (Contains-there x xs m q.0, q.1)
          ]),
          (λ m g k. elim (Contains-cons_cases x xs m g) [
            | inl f ↦ Contains-along (x ∷ r.0) x m f (Contains-here x r.0)
            | inr g2 ↦ Contains-there x r.0 m (r.3 m g2 k)
          ]),
        )
  ]
