-- Items put at places.
use Rattle.std.proofs.Common.{◌≡◌, ◌≢◌, ◌⊎◌, ℕ, ◌<◌, ◌≤◌, List, [], ◌∷◌, None, Some, slice_get, length, length-append, sym, ◌∙◌, inl, inr, arith}
use Rattle.std.proofs.lemmas.List.{length-set}
use Rattle.std.proofs.lemmas.Bool.{cases_eq}
use Rattle.std.proofs.lemmas.Option.{slice_get_within}
use Rattle.q_logic.specs.Prelude.{Clause, Slots}
use Rattle.q_prop.specs.Slots.{Holds, IsPut, IsPlaced}
use Rattle.q_prop.proofs.SlotLemmas.{slice_get-append, slice_get-end, slice_get-push_cases, slice_get-set_same, slice_get-set_other, slice_get-set_here, slice_get-there}

module _ {A : Type 0} (xs : List A) (n : ℕ) (y : A) (xs' : List A) where
  pub placed-cases : IsPlaced xs n y xs' → (m : ℕ) (z : A) → slice_get xs' m ≡ Some z → ((m ≢ n) × (slice_get xs m ≡ Some z)) ⊎ ((m ≡ n) × (y ≡ z))
  placed-cases (inl (at', is)) m z e = elim (slice_get-push_cases xs y z m (rw is at e)) [
    | inl f ↦ inl ((λ s. let inside : m < length xs = slice_get_within xs m z f in omega (arith, inside, s, at')), f)
    | inr f ↦ inr (f.0 ∙ sym at', f.1)
  ]
  placed-cases (inr (less, is)) m z e = elim (cases_eq m n) [
    | inl s ↦ inr (s, slice_get-set_here xs n y z (rw (is, s) at e))
    | inr d ↦ inl (d, sym (slice_get-set_other xs n m y d) ∙ rw is at e)
  ]

  pub placed-other : IsPlaced xs n y xs' → (m : ℕ) (z : A) → m ≢ n → slice_get xs m ≡ Some z → slice_get xs' m ≡ Some z
  placed-other (inl (at', is)) m z d e = rw is (slice_get-append xs (y ∷ []) m z e)
  placed-other (inr (less, is)) m z d e = rw is (slice_get-set_other xs n m y d ∙ e)

  pub placed-here : IsPlaced xs n y xs' → slice_get xs' n ≡ Some y
  placed-here (inl (at', is)) = rw (is, at') (slice_get-end xs y)
  placed-here (inr (less, is)) = let old = slice_get-there xs n less in rw is (slice_get-set_same xs n old.0 y old.1)

  pub placed-longer : IsPlaced xs n y xs' → length xs ≤ length xs'
  placed-longer (inl (at', is)) = let l = length-append xs (y ∷ []) in rw is (omega (arith, l))
  placed-longer (inr (less, is)) = let l = length-set xs n y in rw is (omega (arith, l))

  pub placed-within : IsPlaced xs n y xs' → n < length xs'
  placed-within (inl (at', is)) = let l = length-append xs (y ∷ []) in rw is (omega (arith, l, at'))
  placed-within (inr (less, is)) = let l = length-set xs n y in rw is (omega (arith, l, less))

pub placed-same_length : {A B : Type 0} (xs xs' : List A) (ys ys' : List B) (n : ℕ) (x : A) (y : B) → IsPlaced xs n x xs' → IsPlaced ys n y ys' → length xs ≡ length ys → length xs' ≡ length ys'
placed-same_length xs xs' ys ys' n x y (inl (a, is)) (inl (b, is2)) e = let l = length-append xs (x ∷ []) in let m = length-append ys (y ∷ []) in rw (is, is2) (omega (arith, l, m, e))
placed-same_length xs xs' ys ys' n x y (inr (a, is)) (inr (b, is2)) e = let l = length-set xs n x in let m = length-set ys n y in rw (is, is2) (omega (arith, l, m, e))
placed-same_length xs xs' ys ys' n x y (inl (a, is)) (inr (b, is2)) e = absurd (omega (arith, a, b, e))
placed-same_length xs xs' ys ys' n x y (inr (a, is)) (inl (b, is2)) e = absurd (omega (arith, a, b, e))

pub put-placed : (s : Slots) (n : ℕ) (c : Clause) (s' : Slots) → IsPut s n c s' → IsPlaced s n (Some c) s'
put-placed s n c s' (inl h) = inl h
put-placed s n c s' (inr h) = inr (slice_get_within s n None h.0, h.1)

module _ (s : Slots) (n : ℕ) (d : Clause) (s' : Slots) (put : IsPut s n d s') where
  pub put-vacant : (c : Clause) → Holds s n c → ⊥
  put-vacant c e = go put
    where
      go : IsPut s n d s' → ⊥
      go (inl h) = let inside = slice_get_within s n (Some c) e in let k = h.0 in omega (arith, inside, k)
      go (inr h) = let k = h.0 in cc

  pub put-cases : (b : ℕ) (c : Clause) → Holds s' b c → ((b ≢ n) × Holds s b c) ⊎ ((b ≡ n) × (d ≡ c))
  put-cases b c e = elim (placed-cases s n (Some d) s' (put-placed s n d s' put) b (Some c) e) [
    | inl h ↦ inl h
    | inr h ↦ inr (h.0, (let k = h.1 in cc))
  ]

  pub put-here : Holds s' n d
  put-here = placed-here s n (Some d) s' (put-placed s n d s' put)

  pub put-other : (b : ℕ) (c : Clause) → Holds s b c → Holds s' b c
  put-other b c e = placed-other s n (Some d) s' (put-placed s n d s' put) b (Some c) (λ f. put-vacant c (rw f at e)) e
