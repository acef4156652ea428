-- Rows made of the values of numbers.
use Rattle.std.proofs.Common.{◌≡◌, ℕ, zero, suc, ◌+◌, ◌<◌, length, get_or, refl, ◌∙◌, ap, arith, le_of_suc-le-suc, not-suc-le-zero}
use Rattle.q_pages.specs.Layout.{values_from}

module _ {T : Type 0} (f : ℕ → T) where
  pub length-values : (k n : ℕ) → length (values_from f k n) ≡ n
  length-values k zero = refl
  length-values k (suc n) = ap suc (length-values (suc k) n)

  pub value-at : (k n i : ℕ) (d : T) → i < n → get_or (values_from f k n) i d ≡ f (k + i)
  value-at k zero i d h = absurd (not-suc-le-zero h)
  value-at k (suc n) zero d h = (let e : k ≡ k + 0 = omega arith in ap f e)
  value-at k (suc n) (suc i) d h =
      let e : suc k + i ≡ k + suc i = omega arith in
      value-at (suc k) n i d (le_of_suc-le-suc h) ∙ ap f e
