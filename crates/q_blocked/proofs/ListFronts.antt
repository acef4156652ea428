-- Beginnings of a list, and members by places.
use Rattle.std.proofs.Common.{◌≡◌, ℕ, zero, suc, ◌<◌, List, [], ◌∷◌, slice_get, Some, get_or, length, sym, ap, arith}

module _ {X : Type 0} where
  pub get-place : (xs : List X) (j : ℕ) (k : X) → j < length xs → k ≡ get_or xs j k → slice_get xs j ≡ Some k
  get-place [] j k h e = absurd (omega arith)
  get-place (x ∷ xs) zero k h e = ap Some (sym e)
  get-place (x ∷ xs) (suc j) k h e = get-place xs j k (omega arith) e

  pub place-get : (xs : List X) (j : ℕ) (k : X) → slice_get xs j ≡ Some k → k ≡ get_or xs j k
  place-get [] j k e = absurd (cc)
  place-get (x ∷ xs) zero k e = cc
  place-get (x ∷ xs) (suc j) k e = place-get xs j k e
