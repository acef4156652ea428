-- The clause of the literals before a place.
use Rattle.std.proofs.Common.{◌≡◌, ◌≤◌, ◌<◌, ℕ, zero, suc, List, [], ◌∷◌, slice_get, Some, take, length, inl, inr, arith}
use Rattle.q_logic.specs.Prelude.{Literal, Prefix, IsIn, IsSubset, Within}
use Rattle.q_logic.proofs.Common.{IsIn-clause_of, clause_of-IsIn, clause_of-length, IsIn-take}
use Rattle.q_blocked.specs.Plans.{front}

pub take-less : {X : Type 0} (xs : List X) (m n : ℕ) (k : X) → m ≤ n → IsIn k (take m xs) → IsIn k (take n xs)
take-less [] zero zero k h i = i
take-less [] zero (suc n) k h i = i
take-less [] (suc m) zero k h i = i
take-less [] (suc m) (suc n) k h i = i
take-less (x ∷ xs) zero n k h i = absurd i
take-less (x ∷ xs) (suc m) zero k h i = absurd (omega arith)
take-less (x ∷ xs) (suc m) (suc n) k h (inl e) = inl e
take-less (x ∷ xs) (suc m) (suc n) k h (inr i) = inr (take-less xs m n k (omega arith) i)

pub take-short : {X : Type 0} (xs : List X) (n : ℕ) → length (take n xs) ≤ n
take-short [] zero = omega arith
take-short [] (suc n) = omega arith
take-short (x ∷ xs) zero = omega arith
take-short (x ∷ xs) (suc n) = let i = take-short xs n in omega arith

pub front-short : (S : List Literal) (n : ℕ) → length (front S n) ≤ n
front-short S n = let i = clause_of-length (take n S) in let j = take-short S n in omega arith

pub front-in : (S : List Literal) (n : ℕ) (k : Literal) → IsIn k (front S n) → IsIn k (take n S)
front-in S n k m = IsIn-clause_of k (take n S) m

pub in-front : (S : List Literal) (n : ℕ) (k : Literal) → IsIn k (take n S) → IsIn k (front S n)
in-front S n k m = clause_of-IsIn k (take n S) m

pub front-larger : (S : List Literal) (m n : ℕ) → m ≤ n → IsSubset (front S m) (front S n)
front-larger S m n h k i = in-front S n k (take-less S m n k h (front-in S m k i))

pub front-within : (P : Prefix) (S : List Literal) (n : ℕ) → Within P S → Within P (front S n)
front-within P S n w k m = w k (IsIn-take S n k (front-in S n k m))

pub place-front : {X : Type 0} (xs : List X) (j n : ℕ) (k : X) → slice_get xs j ≡ Some k → j < n → IsIn k (take n xs)
place-front [] j n k e h = absurd (cc)
place-front (x ∷ xs) j zero k e h = absurd (omega arith)
place-front (x ∷ xs) zero (suc n) k e h = inl (cc)
place-front (x ∷ xs) (suc j) (suc n) k e h = inr (place-front xs j n k e (omega arith))
