-- What follows a literal in a clause that is in order.
use Rattle.std.proofs.Common.{◌≡◌, ◌⊎◌, ◌∙◌, ℕ, zero, suc, ◌+◌, ◌<◌, ◌≤◌, [], ◌∷◌, length, get_or, drop, sym, subst, inl, inr, arith, add-one}
use Rattle.std.specs.List.{AllByRecursion}
use Rattle.q_logic.specs.Prelude.{Literal, IsBelow, pack, Clause, IsIn, ArePairs}
use Rattle.q_logic.proofs.Common.{IsIn-drop_within, codes-grow}
use Rattle.q_rule.specs.Looks.{IsLeastFrom}

pub all-below : (k j : Literal) (C : Clause) → AllByRecursion (IsBelow k) C → IsIn j C → pack k < pack j
all-below k j [] a m = absurd m
all-below k j (x ∷ C) a (inl e) = subst (λ (z : Literal). pack k < pack z) (sym e) (codes-grow k x a.0)
all-below k j (x ∷ C) a (inr m) = all-below k j C a.1 m

-- a literal from a place on is the one there, or comes after it
pub after-place : (C : Clause) (i : ℕ) (k j : Literal) → ArePairs IsBelow C → i < length C → k ≡ get_or C i k → IsIn j (drop i C) → (j ≡ k) ⊎ ((pack k < pack j) × IsIn j (drop (i + 1) C))
after-place C i k j o h e m = rw add-one (go C i o h e m)
  where
    go : (C : Clause) (i : ℕ) → ArePairs IsBelow C → i < length C → k ≡ get_or C i k → IsIn j (drop i C) → (j ≡ k) ⊎ ((pack k < pack j) × IsIn j (drop (suc i) C))
    go [] i o h e m = absurd (omega arith)
    go (x ∷ C) zero o h e (inl f) = inl (f ∙ sym e)
    go (x ∷ C) zero o h e (inr m) = inr (subst (λ (z : Literal). pack z < pack j) (sym e) (all-below x j C o.0 m), m)
    go (x ∷ C) (suc i) o h e m = go C i o.1 (omega arith) e m

pub at-place : (C : Clause) (i : ℕ) (k : Literal) → i < length C → k ≡ get_or C i k → IsIn k (drop i C)
at-place [] i k h e = absurd (omega arith)
at-place (x ∷ C) zero k h e = inl e
at-place (x ∷ C) (suc i) k h e = at-place C i k (omega arith) e

pub dropped-more : (C : Clause) (i : ℕ) (k : Literal) → IsIn k (drop (i + 1) C) → IsIn k (drop i C)
dropped-more C i k m = go C i (rw add-one at m)
  where
    go : (C : Clause) (i : ℕ) → IsIn k (drop (suc i) C) → IsIn k (drop i C)
    go [] i m = absurd (let z = IsIn-drop_within k [] (suc i) m in omega arith)
    go (x ∷ C) zero m = inr m
    go (x ∷ C) (suc i) m = go C i m

-- where no literal from a place on is below k, k can only stand there
pub only-there : (D : Clause) (i : ℕ) (m k : Literal) → ArePairs IsBelow D → IsLeastFrom D i k → i < length D → m ≡ get_or D i m → IsIn k (drop i D) → m ≡ k
only-there D i m k o least h e n = elim (after-place D i m k o h e n) [
  | inl s ↦ sym s
  | inr a ↦ let z = least m (at-place D i m h e) in let y = a.0 in absurd (omega arith)
]

pub least-from : (D : Clause) (i : ℕ) (m k : Literal) → ArePairs IsBelow D → i < length D → m ≡ get_or D i m → pack k ≤ pack m → IsLeastFrom D i k
least-from D i m k o h e l j n = elim (after-place D i m j o h e n) [
  | inl s ↦ subst (λ (x : Literal). pack k ≤ pack x) (sym s) l
  | inr a ↦ let y = a.0 in omega arith
]

-- what a walk along C and D has left: of C from a place on, what is in D is there from a place on
abbrev pub IsLeft : Clause → ℕ → Clause → ℕ → Type 0
IsLeft C i D at' = (j : Literal) → IsIn j (drop i C) → IsIn j D → IsIn j (drop at' D)

-- the walk along D goes on to the literal of C at the place
module _ (C : Clause) (i : ℕ) (k : Literal) (D : Clause) (from to : ℕ) (ordered : ArePairs IsBelow C) (here : i < length C) (is : k ≡ get_or C i k)
    (kept : (j : Literal) → pack k ≤ pack j → IsIn j (drop from D) → IsIn j (drop to D)) (left : IsLeft C i D from) where
  pub left-here : IsIn k D → IsIn k (drop to D)
  left-here m = kept k (omega arith) (left k (at-place C i k here is) m)

  pub left-on : IsLeft C (i + 1) D to
  left-on j m n =
      let before = dropped-more C i j m in
      let order : pack k ≤ pack j = elim (after-place C i k j ordered here is before) [
        | inl e ↦ subst (λ (x : Literal). pack k ≤ pack x) (sym e) (omega arith)
        | inr a ↦ let y = a.0 in omega arith
      ] in
      kept j order (left j before n)
