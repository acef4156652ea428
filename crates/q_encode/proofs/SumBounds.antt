-- Sums over a formula, one clause after the other.
use Rattle.std.proofs.Common.{◌≡◌, ℕ, zero, suc, ◌+◌, ◌≤◌, ◌<◌, [], ◌∷◌, length, drop, get_or, slice_get, Some, refl, sym, ap, ◌∙◌, arith}
use Rattle.q_logic.specs.Prelude.{Clause, Matrix, Prefix, greatest, larger_of, literals_in}
use Rattle.q_encode.proofs.TurnedPrefix.{no_bound}
use Rattle.q_encode.proofs.MadeRows.{drop-at, drop-all}

bound-next : (P : Prefix) (i : ℕ) → i < length P → drop i P ≡ get_or P i no_bound ∷ drop (i + 1) P
bound-next [] i h = absurd (omega arith)
bound-next (b ∷ P) zero h = refl
bound-next (b ∷ P) (suc i) h =
    let z : suc i + 1 ≡ suc (i + 1) = omega arith in
    bound-next P i (omega arith) ∙ ap (λ (n : ℕ). get_or P i no_bound ∷ drop n (b ∷ P)) (sym z)

pub greatest-nothing : (P : Prefix) (n : ℕ) → length P ≤ n → 0 ≡ greatest (drop n P)
greatest-nothing P n h = sym (ap greatest (drop-all P n h))

pub greatest-before : (P : Prefix) (i j g h : ℕ) → i < length P → j ≡ i + 1 → h ≡ larger_of (get_or P i no_bound).var g → g ≡ greatest (drop j P) →
    h ≡ greatest (drop i P)
greatest-before P i j g h l e q m =
    let z : greatest (drop i P) ≡ larger_of (get_or P i no_bound).var (greatest (drop (i + 1) P)) = ap greatest (bound-next P i l) in
    let w : greatest (drop j P) ≡ greatest (drop (i + 1) P) = ap (λ (n : ℕ). greatest (drop n P)) e in
    omega arith

pub literals-next : (X : Matrix) (i : ℕ) (C : Clause) → slice_get X i ≡ Some C → literals_in (drop i X) ≡ length C + literals_in (drop (i + 1) X)
literals-next X i C e = ap literals_in (drop-at X i C e)

pub literals-done : (X : Matrix) (i : ℕ) → length X ≤ i → literals_in (drop i X) ≡ 0
literals-done X i h = ap literals_in (drop-all X i h)
