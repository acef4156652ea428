-- The numbers of a kernel stay small.
use Rattle.std.proofs.Common.{◌≡◌, ◌≤◌, ◌<◌, ◌+◌, ◌*◌, ℕ, suc, Bool, true, false, cond, List, [], ◌∷◌, length, Option, Some, None, inl, inr, arith, refl, ap, sym, ◌∙◌}
use Rattle.std.proofs.Math.Nat.{mul-le-mul_left}
use Rattle.q_logic.specs.Prelude.{Literal, Clause, Matrix, Slots, slot, live, literals_in, size_of, copies, clause_eq}
use Rattle.q_arena.specs.Prelude.{Clauses, clause_at, start_at, IsEnd, live_in, words_in, IsLive}
use Rattle.q_kernel.specs.Invariant.{IsCounted}
use Rattle.q_kernel.specs.Singles.{unit_ones, units_in}
use Rattle.q_kernel.proofs.SlotLists.{live_in-length, size-parts, slot-get}

words-literals : (N : Slots) → words_in N ≡ literals_in (live N)
words-literals [] = refl
words-literals (None ∷ N) = words-literals N
words-literals (Some C ∷ N) = ap (λ (n : ℕ). length C + n) (words-literals N)

pub size-small : (a : Clauses) (room dead last : ℕ) → IsEnd a last → dead + words_in a.clauses ≡ last
    → ((i : ℕ) (c : List Literal) → clause_at a i ≡ Some c → start_at a i + length c ≤ a.room) → a.room ≤ room → room < 4294967296
    → length a.clauses ≡ live_in a.clauses + a.spare_ids → length a.clauses ≤ 4294967295 → size_of (live a.clauses) < 8589934592
size-small a room dead last e w within r few ids few_ids =
    let words = words-literals a.clauses in
    let count = live_in-length a.clauses in
    let size = size-parts (live a.clauses) in
    elim e.reached [
      | inl z ↦ omega arith
      | inr t ↦ let b = within t.0 t.1 t.2 in let q : last ≡ start_at a t.0 + length t.1 = t.3 in omega arith
    ]

pub clause_at-slot : (a : Clauses) (id : ℕ) (C : Clause) → slot a.clauses id ≡ Some C → clause_at a id ≡ Some C
clause_at-slot a id C e = sym (slot-get a.clauses id) ∙ e

pub slot-live : (a : Clauses) (id : ℕ) (C : Clause) → clause_at a id ≡ Some C → slot a.clauses id ≡ Some C
slot-live a id C e = slot-get a.clauses id ∙ e

pub not_live-slot : (a : Clauses) (id : ℕ) → (IsLive a id → ⊥) → slot a.clauses id ≡ None
not_live-slot a id n = go (slot a.clauses id) refl
  where
    go : (o : Option Clause) → slot a.clauses id ≡ o → o ≡ None
    go None e = refl
    go (Some C) e = absurd (n (C, clause_at-slot a id C e))

-- no more empty clauses than clauses
copies-few : (C : Clause) (X : Matrix) → copies C X ≤ length X
copies-few C [] = omega arith
copies-few C (D ∷ X) = go (clause_eq D C) (copies-few C X)
  where
    go : (b : Bool) → copies C X ≤ length X → cond b (copies C X + 1) (copies C X) ≤ suc (length X)
    go true h = omega arith
    go false h = omega arith

length-few : (X : Matrix) → length X ≤ size_of X
length-few [] = omega arith
length-few (C ∷ X) = let h = length-few X in omega arith

-- no more unit clauses either
unit-one : (C : Clause) → unit_ones C ≤ 1
unit-one [] = omega arith
unit-one (l ∷ []) = omega arith
unit-one (l ∷ k ∷ C) = omega arith

units-few : (X : Matrix) → units_in X ≤ length X
units-few [] = omega arith
units-few (C ∷ X) = let h = units-few X in let o = unit-one C in omega arith

pub counts-small : (X : Matrix) (n s e u : ℕ) → IsCounted X n s e u → (n ≤ s) × (e ≤ s) × (u ≤ s)
counts-small X n s e u k =
    let l = length-few X in
    let m = copies-few [] X in
    let o = units-few X in
    (omega (arith, k.count, k.size), omega (arith, k.size, k.empties), omega (arith, k.size, k.units))

-- The measure fits.
larger-product : (a b c d : ℕ) → a ≤ b → c ≤ d → a * c ≤ b * d
larger-product a b c d h k =
    let x = mul-le-mul_left a k in
    let y = mul-le-mul_left d h in
    omega arith

pub first-fits : (s g x : ℕ) → s < 8589934592 → g ≤ 10001 → x < 4294967296 → s + g * x < 18446744073709551616
first-fits s g x hs hg hx =
    let m = larger-product g 10001 x 4294967296 hg (omega arith) in
    omega arith

pub measure-fits : (s g x e y : ℕ) → s < 8589934592 → g ≤ 10001 → x < 4294967296 → e ≤ 10000 → y < 4294967296 → s + g * x + (e + g * e + 1) * y < 18446744073709551616
measure-fits s g x e y hs hg hx he hy =
    let m = larger-product g 10001 x 4294967296 hg (omega arith) in
    let f = larger-product g 10001 e 10000 hg he in
    let n : e + g * e + 1 ≤ 100020001 = omega arith in
    let o = larger-product (e + g * e + 1) 100020001 y 4294967296 n (omega arith) in
    omega arith
