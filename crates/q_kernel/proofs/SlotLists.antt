-- Numbered clauses as std's lists, and what a change at one number does to them.
use Rattle.std.proofs.Common.{◌≡◌, ◌≤◌, ◌<◌, ◌+◌, ℕ, zero, suc, true, [], ◌∷◌, inl, inr, arith, refl, sym, ap, ◌∙◌, subst, Option, Some, None, length, set, get_or, le_of_suc-le-suc, not-suc-le-zero}
use Rattle.q_logic.specs.Prelude.{Clause, Matrix, IsIn, Literal, Slots, slot, set_slot, live, others, put_first, size_of, literals_in, one_less, has_empty}
use Rattle.q_arena.specs.Prelude.{live_in}
use Rattle.q_kernel.specs.Singles.{unit_ones, units_in}
use Rattle.q_logic.proofs.Common.{slot-alike, live-slot, SameClauses, alike-sym, alike-trans, alike-cons, alike-uncons, one_less-alike, IsIn-alike, live-gone, slot-below}
use Rattle.q_logic.proofs.Booleans.{same_truth}
use Rattle.q_logic.proofs.HintedRuns.{live-changed}
use Rattle.q_logic.proofs.HintChains.{live-number}
use Rattle.q_logic.proofs.SweepRun.{has_empty-IsIn}

-- As lists.
pub slot-get : (N : Slots) (c : ℕ) → slot N c ≡ get_or N c None
slot-get [] c = refl
slot-get (o ∷ N) zero = refl
slot-get (o ∷ N) (suc c) = slot-get N c

pub set_slot-set : (c : ℕ) (o : Option Clause) (N : Slots) → set_slot c o N ≡ set N c o
set_slot-set c o [] = refl
set_slot-set zero o (p ∷ N) = refl
set_slot-set (suc c) o (p ∷ N) = ap (λ (M : Slots). p ∷ M) (set_slot-set c o N)

pub slot-set_same : (c : ℕ) (o : Option Clause) (N : Slots) → c < length N → slot (set_slot c o N) c ≡ o
slot-set_same c o [] h = absurd (not-suc-le-zero h)
slot-set_same zero o (p ∷ N) h = refl
slot-set_same (suc c) o (p ∷ N) h = slot-set_same c o N (le_of_suc-le-suc h)

pub others-set : (N : Slots) (c : ℕ) (o : Option Clause) → others c (set_slot c o N) ≡ others c N
others-set [] c o = refl
others-set (p ∷ N) zero o = refl
others-set (p ∷ N) (suc c) o = ap (put_first p) (others-set N c o)

pub others-none : (N : Slots) (c : ℕ) → slot N c ≡ None → others c N ≡ live N
others-none [] c h = refl
others-none (p ∷ N) zero h = subst (λ (q : Option Clause). live N ≡ put_first q (live N)) (sym h) refl
others-none (p ∷ N) (suc c) h = ap (put_first p) (others-none N c h)

pub alike-set : (N : Slots) (c : ℕ) (D : Clause) → c < length N → SameClauses (live (set_slot c (Some D) N)) (D ∷ others c N)
alike-set N c D h = subst (λ (X : Matrix). SameClauses (live (set_slot c (Some D) N)) (D ∷ X)) (others-set N c (Some D))
    (slot-alike (set_slot c (Some D) N) c D (slot-set_same c (Some D) N h))

pub alike-added : (N : Slots) (c : ℕ) (D : Clause) → slot N c ≡ None → c < length N → SameClauses (live (set_slot c (Some D) N)) (D ∷ live N)
alike-added N c D h b = subst (λ (X : Matrix). SameClauses (live (set_slot c (Some D) N)) (D ∷ X)) (others-none N c h) (alike-set N c D b)

-- The clauses beside one are all clauses with one copy of it fewer.
pub alike-others : (N : Slots) (c : ℕ) (C : Clause) → slot N c ≡ Some C → SameClauses (others c N) (one_less C (live N))
alike-others N c C h = alike-uncons C (others c N) (one_less C (live N))
    (alike-trans (C ∷ others c N) (live N) (C ∷ one_less C (live N)) (alike-sym (live N) (C ∷ others c N) (slot-alike N c C h))
    (one_less-alike C (live N) (live-slot N c C h)))

pub alike-changed : (N : Slots) (c : ℕ) (C D : Clause) → slot N c ≡ Some C → SameClauses (D ∷ one_less C (live N)) (live (set_slot c (Some D) N))
alike-changed N c C D h = alike-sym (live (set_slot c (Some D) N)) (D ∷ one_less C (live N))
    (alike-trans (live (set_slot c (Some D) N)) (D ∷ others c N) (D ∷ one_less C (live N)) (live-changed N c C D h)
    (alike-cons D (others c N) (one_less C (live N)) (alike-others N c C h)))

-- Slots with one clause at each number have the same clauses in the same order.
pub live-none : (N : Slots) → ((c : ℕ) → slot N c ≡ None) → live N ≡ []
live-none [] h = refl
live-none (o ∷ N) h = let e : o ≡ None = h 0 in subst (λ (q : Option Clause). put_first q (live N) ≡ []) (sym e) (live-none N (λ c. h (suc c)))

pub live-same : (M N : Slots) → ((c : ℕ) → slot M c ≡ slot N c) → live M ≡ live N
live-same [] N h = sym (live-none N (λ c. sym (h c)))
live-same (o ∷ M) [] h = live-none (o ∷ M) h
live-same (o ∷ M) (p ∷ N) h = let e : o ≡ p = h 0 in subst (λ (q : Option Clause). put_first o (live M) ≡ put_first q (live N)) e (ap (put_first o) (live-same M N (λ c. h (suc c))))

-- Counts.
pub live_in-length : (N : Slots) → live_in N ≡ length (live N)
live_in-length [] = refl
live_in-length (None ∷ N) = live_in-length N
live_in-length (Some C ∷ N) = let i : live_in N ≡ length (live N) = live_in-length N in grind arith

pub size-parts : (X : Matrix) → size_of X ≡ literals_in X + length X
size-parts [] = refl
size-parts (C ∷ X) = let i : size_of X ≡ literals_in X + length X = size-parts X in grind arith

pub length-others : (N : Slots) (c : ℕ) (C : Clause) → slot N c ≡ Some C → length (live N) ≡ length (others c N) + 1
length-others [] c C h = grind arith
length-others (o ∷ N) zero C h = subst (λ (q : Option Clause). length (put_first q (live N)) ≡ length (live N) + 1) (sym h) (grind arith)
length-others (None ∷ N) (suc c) C h = length-others N c C h
length-others (Some D ∷ N) (suc c) C h = let i : length (live N) ≡ length (others c N) + 1 = length-others N c C h in grind arith

pub literals-others : (N : Slots) (c : ℕ) (C : Clause) → slot N c ≡ Some C → literals_in (live N) ≡ literals_in (others c N) + length C
literals-others [] c C h = grind arith
literals-others (o ∷ N) zero C h = subst (λ (q : Option Clause). literals_in (put_first q (live N)) ≡ literals_in (live N) + length C) (sym h) (grind arith)
literals-others (None ∷ N) (suc c) C h = literals-others N c C h
literals-others (Some D ∷ N) (suc c) C h = let i : literals_in (live N) ≡ literals_in (others c N) + length C = literals-others N c C h in grind arith

pub units-others : (N : Slots) (c : ℕ) (C : Clause) → slot N c ≡ Some C → units_in (live N) ≡ units_in (others c N) + unit_ones C
units-others [] c C h = grind arith
units-others (o ∷ N) zero C h = subst (λ (q : Option Clause). units_in (put_first q (live N)) ≡ units_in (live N) + unit_ones C) (sym h) (omega arith)
units-others (None ∷ N) (suc c) C h = units-others N c C h
units-others (Some D ∷ N) (suc c) C h = let i : units_in (live N) ≡ units_in (others c N) + unit_ones C = units-others N c C h in omega arith

pub size-others : (N : Slots) (c : ℕ) (C : Clause) → slot N c ≡ Some C → size_of (live N) ≡ size_of (others c N) + (length C + 1)
size-others N c C h =
    let a : size_of (live N) ≡ literals_in (live N) + length (live N) = size-parts (live N) in
    let b : size_of (others c N) ≡ literals_in (others c N) + length (others c N) = size-parts (others c N) in
    let d : literals_in (live N) ≡ literals_in (others c N) + length C = literals-others N c C h in
    let e : length (live N) ≡ length (others c N) + 1 = length-others N c C h in
    sums (size_of (live N)) (size_of (others c N)) (literals_in (live N)) (literals_in (others c N)) (length (live N)) (length (others c N)) (length C) a b d e
  where
    sums : (s t l m n k w : ℕ) → s ≡ l + n → t ≡ m + k → l ≡ m + w → n ≡ k + 1 → s ≡ t + (w + 1)
    sums s t l m n k w a b d e = omega arith

-- After a clause has come.
module _ (N : Slots) (c : ℕ) (D : Clause) (h : c < length N) where
  there : slot (set_slot c (Some D) N) c ≡ Some D
  there = slot-set_same c (Some D) N h

  beside : others c (set_slot c (Some D) N) ≡ others c N
  beside = others-set N c (Some D)

  pub length-set : length (live (set_slot c (Some D) N)) ≡ length (others c N) + 1
  length-set = subst (λ (X : Matrix). length (live (set_slot c (Some D) N)) ≡ length X + 1) beside (length-others (set_slot c (Some D) N) c D there)

  pub literals-set : literals_in (live (set_slot c (Some D) N)) ≡ literals_in (others c N) + length D
  literals-set = subst (λ (X : Matrix). literals_in (live (set_slot c (Some D) N)) ≡ literals_in X + length D) beside (literals-others (set_slot c (Some D) N) c D there)

  pub units-set : units_in (live (set_slot c (Some D) N)) ≡ units_in (others c N) + unit_ones D
  units-set = subst (λ (X : Matrix). units_in (live (set_slot c (Some D) N)) ≡ units_in X + unit_ones D) beside (units-others (set_slot c (Some D) N) c D there)

  pub size-set : size_of (live (set_slot c (Some D) N)) ≡ size_of (others c N) + (length D + 1)
  size-set = subst (λ (X : Matrix). size_of (live (set_slot c (Some D) N)) ≡ size_of X + (length D + 1)) beside (size-others (set_slot c (Some D) N) c D there)

-- An added clause, one that has gone, and one replaced by another.
pub size-added : (N : Slots) (c : ℕ) (D : Clause) → slot N c ≡ None → c < length N → size_of (live (set_slot c (Some D) N)) ≡ size_of (live N) + (length D + 1)
size-added N c D h b = subst (λ (X : Matrix). size_of (live (set_slot c (Some D) N)) ≡ size_of X + (length D + 1)) (others-none N c h) (size-set N c D b)

pub units-added : (N : Slots) (c : ℕ) (D : Clause) → slot N c ≡ None → c < length N → units_in (live (set_slot c (Some D) N)) ≡ units_in (live N) + unit_ones D
units-added N c D h b = subst (λ (X : Matrix). units_in (live (set_slot c (Some D) N)) ≡ units_in X + unit_ones D) (others-none N c h) (units-set N c D b)

pub length-added : (N : Slots) (c : ℕ) (D : Clause) → slot N c ≡ None → c < length N → length (live (set_slot c (Some D) N)) ≡ length (live N) + 1
length-added N c D h b = subst (λ (X : Matrix). length (live (set_slot c (Some D) N)) ≡ length X + 1) (others-none N c h) (length-set N c D b)

pub size-gone : (N : Slots) (c : ℕ) (C : Clause) → slot N c ≡ Some C → size_of (live N) ≡ size_of (live (set_slot c None N)) + (length C + 1)
size-gone N c C h = subst (λ (X : Matrix). size_of (live N) ≡ size_of X + (length C + 1)) (sym (live-gone N c)) (size-others N c C h)

pub units-gone : (N : Slots) (c : ℕ) (C : Clause) → slot N c ≡ Some C → units_in (live N) ≡ units_in (live (set_slot c None N)) + unit_ones C
units-gone N c C h = subst (λ (X : Matrix). units_in (live N) ≡ units_in X + unit_ones C) (sym (live-gone N c)) (units-others N c C h)

pub length-gone : (N : Slots) (c : ℕ) (C : Clause) → slot N c ≡ Some C → length (live N) ≡ length (live (set_slot c None N)) + 1
length-gone N c C h = subst (λ (X : Matrix). length (live N) ≡ length X + 1) (sym (live-gone N c)) (length-others N c C h)

pub literals-gone : (N : Slots) (c : ℕ) (C : Clause) → slot N c ≡ Some C → literals_in (live N) ≡ literals_in (live (set_slot c None N)) + length C
literals-gone N c C h = subst (λ (X : Matrix). literals_in (live N) ≡ literals_in X + length C) (sym (live-gone N c)) (literals-others N c C h)

swap_sums : (s t r a b : ℕ) → s ≡ r + a → t ≡ r + b → t + a ≡ s + b
swap_sums s t r a b h k = omega arith

pub size-replaced : (N : Slots) (c : ℕ) (C D : Clause) → slot N c ≡ Some C → size_of (live (set_slot c (Some D) N)) + length C ≡ size_of (live N) + length D
size-replaced N c C D h = one_off (size_of (live N)) (size_of (live (set_slot c (Some D) N))) (size_of (others c N)) (length C) (length D) (size-others N c C h) (size-set N c D (slot-below N c C h))
  where
    one_off : (s t r a b : ℕ) → s ≡ r + (a + 1) → t ≡ r + (b + 1) → t + a ≡ s + b
    one_off s t r a b h k = omega arith

pub length-replaced : (N : Slots) (c : ℕ) (C D : Clause) → slot N c ≡ Some C → length (live (set_slot c (Some D) N)) ≡ length (live N)
length-replaced N c C D h = length-set N c D (slot-below N c C h) ∙ sym (length-others N c C h)

pub literals-replaced : (N : Slots) (c : ℕ) (C D : Clause) → slot N c ≡ Some C → literals_in (live (set_slot c (Some D) N)) + length C ≡ literals_in (live N) + length D
literals-replaced N c C D h = swap_sums (literals_in (live N)) (literals_in (live (set_slot c (Some D) N))) (literals_in (others c N)) (length C) (length D) (literals-others N c C h) (literals-set N c D (slot-below N c C h))

pub units-replaced : (N : Slots) (c : ℕ) (C D : Clause) → slot N c ≡ Some C → units_in (live (set_slot c (Some D) N)) + unit_ones C ≡ units_in (live N) + unit_ones D
units-replaced N c C D h = swap_sums (units_in (live N)) (units_in (live (set_slot c (Some D) N))) (units_in (others c N)) (unit_ones C) (unit_ones D) (units-others N c C h) (units-set N c D (slot-below N c C h))

-- Unit clauses.
pub units-none : (N : Slots) → units_in (live N) ≡ 0 → (c : ℕ) (l : Literal) → slot N c ≡ Some (l ∷ []) → ⊥
units-none N e c l h = let k : units_in (live N) ≡ units_in (others c N) + 1 = units-others N c (l ∷ []) h in absurd (omega arith)

units-find : (X : Matrix) → 1 ≤ units_in X → (l : Literal) × IsIn (l ∷ []) X
units-find [] h = absurd (omega arith)
units-find ([] ∷ X) h = let i : (l : Literal) × IsIn (l ∷ []) X = units-find X (omega arith) in (i.0, inr i.1)
units-find ((l ∷ []) ∷ X) h = (l, inl refl)
units-find ((l ∷ k ∷ C) ∷ X) h = let i : (j : Literal) × IsIn (j ∷ []) X = units-find X (omega arith) in (i.0, inr i.1)

pub units-some : (N : Slots) → 1 ≤ units_in (live N) → (c : ℕ) × (l : Literal) × (slot N c ≡ Some (l ∷ []))
units-some N h =
    let i : (l : Literal) × IsIn (l ∷ []) (live N) = units-find (live N) h in
    let j : (c : ℕ) × (slot N c ≡ Some (i.0 ∷ [])) = live-number N (i.0 ∷ []) i.1 in
    (j.0, i.0, j.1)

-- The empty clause.
pub IsIn-has_empty : (X : Matrix) → IsIn [] X → has_empty X ≡ true
IsIn-has_empty [] m = elim m [ ]
IsIn-has_empty ([] ∷ X) m = refl
IsIn-has_empty ((k ∷ C) ∷ X) (inl e) = grind arith
IsIn-has_empty ((k ∷ C) ∷ X) (inr m) = IsIn-has_empty X m

pub has_empty-alike : (X Y : Matrix) → SameClauses X Y → has_empty X ≡ has_empty Y
has_empty-alike X Y s = same_truth (has_empty X) (has_empty Y)
    (λ h. IsIn-has_empty Y (IsIn-alike X Y s [] (has_empty-IsIn X h)))
    (λ h. IsIn-has_empty X (IsIn-alike Y X (alike-sym X Y s) [] (has_empty-IsIn Y h)))
