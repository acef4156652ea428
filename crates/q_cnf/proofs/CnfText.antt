-- Clauses that are looked at one after the other.
use Rattle.std.proofs.Common.{◌≡◌, ℕ, zero, suc, ◌+◌, ◌≤◌, ◌<◌, ◌^◌, max, List, [], ◌∷◌, length, take, drop, get_or, slice_get, Some, refl, sym, ap, ◌∙◌, subst, arith}
use Rattle.std.specs.List.{AllByRecursion}
use Rattle.q_logic.specs.Prelude.{Literal, Clause, Matrix}
use Rattle.q_logic.proofs.Common.{all-append, taken, taken-all, take-slice_get}
use Rattle.q_dimacs.specs.Building.{greatest, greatest_in}
use Rattle.q_cnf.specs.Cnf.{AreVariables}

abbrev pub IsVariable : Literal → Type 0
IsVariable k = (1 ≤ k.var) × (k.var < 2 ^ 31)

item-next : {X : Type 0} (xs : List X) (i : ℕ) (x : X) → i < length xs → x ≡ get_or xs i x → drop i xs ≡ x ∷ drop (i + 1) xs
item-next [] i x h e = absurd (omega arith)
item-next {X} (y ∷ xs) zero x h e = ap (λ (w : X). w ∷ xs) (sym e)
item-next (y ∷ xs) (suc i) x h e =
    let z : suc i + 1 ≡ suc (i + 1) = omega arith in
    item-next xs i x (omega arith) e ∙ ap (λ (n : ℕ). x ∷ drop n (y ∷ xs)) (sym z)

place-next : {X : Type 0} (xs : List X) (i : ℕ) (x : X) → slice_get xs i ≡ Some x → drop i xs ≡ x ∷ drop (i + 1) xs
place-next [] i x e = absurd (cc)
place-next {X} (y ∷ xs) zero x e = let z : y ≡ x = cc in ap (λ (w : X). w ∷ xs) z
place-next (y ∷ xs) (suc i) x e =
    let z : suc i + 1 ≡ suc (i + 1) = omega arith in
    place-next xs i x e ∙ ap (λ (n : ℕ). x ∷ drop n (y ∷ xs)) (sym z)

nothing-left : {X : Type 0} (xs : List X) (n : ℕ) → length xs ≤ n → drop n xs ≡ []
nothing-left [] zero h = refl
nothing-left [] (suc n) h = refl
nothing-left (x ∷ xs) zero h = absurd (omega arith)
nothing-left (x ∷ xs) (suc n) h = nothing-left xs n (omega arith)

-- the greatest variable
pub greatest-more : (C : Clause) (i g h : ℕ) (k : Literal) → i < length C → k ≡ get_or C i k → h ≡ max k.var g →
    max g (greatest_in (drop i C)) ≡ greatest_in C → max h (greatest_in (drop (i + 1) C)) ≡ greatest_in C
greatest-more C i g h k l e q m =
    let z : greatest_in (drop i C) ≡ max k.var (greatest_in (drop (i + 1) C)) = ap greatest_in (item-next C i k l e) in
    omega arith

pub greatest-all : (C : Clause) (i g : ℕ) → length C ≤ i → max g (greatest_in (drop i C)) ≡ greatest_in C → g ≡ greatest_in C
greatest-all C i g l m = let z : greatest_in (drop i C) ≡ 0 = ap greatest_in (nothing-left C i l) in omega arith

pub matrix-more : (X : Matrix) (i g h : ℕ) (C : Clause) → slice_get X i ≡ Some C → h ≡ max (greatest_in C) g →
    max g (greatest (drop i X)) ≡ greatest X → max h (greatest (drop (i + 1) X)) ≡ greatest X
matrix-more X i g h C e q m =
    let z : greatest (drop i X) ≡ max (greatest_in C) (greatest (drop (i + 1) X)) = ap greatest (place-next X i C e) in
    omega arith

pub matrix-all : (X : Matrix) (i g : ℕ) → length X ≤ i → max g (greatest (drop i X)) ≡ greatest X → g ≡ greatest X
matrix-all X i g l m = let z : greatest (drop i X) ≡ 0 = ap greatest (nothing-left X i l) in omega arith

-- the ranges of the variables
pub variables-more : (C : Clause) (i : ℕ) (k : Literal) → i < length C → k ≡ get_or C i k → IsVariable k → AllByRecursion IsVariable (take i C) →
    AllByRecursion IsVariable (take (i + 1) C)
variables-more C i k l e v h =
    subst (λ (D : Clause). AllByRecursion IsVariable D) (sym (taken C i k l e)) (all-append IsVariable (take i C) (k ∷ []) h (v, tt))

pub variables-all : (C : Clause) (i : ℕ) → length C ≤ i → AllByRecursion IsVariable (take i C) → AllByRecursion IsVariable C
variables-all C i l h = subst (λ (D : Clause). AllByRecursion IsVariable D) (taken-all C i l) h

pub clauses-more : (X : Matrix) (i : ℕ) (C : Clause) → slice_get X i ≡ Some C → AllByRecursion IsVariable C → AreVariables (take i X) → AreVariables (take (i + 1) X)
clauses-more X i C e v h =
    subst AreVariables (sym (take-slice_get X i C e)) (all-append (λ (D : Clause). AllByRecursion IsVariable D) (take i X) (C ∷ []) h (v, tt))

pub clauses-all : (X : Matrix) (i : ℕ) → length X ≤ i → AreVariables (take i X) → AreVariables X
clauses-all X i l h = subst AreVariables (taken-all X i l) h
