-- Clauses in literal order: what keeps them so, and that a clause over a prefix has at most two literals a variable.
use Rattle.std.proofs.Common.{◌≡◌, ◌<◌, ℕ, Bool, true, false, cond, eqb, List, [], ◌∷◌, inl, inr, arith, refl, ◌≤◌, ◌+◌, ◌*◌, length}
use Rattle.q_logic.specs.Prelude.{insert, Literal, literal_eq, pack, IsBelow, ArePairs, is_bound, greatest, larger_of, Clause, Prefix, IsIn, without, union, IsSubset, renamed, renamed_literal, copied, copied_literal}
use Rattle.std.specs.List.{AllByRecursion}
use Rattle.q_logic.proofs.ClauseSets.{IsIn-below}
use Rattle.q_logic.proofs.UniversalPivot.{without-IsIn}

abbrev pub Before : Literal → Clause → Type 0
Before k C = (j : Literal) → IsIn j C → IsBelow k j

abbrev pub Ordered : Clause → Type 0
Ordered [] = Unit {0}
Ordered (k ∷ C) = Before k C × Ordered C

-- The same by pairs.
all-before : (k : Literal) (C : Clause) → AllByRecursion (IsBelow k) C → Before k C
all-before k C a j m = IsIn-below k j C a m

before-all : (k : Literal) (C : Clause) → Before k C → AllByRecursion (IsBelow k) C
before-all k [] h = tt
before-all k (j ∷ C) h = (h j (inl refl), before-all k C (λ i m. h i (inr m)))

pub pairs-ordered : (C : Clause) → ArePairs IsBelow C → Ordered C
pairs-ordered [] p = tt
pairs-ordered (k ∷ C) p = (all-before k C p.0, pairs-ordered C p.1)

pub ordered-pairs : (C : Clause) → Ordered C → ArePairs IsBelow C
ordered-pairs [] o = tt
ordered-pairs (k ∷ C) o = (before-all k C o.0, ordered-pairs C o.1)

pub insert-ordered : (l : Literal) (C : Clause) → Ordered C → Ordered (insert l C)
insert-ordered l C o = pairs-ordered (insert l C) (Rattle.q_logic.proofs.ClauseSets.insert-ordered l C (ordered-pairs C o))

pub union-ordered : (C D : Clause) → Ordered D → Ordered (union C D)
union-ordered [] D o = o
union-ordered (k ∷ C) D o = insert-ordered k (union C D) (union-ordered C D o)

pub copied-ordered : (V : List ℕ) (t : ℕ) (C : Clause) → Ordered (copied V t C)
copied-ordered V t [] = tt
copied-ordered V t (k ∷ C) = insert-ordered (copied_literal V t k) (copied V t C) (copied-ordered V t C)

pub renamed-ordered : (keep gone : Literal) (C : Clause) → Ordered (renamed keep gone C)
renamed-ordered keep gone [] = tt
renamed-ordered keep gone (k ∷ C) = insert-ordered (renamed_literal keep gone k) (renamed keep gone C) (renamed-ordered keep gone C)

pub without-ordered : (l : Literal) (C : Clause) → Ordered C → Ordered (without l C)
without-ordered l [] o = o
without-ordered l (k ∷ C) o = go (literal_eq k l) (without-ordered l C o.1)
  where
    go : (b : Bool) → Ordered (without l C) → Ordered (cond b (without l C) (k ∷ without l C))
    go true i = i
    go false i = ((λ j m. o.0 j (without-IsIn l C j m)), i)

-- One ordered list for each set.
pub ordered-same : (C D : Clause) → Ordered C → Ordered D → IsSubset C D → IsSubset D C → C ≡ D
ordered-same C D o p f g = Rattle.q_logic.proofs.ClauseSets.ordered-same C D (ordered-pairs C o) (ordered-pairs D p) f g

-- The greatest variable is at least each bound one.
pub is_bound-greatest : (P : Prefix) (v : ℕ) → is_bound P v ≡ true → v ≤ greatest P
is_bound-greatest [] v h = grind arith
is_bound-greatest (b ∷ P) v h = go (eqb b.var v) refl (is_bound-greatest P v) h
  where
    go : (e : Bool) → eqb b.var v ≡ e → (is_bound P v ≡ true → v ≤ greatest P) → cond e true (is_bound P v) ≡ true → v ≤ larger_of b.var (greatest P)
    go true q ih h = grind arith
    go false q ih h = let l : v ≤ greatest P = ih h in grind arith

-- A clause that is in order and bound has at most two literals of each variable.
code-at_most : (P : Prefix) (k : Literal) → is_bound P k.var ≡ true → pack k < 2 * greatest P + 2
code-at_most P k b = let l : k.var ≤ greatest P = is_bound-greatest P k.var b in go k.negative refl l
  where
    go : (n : Bool) → k.negative ≡ n → k.var ≤ greatest P → pack k < 2 * greatest P + 2
    go true e l = grind arith
    go false e l = grind arith

pub codes-grow : (j k : Literal) → IsBelow j k → pack j < pack k
codes-grow j k h = grind arith

ordered-fits : (T : Clause) (a b : ℕ) → a ≤ b → Ordered T → ((k : Literal) → IsIn k T → (a ≤ pack k) × (pack k < b)) → length T + a ≤ b
ordered-fits [] a b l o h = grind arith
ordered-fits (k ∷ T) a b l o h = let x : a ≤ pack k = (h k (inl refl)).0 in let y : pack k < b = (h k (inl refl)).1 in
    let i : length T + (pack k + 1) ≤ b = ordered-fits T (pack k + 1) b (next (pack k) b y) o.1 (λ j m. (next (pack k) (pack j) (codes-grow k j (o.0 j m)), (h j (inr m)).1)) in
    longer k T a b (less (length T) (pack k) a b i x)
  where
    next : (x b : ℕ) → x < b → x + 1 ≤ b
    next x b l = omega arith

    less : (t k a b : ℕ) → t + (k + 1) ≤ b → a ≤ k → t + 1 + a ≤ b
    less t k a b i x = omega arith

    longer : (k : Literal) (T : Clause) (a b : ℕ) → length T + 1 + a ≤ b → length (k ∷ T) + a ≤ b
    longer k T a b z = grind arith

pub bounded-length : (P : Prefix) (T : Clause) → Ordered T → ((k : Literal) → IsIn k T → is_bound P k.var ≡ true) → length T ≤ 2 * greatest P + 2
bounded-length P T o b = last (length T) (2 * greatest P + 2) (ordered-fits T 0 (2 * greatest P + 2) (omega arith) o (λ k m. (omega arith, code-at_most P k (b k m))))
  where
    last : (t m : ℕ) → t + 0 ≤ m → t ≤ m
    last t m i = omega arith

pub without-in_order : (l : Literal) (C : Clause) → ArePairs IsBelow C → ArePairs IsBelow (without l C)
without-in_order l C o = ordered-pairs (without l C) (without-ordered l C (pairs-ordered C o))
