-- Clauses in literal order: they stay so where clauses go, lose a literal, are renamed, resolved or copied.
use Rattle.std.proofs.Common.{◌≡◌, ℕ, Bool, true, false, cond, List, [], ◌∷◌, ◌++◌, inl, inr, refl, sym, subst, Option, Some, None}
use Rattle.q_logic.specs.Prelude.{Literal, IsBelow, negation, Clause, Matrix, IsIn, ArePairs, positive, without, has, is_tautology, put_unless_tautology, with_literal, without_literal, each_without, has_variable, Slots, slot, live, others, renamed, merged, resolvent, resolve_one, resolve_all, shares, copied, expanded, shortened, assigned}
use Rattle.q_logic.proofs.ClauseLemmas.{IsIn-append}
use Rattle.q_logic.proofs.NumberedClauses.{live-slot, others-live, IsIn-with, IsIn-without_literal}
use Rattle.q_logic.proofs.LiteralOrder.{pairs-ordered, ordered-pairs, without-ordered, union-ordered, copied-ordered, renamed-ordered}

abbrev pub InOrder : Clause → Type 0
InOrder C = ArePairs IsBelow C

abbrev pub AreInOrder : Matrix → Type 0
AreInOrder X = (D : Clause) → IsIn D X → ArePairs IsBelow D

cons-order : (C : Clause) (X : Matrix) → InOrder C → AreInOrder X → AreInOrder (C ∷ X)
cons-order C X c a D (inl e) = subst InOrder (sym e) c
cons-order C X c a D (inr m) = a D m

pub cond-order : (b : Bool) (X Y : Matrix) → AreInOrder X → AreInOrder Y → AreInOrder (cond b X Y)
cond-order true X Y a c = a
cond-order false X Y a c = c

pub append-order : (X Y : Matrix) → AreInOrder X → AreInOrder Y → AreInOrder (X ++ Y)
append-order X Y a c D m = elim (IsIn-append D X Y m) [ inl i ↦ a D i | inr i ↦ c D i ]

without-order : (l : Literal) (C : Clause) → InOrder C → InOrder (without l C)
without-order l C c = ordered-pairs (without l C) (without-ordered l C (pairs-ordered C c))

put-order : (C : Clause) (X : Matrix) → InOrder C → AreInOrder X → AreInOrder (put_unless_tautology C X)
put-order C X c a = cond-order (is_tautology C) X (C ∷ X) a (cons-order C X c a)

pub others-order : (c : ℕ) (N : Slots) → AreInOrder (live N) → AreInOrder (others c N)
others-order c N a D m = a D (others-live N c D m)

pub shortened-order : (l : Literal) (o : Option Clause) (X : Matrix) → ((C : Clause) → o ≡ Some C → InOrder C) → AreInOrder X → AreInOrder (shortened l o X)
shortened-order l None X h a = a
shortened-order l (Some C) X h a = cons-order (without l C) X (without-order l C (h C refl)) a

pub slot-order : (N : Slots) (c : ℕ) → AreInOrder (live N) → (C : Clause) → slot N c ≡ Some C → InOrder C
slot-order N c a C e = a C (live-slot N c C e)

pub without_literal-order : (l : Literal) (X : Matrix) → AreInOrder X → AreInOrder (without_literal l X)
without_literal-order l X a D m = a D (IsIn-without_literal l X D m).0

pub with_literal-order : (l : Literal) (X : Matrix) → AreInOrder X → AreInOrder (with_literal l X)
with_literal-order l X a D m = a D (IsIn-with l X D m).0

pub each_without-order : (l : Literal) (X : Matrix) → AreInOrder X → AreInOrder (each_without l X)
each_without-order l [] a = a
each_without-order l (C ∷ X) a = cons-order (without l C) (each_without l X) (without-order l C (a C (inl refl))) (each_without-order l X (λ D m. a D (inr m)))

pub assigned-order : (o : Option Literal) (X : Matrix) → AreInOrder X → AreInOrder (assigned o X)
assigned-order None X a = a
assigned-order (Some l) X a = each_without-order (negation l) (without_literal l X) (without_literal-order l X a)

pub merged-order : (keep gone : Literal) (X : Matrix) → AreInOrder X → AreInOrder (merged keep gone X)
merged-order keep gone [] a = a
merged-order keep gone (C ∷ X) a =
    let i : AreInOrder (merged keep gone X) = merged-order keep gone X (λ D m. a D (inr m)) in
    cond-order (has_variable gone.var C) (put_unless_tautology (renamed keep gone C) (merged keep gone X)) (C ∷ merged keep gone X)
    (put-order (renamed keep gone C) (merged keep gone X) (ordered-pairs (renamed keep gone C) (renamed-ordered keep gone C)) i)
    (cons-order C (merged keep gone X) (a C (inl refl)) i)

resolve_one-order : (l : Literal) (C : Clause) (X : Matrix) → AreInOrder X → AreInOrder (resolve_one l C X)
resolve_one-order l C [] a = a
resolve_one-order l C (D ∷ X) a =
    put-order (resolvent l C D) (resolve_one l C X)
    (ordered-pairs (resolvent l C D) (union-ordered (without l C) (without (negation l) D) (without-ordered (negation l) D (pairs-ordered D (a D (inl refl))))))
    (resolve_one-order l C X (λ E m. a E (inr m)))

pub resolve_all-order : (l : Literal) (X Y : Matrix) → AreInOrder Y → AreInOrder (resolve_all l X Y)
resolve_all-order l [] Y a = λ D m. elim m [ ]
resolve_all-order l (C ∷ X) Y a = append-order (resolve_one l C Y) (resolve_all l X Y) (resolve_one-order l C Y a) (resolve_all-order l X Y a)

pub expanded-order : (u : ℕ) (V : List ℕ) (t : ℕ) (X : Matrix) → AreInOrder X → AreInOrder (expanded u V t X)
expanded-order u V t [] a = a
expanded-order u V t (D ∷ X) a =
    let Y : Matrix = expanded u V t X in
    let i : AreInOrder Y = expanded-order u V t X (λ E m. a E (inr m)) in
    let d : InOrder D = a D (inl refl) in
    let n : Clause = without (negation (positive u)) D in
    cond-order (has (positive u) D) (without (positive u) D ∷ Y) (cond (has (negation (positive u)) D) (copied V t n ∷ Y) (cond (shares V D) (D ∷ copied V t D ∷ Y) (D ∷ Y)))
    (cons-order (without (positive u) D) Y (without-order (positive u) D d) i)
    (cond-order (has (negation (positive u)) D) (copied V t n ∷ Y) (cond (shares V D) (D ∷ copied V t D ∷ Y) (D ∷ Y))
    (cons-order (copied V t n) Y (ordered-pairs (copied V t n) (copied-ordered V t n)) i)
    (cond-order (shares V D) (D ∷ copied V t D ∷ Y) (D ∷ Y)
    (cons-order D (copied V t D ∷ Y) d (cons-order (copied V t D) Y (ordered-pairs (copied V t D) (copied-ordered V t D)) i))
    (cons-order D Y d i)))
