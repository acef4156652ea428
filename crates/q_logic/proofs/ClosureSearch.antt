-- What a search for joined literals or for a reach has to show.
use Rattle.std.proofs.Common.{◌≡◌, true, false, List}
use Rattle.q_logic.specs.Prelude.{Literal, negation, Clause, Matrix, Prefix, IsIn, is_existential, is_universal, outer_or_same, Reducible, Reached, Joined, Binary, inner_existential}
use Rattle.q_logic.proofs.ExpandClosure.{inner-parts}
use Rattle.q_logic.proofs.ExpandRun.{inner_of}

-- A list that is closed under the clauses of two literals holds all that its members are joined to.
pub joined-in : (X : Matrix) (q p : Literal) (L : List Literal) → ((x y : Literal) → IsIn x L → Binary X x y → IsIn y L) → IsIn p L → Joined X q p → IsIn q L
joined-in X q p L c m Joined.here = m
joined-in X q p L c m (Joined.on {y = y} w h j) = joined-in X q y L c (c p y m h) j

-- And one step more of a path.
pub joined-further : (X : Matrix) (x y p : Literal) → Joined X x p → Binary X x y → Joined X y p
joined-further X x y p Joined.here h = Joined.on x h Joined.here
joined-further X x y p (Joined.on {y = z} w g j) h = Joined.on w g (joined-further X x y z j h)

-- Literals through which clauses are reached.
pub record ClosedLiterals (P : Prefix) (X : Matrix) (C : Clause) (l : Literal) (K : List Literal) : Type 0 where
  pub of_first : (k : Literal) → IsIn k C → inner_existential P l.var k.var ≡ true → IsIn k K
  pub of_hit : (E : Clause) → IsIn E X → (IsIn l E → ⊥) → (k : Literal) → IsIn k K → IsIn (negation k) E → (j : Literal) → IsIn j E → inner_existential P l.var j.var ≡ true → IsIn j K

pub record NoneHit (X : Matrix) (l : Literal) (K : List Literal) : Type 0 where
  pub none : (E : Clause) → IsIn E X → (IsIn l E → ⊥) → (k : Literal) → IsIn k K → IsIn (negation k) E → IsIn (negation l) E → ⊥

abbrev Kept : Prefix → Matrix → Literal → List Literal → Clause → Type 0
Kept P X l K D = ((j : Literal) → IsIn j D → inner_existential P l.var j.var ≡ true → IsIn j K) × (IsIn (negation l) D → ⊥)

reached-kept : (P : Prefix) (X : Matrix) (C : Clause) (l : Literal) (K : List Literal) → ClosedLiterals P X C l K → NoneHit X l K → (IsIn (negation l) C → ⊥) → (D : Clause) → Reached P X C l D → Kept P X l K D
reached-kept P X C l K c h n D Reached.first = (c.of_first, n)
reached-kept P X C l K c h n E (Reached.next {D = D} E2 k m i e o inX f r) = go (reached-kept P X C l K c h n D r)
  where
    go : Kept P X l K D → Kept P X l K E2
    go d = let a : IsIn k K = d.0 k m (inner_of P l.var k.var e o) in (c.of_hit E2 inX f k a i, h.none E2 inX f k a i)

-- Closed, and nothing that is hit holds not l: reducible.
pub closed-reducible : (P : Prefix) (X : Matrix) (C : Clause) (l : Literal) (K : List Literal) → is_universal P l.var ≡ true → IsIn l C → (IsIn (negation l) C → ⊥) → ClosedLiterals P X C l K → NoneHit X l K → Reducible P X C l
closed-reducible P X C l K q m n c h = record { universal_literal = q; in_clause = m; no_negation = λ D r. (reached-kept P X C l K c h n D r).1 }

-- A literal of a reached clause.
abbrev pub Reaching : Prefix → Matrix → Clause → Literal → Literal → Type 0
Reaching P X C l k = (D : Clause) × Reached P X C l D × IsIn k D × (inner_existential P l.var k.var ≡ true)

-- What is hit by such a literal is reached.
pub hit-reached : (P : Prefix) (X : Matrix) (C : Clause) (l : Literal) (E : Clause) (k : Literal) → Reaching P X C l k → IsIn E X → (IsIn l E → ⊥) → IsIn (negation k) E → Reached P X C l E
hit-reached P X C l E k (D, r, m, i) inX f n = let p : (is_existential P k.var ≡ true) × (outer_or_same P k.var l.var ≡ false) = inner-parts P l.var k.var i in Reached.next E k m n p.0 p.1 inX f r

pub hit-not_reducible : (P : Prefix) (X : Matrix) (C : Clause) (l : Literal) (E : Clause) (k : Literal) → Reaching P X C l k → IsIn E X → (IsIn l E → ⊥) → IsIn (negation k) E → IsIn (negation l) E → Reducible P X C l → ⊥
hit-not_reducible P X C l E k r m f n i h = h.no_negation E (hit-reached P X C l E k r m f n) i
