-- The steps of an expansion, over a prefix that has the copies.
use Rattle.std.proofs.Common.{◌≡◌, ◌≤◌, ◌<◌, ℕ, ◌+◌, Bool, true, false, eqb, List, [], ◌∷◌, ◌++◌, ◌⊎◌, inl, inr, arith, refl, sym, ap, ◌∙◌, subst}
use Rattle.q_logic.specs.Prelude.{insert, positive, Literal, negation, literal_eq, Clause, Prefix, Matrix, IsIn, PrenexFormula, is_bound, is_existential, is_universal, outer_or_same, Implied, without, Reducible, Reached, ProofStep, copies, has, formula_of, in_list, shares, inner_existential, copy_of, copied_literal, copied, expanded}
use Rattle.q_logic.proofs.JustifiedRuns.{SameClauses, Reaches}
use Rattle.q_logic.proofs.ClauseLemmas.{literal_eq-sound, literal_eq-itself, IsIn-append_left, IsIn-append, has-IsIn, IsIn-append_right}
use Rattle.q_logic.proofs.PrefixOrder.{existential-is_bound, universal-not_existential}
use Rattle.q_logic.proofs.UniversalPivot.{without-IsIn}
use Rattle.q_logic.proofs.JustifiedRuns.{alike-sym, copies-append, reaches-alike, reaches-append, reaches-end}
use Rattle.q_logic.proofs.ImpliedClauses.{implied-subsumed, implied-hidden}
use Rattle.q_logic.proofs.ChangeRuns.{least, mapped, adds, deletes, replaces, drops, reaches-adds, reaches-deletes, reaches-replaces, reaches-drops}
use Rattle.q_logic.proofs.NumberedClauses.{IsIn-has_not}
use Rattle.q_logic.proofs.JoinedClauses.{insert-IsIn, IsIn-insert, without-other}
use Rattle.q_logic.proofs.ExpandPrefix.{Copies, CopyOf, copy_of-in, copy_of-out}
use Rattle.q_logic.proofs.ExpandLinks.{lit, minus, links, link_steps, unlink_steps, links-in, over_copies, over_copies-implied, implied-by_copies, VarsBelow, Originals, Guarded, reaches-links, reaches-unlinks}
use Rattle.q_logic.proofs.ExpandParts.{with_u, with_minus, sharing, apart, parts-copies, expanded-copies, copied_rest, with_u-IsIn, with_minus-IsIn, sharing-IsIn, apart-IsIn, without-insert}

pub record Expansion (Q : Prefix) (X : Matrix) (u : ℕ) (V : List ℕ) (t : ℕ) : Type 0 where
  pub universal : is_universal Q u ≡ true
  pub u_bound : is_bound Q u ≡ true
  pub u_below : u < t
  pub copies_there : Copies (CopyOf Q) V t
  pub originals : Originals Q u t V
  pub below : VarsBelow t X
  pub all_bound : (D : Clause) → IsIn D X → (k : Literal) → IsIn k D → is_bound Q k.var ≡ true
  pub closed : (D : Clause) → IsIn D X → (has (positive u) D ≡ true) ⊎ ((has (minus u) D ≡ true) ⊎ (shares V D ≡ true)) → (k : Literal) → IsIn k D → inner_existential Q u k.var ≡ true → in_list k.var V ≡ true
  pub not_both : (D : Clause) → IsIn D X → has (positive u) D ≡ true → has (minus u) D ≡ false

abbrev Original : Prefix → ℕ → ℕ → ℕ → Type 0
Original Q u t x = (is_existential Q x ≡ true) × (x < t) × (eqb x u ≡ false)

originals-in : (Q : Prefix) (u t : ℕ) (V : List ℕ) (x : ℕ) → Originals Q u t V → in_list x V ≡ true → Original Q u t x
originals-in Q u t [] x o h = grind arith
originals-in Q u t (y ∷ V) x o h = go (eqb y x) refl (λ k. originals-in Q u t V x o.1 k)
  where
    go : (b : Bool) → eqb y x ≡ b → (in_list x V ≡ true → Original Q u t x) → Original Q u t x
    go true q ih = let e : y ≡ x = grind arith in subst (Original Q u t) e (o.0.0, o.0.2, o.0.3)
    go false q ih = ih (grind arith)

pub shares-IsIn : (V : List ℕ) (D : Clause) → shares V D ≡ false → (k : Literal) → IsIn k D → in_list k.var V ≡ false
shares-IsIn V [] h k m = elim m [ ]
shares-IsIn V (j ∷ D) h k (inl e) = subst (λ y. in_list y.var V ≡ false) (sym e) (grind arith)
shares-IsIn V (j ∷ D) h k (inr m) = shares-IsIn V D (grind arith) k m

pub copied-IsIn : (V : List ℕ) (t : ℕ) (C : Clause) (k : Literal) → IsIn k (copied V t C) → (j : Literal) × IsIn j C × (k ≡ copied_literal V t j)
copied-IsIn V t [] k m = elim m [ ]
copied-IsIn V t (i ∷ C) k m = elim (insert-IsIn (copied_literal V t i) (copied V t C) k m)
    [ inl e ↦ (i, inl refl, e) | inr n ↦ let r : (j : Literal) × IsIn j C × (k ≡ copied_literal V t j) = copied-IsIn V t C k n in (r.0, inr r.1, r.2) ]

-- Three kinds of clauses in the end.
abbrev pub ClassU : Prefix → ℕ → List ℕ → ℕ → Clause → Type 0
ClassU Q u V t D = (k : Literal) → IsIn k D → (k.var < t) × (inner_existential Q u k.var ≡ true → in_list k.var V ≡ true) × (literal_eq k (minus u) ≡ false)

abbrev pub ClassM : Prefix → ℕ → List ℕ → ℕ → Clause → Type 0
ClassM Q u V t D = (k : Literal) → IsIn k D → (in_list k.var V ≡ false) × (k.var < t → inner_existential Q u k.var ≡ false) × (literal_eq k (positive u) ≡ false)

abbrev pub ClassA : Prefix → ℕ → List ℕ → ℕ → Clause → Type 0
ClassA Q u V t D = (k : Literal) → IsIn k D → (k.var < t) × (in_list k.var V ≡ false)

abbrev pub Classes : Prefix → ℕ → List ℕ → ℕ → Matrix → Type 0
Classes Q u V t Z = (D : Clause) → IsIn D Z → ClassU Q u V t D ⊎ (ClassM Q u V t D ⊎ ClassA Q u V t D)

pub inner_of : (Q : Prefix) (u v : ℕ) → is_existential Q v ≡ true → outer_or_same Q v u ≡ false → inner_existential Q u v ≡ true
inner_of Q u v e o = rw (e, o) refl

pub reached_u : (Q : Prefix) (u : ℕ) (V : List ℕ) (t : ℕ) (Z : Matrix) (C : Clause) → Classes Q u V t Z → ClassU Q u V t C → (D : Clause) → Reached Q Z C (positive u) D → ClassU Q u V t D
reached_u Q u V t Z C cs c D Reached.first = c
reached_u Q u V t Z C cs c E (Reached.next {D = D} E2 k m n e o inZ f r) = go (reached_u Q u V t Z C cs c D r) (cs E2 inZ)
  where
    go : ClassU Q u V t D → ClassU Q u V t E2 ⊎ (ClassM Q u V t E2 ⊎ ClassA Q u V t E2) → ClassU Q u V t E2
    go d (inl x) = x
    go d (inr (inl x)) = let a : in_list k.var V ≡ true = (d k m).1 (inner_of Q u k.var e o) in let b : in_list k.var V ≡ false = (x (negation k) n).0 in grind arith
    go d (inr (inr x)) = let a : in_list k.var V ≡ true = (d k m).1 (inner_of Q u k.var e o) in let b : in_list k.var V ≡ false = (x (negation k) n).1 in grind arith

pub reached_m : (Q : Prefix) (u : ℕ) (V : List ℕ) (t : ℕ) (Z : Matrix) (C : Clause) → Classes Q u V t Z → ClassM Q u V t C → (D : Clause) → Reached Q Z C (minus u) D → ClassM Q u V t D
reached_m Q u V t Z C cs c D Reached.first = c
reached_m Q u V t Z C cs c E (Reached.next {D = D} E2 k m n e o inZ f r) = go (reached_m Q u V t Z C cs c D r) (cs E2 inZ)
  where
    no : ClassM Q u V t D → k.var < t → ⊥
    no d l = let a : inner_existential Q u k.var ≡ false = (d k m).1 l in let b : inner_existential Q u k.var ≡ true = inner_of Q u k.var e o in grind arith

    go : ClassM Q u V t D → ClassU Q u V t E2 ⊎ (ClassM Q u V t E2 ⊎ ClassA Q u V t E2) → ClassM Q u V t E2
    go d (inl x) = absurd (no d (x (negation k) n).0)
    go d (inr (inl x)) = x
    go d (inr (inr x)) = absurd (no d (x (negation k) n).0)

reducible_u : (Q : Prefix) (u : ℕ) (V : List ℕ) (t : ℕ) (Z : Matrix) (C : Clause) → is_universal Q u ≡ true → IsIn (positive u) C → Classes Q u V t Z → ClassU Q u V t C → Reducible Q Z C (positive u)
reducible_u Q u V t Z C h m cs c = record { universal_literal = h; in_clause = m; no_negation = λ D r i. let a : literal_eq (minus u) (minus u) ≡ false = (reached_u Q u V t Z C cs c D r (minus u) i).2 in let b : literal_eq (minus u) (minus u) ≡ true = literal_eq-itself (minus u) in grind arith }

reducible_m : (Q : Prefix) (u : ℕ) (V : List ℕ) (t : ℕ) (Z : Matrix) (C : Clause) → is_universal Q u ≡ true → IsIn (minus u) C → Classes Q u V t Z → ClassM Q u V t C → Reducible Q Z C (minus u)
reducible_m Q u V t Z C h m cs c = record { universal_literal = h; in_clause = m; no_negation = λ D r i. let a : literal_eq (positive u) (positive u) ≡ false = (reached_m Q u V t Z C cs c D r (positive u) i).2 in let b : literal_eq (positive u) (positive u) ≡ true = literal_eq-itself (positive u) in grind arith }

mapped-IsIn : (f : Clause → Clause) (X : Matrix) (D : Clause) → IsIn D (mapped f X) → (E : Clause) × IsIn E X × (D ≡ f E)
mapped-IsIn f [] D m = elim m [ ]
mapped-IsIn f (E ∷ X) D (inl e) = (E, inl refl, e)
mapped-IsIn f (E ∷ X) D (inr m) = let r : (E : Clause) × IsIn E X × (D ≡ f E) = mapped-IsIn f X D m in (r.0, inr r.1, r.2)

IsIn-mapped : (f : Clause → Clause) (X : Matrix) (E : Clause) → IsIn E X → IsIn (f E) (mapped f X)
IsIn-mapped f [] E m = elim m [ ]
IsIn-mapped f (D ∷ X) E (inl e) = inl (ap f e)
IsIn-mapped f (D ∷ X) E (inr m) = inr (IsIn-mapped f X E m)

pub mapped-append : (f : Clause → Clause) (X Y : Matrix) → mapped f (X ++ Y) ≡ mapped f X ++ mapped f Y
mapped-append f [] Y = refl
mapped-append f (D ∷ X) Y = ap (λ Z. f D ∷ Z) (mapped-append f X Y)

mapped-back : (f g : Clause → Clause) (X : Matrix) → ((D : Clause) → IsIn D X → g (f D) ≡ D) → mapped g (mapped f X) ≡ X
mapped-back f g [] h = refl
mapped-back f g (D ∷ X) h = let a : g (f D) ≡ D = h D (inl refl) in let b : mapped g (mapped f X) ≡ X = mapped-back f g X (λ E m. h E (inr m)) in λ i. a i ∷ b i

mapped-both : (f g h : Clause → Clause) (X : Matrix) → ((D : Clause) → IsIn D X → g (f D) ≡ h D) → mapped g (mapped f X) ≡ mapped h X
mapped-both f g h [] e = refl
mapped-both f g h (D ∷ X) e = let a : g (f D) ≡ h D = e D (inl refl) in let b : mapped g (mapped f X) ≡ mapped h X = mapped-both f g h X (λ E m. e E (inr m)) in λ i. a i ∷ b i

pub not_in_list : (Q : Prefix) (u t : ℕ) (V : List ℕ) (v : ℕ) → Originals Q u t V → (t ≤ v) ⊎ (v ≡ u) → in_list v V ≡ false
not_in_list Q u t V v o h = go (in_list v V) refl
  where
    go : (b : Bool) → in_list v V ≡ b → in_list v V ≡ false
    go true q = let r : Original Q u t v = originals-in Q u t V v o q in let l : v < t = r.1 in let n : eqb v u ≡ false = r.2 in elim h [ inl a ↦ grind arith | inr e ↦ grind arith ]
    go false q = q

pub no_literal : (l : Literal) (D : Clause) → has l D ≡ false → (k : Literal) → IsIn k D → literal_eq k l ≡ false
no_literal l D h k m = go (literal_eq k l) refl
  where
    go : (b : Bool) → literal_eq k l ≡ b → literal_eq k l ≡ false
    go true q = absurd (IsIn-has_not l D h (subst (λ y. IsIn y D) (literal_eq-sound k l q) m))
    go false q = q

-- A clause of X without not u.
class_u : (Q : Prefix) (X : Matrix) (u : ℕ) (V : List ℕ) (t : ℕ) → Expansion Q X u V t → (D : Clause) → IsIn D X → has (minus u) D ≡ false → (has (positive u) D ≡ true) ⊎ (shares V D ≡ true) → ClassU Q u V t D
class_u Q X u V t x D m n h k i = (x.below D m k i, x.closed D m (elim h [ inl a ↦ inl a | inr b ↦ inr (inr b) ]) k i, no_literal (minus u) D n k i)

class_u-insert : (Q : Prefix) (X : Matrix) (u : ℕ) (V : List ℕ) (t : ℕ) → Expansion Q X u V t → (D : Clause) → ClassU Q u V t D → ClassU Q u V t (insert (positive u) D)
class_u-insert Q X u V t x D c k i = elim (insert-IsIn (positive u) D k i) [
  | inl e ↦ subst (λ y. (y.var < t) × (inner_existential Q u y.var ≡ true → in_list y.var V ≡ true) × (literal_eq y (minus u) ≡ false)) (sym e)
      (x.u_below, (λ h. let a : is_existential Q u ≡ false = universal-not_existential Q u x.universal in grind arith), grind arith)
  | inr m ↦ c k m
]

class_u-without : (Q : Prefix) (u : ℕ) (V : List ℕ) (t : ℕ) (D : Clause) → ClassU Q u V t D → ClassU Q u V t (without (positive u) D)
class_u-without Q u V t D c k i = c k (without-IsIn (positive u) D k i)

class_m-copies : (Q : Prefix) (X : Matrix) (u : ℕ) (V : List ℕ) (t : ℕ) → Expansion Q X u V t → (D : Clause) → IsIn D X → has (positive u) D ≡ false → (has (minus u) D ≡ true) ⊎ (shares V D ≡ true) → ClassM Q u V t (copied V t (without (minus u) D))
class_m-copies Q X u V t x D m p h k i = go (copied-IsIn V t (without (minus u) D) k i)
  where
    Fine : Literal → Type 0
    Fine y = (in_list y.var V ≡ false) × (y.var < t → inner_existential Q u y.var ≡ false) × (literal_eq y (positive u) ≡ false)

    plain : (j : Literal) → IsIn j D → in_list j.var V ≡ false → Fine j
    plain j a q = (q, (λ l. inner (inner_existential Q u j.var) refl), no_literal (positive u) D p j a)
      where
        inner : (b : Bool) → inner_existential Q u j.var ≡ b → inner_existential Q u j.var ≡ false
        inner true e = let z : in_list j.var V ≡ true = x.closed D m (inr h) j a e in grind arith
        inner false e = e

    copy : (j : Literal) → in_list j.var V ≡ true → Fine (copied_literal V t j)
    copy j q =
        let l : t ≤ copy_of V t j.var = (copy_of-in (CopyOf Q) V t j.var x.copies_there q).1 in
        let ul : u < t = x.u_below in
        (not_in_list Q u t V (copy_of V t j.var) x.originals (inl l), (λ b. grind arith), grind arith)

    one : (j : Literal) → IsIn j D → (b : Bool) → in_list j.var V ≡ b → Fine (copied_literal V t j)
    one j a true q = copy j q
    one j a false q = subst Fine (sym (ap (λ v. lit v j.negative) (copy_of-out V t j.var q))) (plain j a q)

    go : ((j : Literal) × IsIn j (without (minus u) D) × (k ≡ copied_literal V t j)) → Fine k
    go (j, a, e) = subst Fine (sym e) (one j (without-IsIn (minus u) D j a) (in_list j.var V) refl)

class_m-minus : (Q : Prefix) (X : Matrix) (u : ℕ) (V : List ℕ) (t : ℕ) → Expansion Q X u V t → (C : Clause) → ClassM Q u V t C → ClassM Q u V t (insert (minus u) C)
class_m-minus Q X u V t x C c k i = elim (insert-IsIn (minus u) C k i) [
  | inl e ↦ subst (λ y. (in_list y.var V ≡ false) × (y.var < t → inner_existential Q u y.var ≡ false) × (literal_eq y (positive u) ≡ false)) (sym e)
      (not_in_list Q u t V u x.originals (inr refl), (λ l. let a : is_existential Q u ≡ false = universal-not_existential Q u x.universal in grind arith), grind arith)
  | inr m ↦ c k m
]

class_a : (Q : Prefix) (X : Matrix) (u : ℕ) (V : List ℕ) (t : ℕ) → Expansion Q X u V t → (D : Clause) → IsIn D X → shares V D ≡ false → ClassA Q u V t D
class_a Q X u V t x D m s k i = (x.below D m k i, shares-IsIn V D s k i)

copied-is_bound : (Q : Prefix) (X : Matrix) (u : ℕ) (V : List ℕ) (t : ℕ) → Expansion Q X u V t → (D : Clause) → IsIn D X → (k : Literal) → IsIn k (over_copies u V t D) → is_bound Q k.var ≡ true
copied-is_bound Q X u V t x D m k i = elim (insert-IsIn (minus u) (copied V t (without (minus u) D)) k i) [
  | inl e ↦ subst (λ y. is_bound Q y.var ≡ true) (sym e) x.u_bound
  | inr n ↦ go (copied-IsIn V t (without (minus u) D) k n)
]
  where
    one : (j : Literal) → IsIn j D → (b : Bool) → in_list j.var V ≡ b → is_bound Q (copy_of V t j.var) ≡ true
    one j a true q = existential-is_bound Q (copy_of V t j.var) (copy_of-in (CopyOf Q) V t j.var x.copies_there q).0.0
    one j a false q = subst (λ v. is_bound Q v ≡ true) (sym (copy_of-out V t j.var q)) (x.all_bound D m j a)

    go : ((j : Literal) × IsIn j (without (minus u) D) × (k ≡ copied_literal V t j)) → is_bound Q k.var ≡ true
    go (j, a, e) = subst (λ y. is_bound Q y.var ≡ true) (sym e) (one j (without-IsIn (minus u) D j a) (in_list j.var V) refl)

-- The parts of the run.
abbrev pub both_parts : ℕ → List ℕ → Matrix → Matrix
both_parts u V X = with_minus u V X ++ sharing u V X

abbrev pub expand_steps : ℕ → List ℕ → ℕ → Matrix → List ProofStep
expand_steps u V t X =
    link_steps u V t
    ++ (adds least (mapped (over_copies u V t) (both_parts u V X))
    ++ (deletes least (with_minus u V X)
    ++ (replaces (insert (positive u)) (sharing u V X)
    ++ (unlink_steps u V t
    ++ (drops (positive u) (with_u u V X ++ mapped (insert (positive u)) (sharing u V X))
    ++ drops (minus u) (mapped (over_copies u V t) (both_parts u V X)))))))

both-IsIn : (u : ℕ) (V : List ℕ) (X : Matrix) (D : Clause) → IsIn D (both_parts u V X) → IsIn D X × (has (positive u) D ≡ false) × ((has (minus u) D ≡ true) ⊎ (shares V D ≡ true))
both-IsIn u V X D m = elim (IsIn-append D (with_minus u V X) (sharing u V X) m) [
  | inl a ↦ ((with_minus-IsIn u V X D a).0, (with_minus-IsIn u V X D a).1, inl (with_minus-IsIn u V X D a).2)
  | inr b ↦ ((sharing-IsIn u V X D b).0, (sharing-IsIn u V X D b).1, inr (sharing-IsIn u V X D b).3)
]

-- Step by step.
added : (Q : Prefix) (X : Matrix) (u : ℕ) (V : List ℕ) (t : ℕ) → Expansion Q X u V t → Reaches (formula_of Q (links u V t ++ X)) (adds least (mapped (over_copies u V t) (both_parts u V X))) (formula_of Q (mapped (over_copies u V t) (both_parts u V X) ++ (links u V t ++ X)))
added Q X u V t x = reaches-adds Q least (mapped (over_copies u V t) (both_parts u V X)) (links u V t ++ X)
    (λ C m k i. let r : (E : Clause) × IsIn E (both_parts u V X) × (C ≡ over_copies u V t E) = mapped-IsIn (over_copies u V t) (both_parts u V X) C m in copied-is_bound Q X u V t x r.0 (both-IsIn u V X r.0 r.1).0 k (subst (IsIn k) r.2 i))
    (λ C m Z f g. let r : (E : Clause) × IsIn E (both_parts u V X) × (C ≡ over_copies u V t E) = mapped-IsIn (over_copies u V t) (both_parts u V X) C m in
    inl (subst (Implied Z) (sym r.2) (over_copies-implied Z u V t r.0 (links-in Z u V t (λ D i. f D (IsIn-append_left D (links u V t) X i))) (f r.0 (IsIn-append_right r.0 (links u V t) X (both-IsIn u V X r.0 r.1).0)))))

deleted : (Q : Prefix) (X : Matrix) (u : ℕ) (V : List ℕ) (t : ℕ) → Expansion Q X u V t → (Y : Matrix) → ((D : Clause) → IsIn D (links u V t) → IsIn D Y) → ((D : Clause) → IsIn D (mapped (over_copies u V t) (both_parts u V X)) → IsIn D Y)
    → Reaches (formula_of Q (with_minus u V X ++ Y)) (deletes least (with_minus u V X)) (formula_of Q Y)
deleted Q X u V t x Y l b = reaches-deletes Q least (with_minus u V X) Y (λ C m Z f g.
    inl (implied-by_copies Z u V t C C (links-in Z u V t (λ D i. f D (l D i)))
    (f (over_copies u V t C) (b (over_copies u V t C) (IsIn-mapped (over_copies u V t) (both_parts u V X) C (IsIn-append_left C (with_minus u V X) (sharing u V X) m))))
    (has-IsIn (minus u) C (with_minus-IsIn u V X C m).2) (λ k i. without-IsIn (minus u) C k i)))

replaced : (Q : Prefix) (X : Matrix) (u : ℕ) (V : List ℕ) (t : ℕ) → Expansion Q X u V t → (Y : Matrix) → ((D : Clause) → IsIn D (links u V t) → IsIn D Y) → ((D : Clause) → IsIn D (mapped (over_copies u V t) (both_parts u V X)) → IsIn D Y)
    → Reaches (formula_of Q (sharing u V X ++ Y)) (replaces (insert (positive u)) (sharing u V X)) (formula_of Q (mapped (insert (positive u)) (sharing u V X) ++ Y))
replaced Q X u V t x Y l b = reaches-replaces Q (insert (positive u)) (sharing u V X) Y
    (λ C m k i. elim (insert-IsIn (positive u) C k i) [ inl e ↦ subst (λ y. is_bound Q y.var ≡ true) (sym e) x.u_bound | inr n ↦ x.all_bound C (sharing-IsIn u V X C m).0 k n ])
    (λ C m Z i f. implied-subsumed Z C (insert (positive u) C) i (λ k j. IsIn-insert (positive u) C k (inr j)))
    (λ C m Z i f. implied-hidden Z (insert (positive u) C) C (positive u) i (IsIn-insert (positive u) C (positive u) (inl refl))
    (λ j n d. elim (insert-IsIn (positive u) C j n) [ inl e ↦ absurd (d e) | inr k ↦ k ])
    (implied-by_copies Z u V t C (minus u ∷ C) (links-in Z u V t (λ D k. f D (l D k)))
    (f (over_copies u V t C) (b (over_copies u V t C) (IsIn-mapped (over_copies u V t) (both_parts u V X) C (IsIn-append_right C (with_minus u V X) (sharing u V X) m))))
    (inl refl) (λ k n. inr (without-IsIn (minus u) C k n))))

-- What the parts are in the end.
classes-u : (Q : Prefix) (X : Matrix) (u : ℕ) (V : List ℕ) (t : ℕ) → Expansion Q X u V t → (D : Clause) → IsIn D (with_u u V X ++ mapped (insert (positive u)) (sharing u V X)) → ClassU Q u V t D × IsIn (positive u) D
classes-u Q X u V t x D m = elim (IsIn-append D (with_u u V X) (mapped (insert (positive u)) (sharing u V X)) m) [
  | inl a ↦ (class_u Q X u V t x D (with_u-IsIn u V X D a).0 (x.not_both D (with_u-IsIn u V X D a).0 (with_u-IsIn u V X D a).1) (inl (with_u-IsIn u V X D a).1), has-IsIn (positive u) D (with_u-IsIn u V X D a).1)
  | inr b ↦ go (mapped-IsIn (insert (positive u)) (sharing u V X) D b)
]
  where
    go : ((E : Clause) × IsIn E (sharing u V X) × (D ≡ insert (positive u) E)) → ClassU Q u V t D × IsIn (positive u) D
    go (E, i, e) = subst (λ y. ClassU Q u V t y × IsIn (positive u) y) (sym e) (
      class_u-insert Q X u V t x E (class_u Q X u V t x E (sharing-IsIn u V X E i).0 (sharing-IsIn u V X E i).2 (inr (sharing-IsIn u V X E i).3)),
      IsIn-insert (positive u) E (positive u) (inl refl),
    )

classes-m : (Q : Prefix) (X : Matrix) (u : ℕ) (V : List ℕ) (t : ℕ) → Expansion Q X u V t → (D : Clause) → IsIn D (mapped (over_copies u V t) (both_parts u V X)) → ClassM Q u V t D × IsIn (minus u) D
classes-m Q X u V t x D m = go (mapped-IsIn (over_copies u V t) (both_parts u V X) D m)
  where
    go : ((E : Clause) × IsIn E (both_parts u V X) × (D ≡ over_copies u V t E)) → ClassM Q u V t D × IsIn (minus u) D
    go (E, i, e) = subst (λ y. ClassM Q u V t y × IsIn (minus u) y) (sym e) (
      class_m-minus Q X u V t x (copied V t (without (minus u) E)) (class_m-copies Q X u V t x E (both-IsIn u V X E i).0 (both-IsIn u V X E i).1 (both-IsIn u V X E i).2),
      IsIn-insert (minus u) (copied V t (without (minus u) E)) (minus u) (inl refl),
    )

classes-without_u : (Q : Prefix) (u : ℕ) (V : List ℕ) (t : ℕ) (W : Matrix) → ((D : Clause) → IsIn D W → ClassU Q u V t D) → (D : Clause) → IsIn D (mapped (without (positive u)) W) → ClassU Q u V t D
classes-without_u Q u V t W h D m = go (mapped-IsIn (without (positive u)) W D m)
  where
    go : ((E : Clause) × IsIn E W × (D ≡ without (positive u) E)) → ClassU Q u V t D
    go (E, i, e) = subst (ClassU Q u V t) (sym e) (class_u-without Q u V t E (h E i))

classes-without_m : (Q : Prefix) (u : ℕ) (V : List ℕ) (t : ℕ) (W : Matrix) → ((D : Clause) → IsIn D W → ClassM Q u V t D) → (D : Clause) → IsIn D (mapped (without (minus u)) W) → ClassM Q u V t D
classes-without_m Q u V t W h D m = go (mapped-IsIn (without (minus u)) W D m)
  where
    go : ((E : Clause) × IsIn E W × (D ≡ without (minus u) E)) → ClassM Q u V t D
    go (E, i, e) = subst (ClassM Q u V t) (sym e) (λ k j. h E i k (without-IsIn (minus u) E k j))

pub has_none : (l : Literal) (C : Clause) → (IsIn l C → ⊥) → has l C ≡ false
has_none l C h = go (has l C) refl
  where
    go : (b : Bool) → has l C ≡ b → has l C ≡ false
    go true q = absurd (h (has-IsIn l C q))
    go false q = q

copied-no_minus : (Q : Prefix) (X : Matrix) (u : ℕ) (V : List ℕ) (t : ℕ) → Expansion Q X u V t → (D : Clause) → has (minus u) (copied V t (without (minus u) D)) ≡ false
copied-no_minus Q X u V t x D = has_none (minus u) (copied V t (without (minus u) D)) (λ m. go (copied-IsIn V t (without (minus u) D) (minus u) m))
  where
    one : (j : Literal) → literal_eq j (minus u) ≡ false → minus u ≡ copied_literal V t j → (b : Bool) → in_list j.var V ≡ b → ⊥
    one j n e true q = let l : t ≤ copy_of V t j.var = (copy_of-in (CopyOf Q) V t j.var x.copies_there q).1 in let ul : u < t = x.u_below in let w : u ≡ copy_of V t j.var = ap (λ y. y.var) e in grind arith
    one j n e false q = let w : u ≡ j.var = ap (λ y. y.var) e ∙ copy_of-out V t j.var q in let s : true ≡ j.negative = ap (λ y. y.negative) e in grind arith

    go : ((j : Literal) × IsIn j (without (minus u) D) × (minus u ≡ copied_literal V t j)) → ⊥
    go (j, a, e) = one j (without-other (minus u) D j a) e (in_list j.var V) refl

-- The collections on the way.
first-alike : (u : ℕ) (V : List ℕ) (X L B : Matrix) → SameClauses (with_minus u V X ++ (sharing u V X ++ (with_u u V X ++ (apart u V X ++ (B ++ L))))) (B ++ (L ++ X))
first-alike u V X L B C =
    let N : Matrix = with_minus u V X in
    let M : Matrix = sharing u V X in
    let A : Matrix = with_u u V X in
    let R : Matrix = apart u V X in
    let e : copies C X ≡ copies C (with_u u V X) + (copies C (with_minus u V X) + (copies C (sharing u V X) + copies C (apart u V X))) = parts-copies u V X C in
    let e1 : copies C (with_minus u V X ++ (sharing u V X ++ (with_u u V X ++ (apart u V X ++ (B ++ L))))) ≡ copies C (with_minus u V X) + copies C (sharing u V X ++ (with_u u V X ++ (apart u V X ++ (B ++ L)))) = copies-append C (with_minus u V X) (sharing u V X ++ (with_u u V X ++ (apart u V X ++ (B ++ L)))) in
    let e2 : copies C (sharing u V X ++ (with_u u V X ++ (apart u V X ++ (B ++ L)))) ≡ copies C (sharing u V X) + copies C (with_u u V X ++ (apart u V X ++ (B ++ L))) = copies-append C (sharing u V X) (with_u u V X ++ (apart u V X ++ (B ++ L))) in
    let e3 : copies C (with_u u V X ++ (apart u V X ++ (B ++ L))) ≡ copies C (with_u u V X) + copies C (apart u V X ++ (B ++ L)) = copies-append C (with_u u V X) (apart u V X ++ (B ++ L)) in
    let e4 : copies C (apart u V X ++ (B ++ L)) ≡ copies C (apart u V X) + copies C (B ++ L) = copies-append C (apart u V X) (B ++ L) in
    let e5 : copies C (B ++ L) ≡ copies C B + copies C L = copies-append C B L in
    let e6 : copies C (B ++ (L ++ X)) ≡ copies C B + copies C (L ++ X) = copies-append C B (L ++ X) in
    let e7 : copies C (L ++ X) ≡ copies C L + copies C X = copies-append C L X in
    grind arith

second-alike : (A I R L B : Matrix) → SameClauses (I ++ (A ++ (R ++ (B ++ L)))) (L ++ ((A ++ I) ++ (R ++ B)))
second-alike A I R L B C =
    let e1 : copies C (I ++ (A ++ (R ++ (B ++ L)))) ≡ copies C I + copies C (A ++ (R ++ (B ++ L))) = copies-append C I (A ++ (R ++ (B ++ L))) in
    let e2 : copies C (A ++ (R ++ (B ++ L))) ≡ copies C A + copies C (R ++ (B ++ L)) = copies-append C A (R ++ (B ++ L)) in
    let e3 : copies C (R ++ (B ++ L)) ≡ copies C R + copies C (B ++ L) = copies-append C R (B ++ L) in
    let e4 : copies C (B ++ L) ≡ copies C B + copies C L = copies-append C B L in
    let e5 : copies C (L ++ ((A ++ I) ++ (R ++ B))) ≡ copies C L + copies C ((A ++ I) ++ (R ++ B)) = copies-append C L ((A ++ I) ++ (R ++ B)) in
    let e6 : copies C ((A ++ I) ++ (R ++ B)) ≡ copies C (A ++ I) + copies C (R ++ B) = copies-append C (A ++ I) (R ++ B) in
    let e7 : copies C (A ++ I) ≡ copies C A + copies C I = copies-append C A I in
    let e8 : copies C (R ++ B) ≡ copies C R + copies C B = copies-append C R B in
    grind arith

third-alike : (W R B : Matrix) → SameClauses (W ++ (R ++ B)) (B ++ (W ++ R))
third-alike W R B C =
    let e1 : copies C (W ++ (R ++ B)) ≡ copies C W + copies C (R ++ B) = copies-append C W (R ++ B) in
    let e2 : copies C (R ++ B) ≡ copies C R + copies C B = copies-append C R B in
    let e3 : copies C (B ++ (W ++ R)) ≡ copies C B + copies C (W ++ R) = copies-append C B (W ++ R) in
    let e4 : copies C (W ++ R) ≡ copies C W + copies C R = copies-append C W R in
    grind arith

last-alike : (Q : Prefix) (X : Matrix) (u : ℕ) (V : List ℕ) (t : ℕ) → Expansion Q X u V t →
    SameClauses (mapped (without (minus u)) (mapped (over_copies u V t) (both_parts u V X)) ++ (mapped (without (positive u)) (with_u u V X ++ mapped (insert (positive u)) (sharing u V X)) ++ apart u V X)) (expanded u V t X)
last-alike Q X u V t x C =
    let a : mapped (without (minus u)) (mapped (over_copies u V t) (both_parts u V X)) ≡ mapped (copied_rest u V t) (both_parts u V X) = mapped-both (over_copies u V t) (without (minus u)) (copied_rest u V t) (both_parts u V X) (λ D m. without-insert (minus u) (copied V t (without (minus u) D)) (copied-no_minus Q X u V t x D)) in
    let b : mapped (copied_rest u V t) (both_parts u V X) ≡ mapped (copied_rest u V t) (with_minus u V X) ++ mapped (copied_rest u V t) (sharing u V X) = mapped-append (copied_rest u V t) (with_minus u V X) (sharing u V X) in
    let c : mapped (without (positive u)) (with_u u V X ++ mapped (insert (positive u)) (sharing u V X)) ≡ mapped (without (positive u)) (with_u u V X) ++ mapped (without (positive u)) (mapped (insert (positive u)) (sharing u V X)) = mapped-append (without (positive u)) (with_u u V X) (mapped (insert (positive u)) (sharing u V X)) in
    let d : mapped (without (positive u)) (mapped (insert (positive u)) (sharing u V X)) ≡ sharing u V X = mapped-back (insert (positive u)) (without (positive u)) (sharing u V X) (λ D m. without-insert (positive u) D (sharing-IsIn u V X D m).1) in
    counted (mapped (without (minus u)) (mapped (over_copies u V t) (both_parts u V X))) (mapped (without (positive u)) (with_u u V X ++ mapped (insert (positive u)) (sharing u V X))) (a ∙ b) (c ∙ ap (λ Y. mapped (without (positive u)) (with_u u V X) ++ Y) d)
  where
    counted : (B W : Matrix) → B ≡ mapped (copied_rest u V t) (with_minus u V X) ++ mapped (copied_rest u V t) (sharing u V X) → W ≡ mapped (without (positive u)) (with_u u V X) ++ sharing u V X → copies C (B ++ (W ++ apart u V X)) ≡ copies C (expanded u V t X)
    counted B W p q =
        let e0 : copies C (expanded u V t X) ≡ copies C (mapped (without (positive u)) (with_u u V X)) + (copies C (mapped (copied_rest u V t) (with_minus u V X)) + (copies C (sharing u V X) + (copies C (mapped (copied_rest u V t) (sharing u V X)) + copies C (apart u V X)))) = expanded-copies u V t X C in
        let e1 : copies C (B ++ (W ++ apart u V X)) ≡ copies C B + copies C (W ++ apart u V X) = copies-append C B (W ++ apart u V X) in
        let e2 : copies C (W ++ apart u V X) ≡ copies C W + copies C (apart u V X) = copies-append C W (apart u V X) in
        let e3 : copies C B ≡ copies C (mapped (copied_rest u V t) (with_minus u V X)) + copies C (mapped (copied_rest u V t) (sharing u V X)) = ap (copies C) p ∙ copies-append C (mapped (copied_rest u V t) (with_minus u V X)) (mapped (copied_rest u V t) (sharing u V X)) in
        let e4 : copies C W ≡ copies C (mapped (without (positive u)) (with_u u V X)) + copies C (sharing u V X) = ap (copies C) q ∙ copies-append C (mapped (without (positive u)) (with_u u V X)) (sharing u V X) in
        grind arith

pub expand_from : (Q : Prefix) (X : Matrix) (u : ℕ) (V : List ℕ) (t : ℕ) → Expansion Q X u V t → Reaches (formula_of Q X) (expand_steps u V t X) (formula_of Q (expanded u V t X))
expand_from Q X u V t x =
    reaches-append (formula_of Q X) (link_steps u V t) (adds least B ++ (deletes least N ++ (replaces (insert (positive u)) M ++ (unlink_steps u V t ++ (drops (positive u) U ++ drops (minus u) B))))) (formula_of Q (L ++ X)) E
    (reaches-links Q u V t X x.u_bound x.u_below x.copies_there x.originals x.below)
    (reaches-append (formula_of Q (L ++ X)) (adds least B) (deletes least N ++ (replaces (insert (positive u)) M ++ (unlink_steps u V t ++ (drops (positive u) U ++ drops (minus u) B)))) (formula_of Q (B ++ (L ++ X))) E
    (added Q X u V t x)
    (reaches-alike Q (N ++ (M ++ Y2)) (B ++ (L ++ X)) (deletes least N ++ (replaces (insert (positive u)) M ++ (unlink_steps u V t ++ (drops (positive u) U ++ drops (minus u) B)))) E (first-alike u V X L B)
    (reaches-append (formula_of Q (N ++ (M ++ Y2))) (deletes least N) (replaces (insert (positive u)) M ++ (unlink_steps u V t ++ (drops (positive u) U ++ drops (minus u) B))) (formula_of Q (M ++ Y2)) E
    (deleted Q X u V t x (M ++ Y2) (λ D m. IsIn-append_right D M Y2 (links_in D m)) (λ D m. IsIn-append_right D M Y2 (copies_in D m)))
    (reaches-append (formula_of Q (M ++ Y2)) (replaces (insert (positive u)) M) (unlink_steps u V t ++ (drops (positive u) U ++ drops (minus u) B)) (formula_of Q (mapped (insert (positive u)) M ++ Y2)) E
    (replaced Q X u V t x Y2 links_in copies_in)
    (reaches-alike Q (L ++ (U ++ (R ++ B))) (mapped (insert (positive u)) M ++ Y2) (unlink_steps u V t ++ (drops (positive u) U ++ drops (minus u) B)) E (alike-sym (mapped (insert (positive u)) M ++ Y2) (L ++ (U ++ (R ++ B))) (second-alike A (mapped (insert (positive u)) M) R L B))
    (reaches-append (formula_of Q (L ++ (U ++ (R ++ B)))) (unlink_steps u V t) (drops (positive u) U ++ drops (minus u) B) (formula_of Q (U ++ (R ++ B))) E
    (reaches-unlinks Q u V t (U ++ (R ++ B)) x.u_below x.copies_there x.originals guarded)
    (reaches-append (formula_of Q (U ++ (R ++ B))) (drops (positive u) U) (drops (minus u) B) (formula_of Q (mapped (without (positive u)) U ++ (R ++ B))) E
    (reaches-drops Q (positive u) U (R ++ B) (λ C m Z f. inr (reducible_u Q u V t Z C x.universal (in_u C m).1 (λ D i. classes1 D (f D i)) (in_u C m).0)))
    (reaches-alike Q (B ++ (W ++ R)) (W ++ (R ++ B)) (drops (minus u) B) E (alike-sym (W ++ (R ++ B)) (B ++ (W ++ R)) (third-alike W R B))
    (reaches-end Q (mapped (without (minus u)) B ++ (W ++ R)) (expanded u V t X) (formula_of Q (B ++ (W ++ R))) (drops (minus u) B) (last-alike Q X u V t x)
    (reaches-drops Q (minus u) B (W ++ R) (λ C m Z f. inr (reducible_m Q u V t Z C x.universal (in_m C m).1 (λ D i. classes2 D (f D i)) (in_m C m).0))))))))))))
  where
    L : Matrix
    L = links u V t

    N : Matrix
    N = with_minus u V X

    M : Matrix
    M = sharing u V X

    A : Matrix
    A = with_u u V X

    R : Matrix
    R = apart u V X

    B : Matrix
    B = mapped (over_copies u V t) (both_parts u V X)

    U : Matrix
    U = with_u u V X ++ mapped (insert (positive u)) (sharing u V X)

    W : Matrix
    W = mapped (without (positive u)) (with_u u V X ++ mapped (insert (positive u)) (sharing u V X))

    Y2 : Matrix
    Y2 = with_u u V X ++ (apart u V X ++ (mapped (over_copies u V t) (both_parts u V X) ++ links u V t))

    E : PrenexFormula
    E = formula_of Q (expanded u V t X)

    links_in : (D : Clause) → IsIn D (links u V t) → IsIn D (with_u u V X ++ (apart u V X ++ (mapped (over_copies u V t) (both_parts u V X) ++ links u V t)))
    links_in D m = IsIn-append_right D A (R ++ (B ++ L)) (IsIn-append_right D R (B ++ L) (IsIn-append_right D B L m))

    copies_in : (D : Clause) → IsIn D (mapped (over_copies u V t) (both_parts u V X)) → IsIn D (with_u u V X ++ (apart u V X ++ (mapped (over_copies u V t) (both_parts u V X) ++ links u V t)))
    copies_in D m = IsIn-append_right D A (R ++ (B ++ L)) (IsIn-append_right D R (B ++ L) (IsIn-append_left D B L m))

    in_u : (D : Clause) → IsIn D (with_u u V X ++ mapped (insert (positive u)) (sharing u V X)) → ClassU Q u V t D × IsIn (positive u) D
    in_u D m = classes-u Q X u V t x D m

    in_m : (D : Clause) → IsIn D (mapped (over_copies u V t) (both_parts u V X)) → ClassM Q u V t D × IsIn (minus u) D
    in_m D m = classes-m Q X u V t x D m

    in_a : (D : Clause) → IsIn D (apart u V X) → ClassA Q u V t D
    in_a D m = class_a Q X u V t x D (apart-IsIn u V X D m).0 (apart-IsIn u V X D m).3

    guarded : Guarded u V (U ++ (R ++ B))
    guarded D m k i h = elim (IsIn-append D U (R ++ B) m) [
      | inl a ↦ (in_u D a).1
      | inr b ↦ elim (IsIn-append D R B b) [
        | inl c ↦ let z : in_list k.var V ≡ false = (in_a D c k i).1 in grind arith
        | inr d ↦ let z : in_list k.var V ≡ false = ((in_m D d).0 k i).0 in grind arith
      ]
    ]

    classes1 : Classes Q u V t (mapped (without (positive u)) U ++ (U ++ (R ++ B)))
    classes1 D m = elim (IsIn-append D W (U ++ (R ++ B)) m) [
      | inl a ↦ inl (classes-without_u Q u V t U (λ F n. (in_u F n).0) D a)
      | inr b ↦ elim (IsIn-append D U (R ++ B) b) [
        | inl c ↦ inl (in_u D c).0
        | inr d ↦ elim (IsIn-append D R B d) [ inl e ↦ inr (inr (in_a D e)) | inr f ↦ inr (inl (in_m D f).0) ]
      ]
    ]

    classes2 : Classes Q u V t (mapped (without (minus u)) B ++ (B ++ (W ++ R)))
    classes2 D m = elim (IsIn-append D (mapped (without (minus u)) B) (B ++ (W ++ R)) m) [
      | inl a ↦ inr (inl (classes-without_m Q u V t B (λ F n. (in_m F n).0) D a))
      | inr b ↦ elim (IsIn-append D B (W ++ R) b) [
        | inl c ↦ inr (inl (in_m D c).0)
        | inr d ↦ elim (IsIn-append D W R d) [ inl e ↦ inl (classes-without_u Q u V t U (λ F n. (in_u F n).0) D e) | inr f ↦ inr (inr (in_a D f)) ]
      ]
    ]
