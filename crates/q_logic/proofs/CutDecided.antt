-- The plain program decides what is reducible.
use Rattle.std.proofs.Common.{◌≡◌, ◌↔◌, ◌≤◌, ℕ, zero, suc, ◌+◌, Bool, true, false, cond, ◌&&◌, not, [], ◌∷◌, ◌++◌, ◌⊎◌, inl, inr, arith, refl, sym, ap, ◌∙◌, subst, length}
use Rattle.std.proofs.lemmas.Bool.{and_from}
use Rattle.q_logic.specs.Prelude.{insert, Literal, negation, Clause, Matrix, Prefix, IsIn, is_universal, Reducible, Reached, IsSubset, has, union, negated_in, size_of, inner_existential}
use Rattle.q_logic.specs.Rules.Cut.{inner_literals, is_hit, reach_once, reach_often, none_hit, reducible}
use Rattle.q_logic.proofs.ClauseLemmas.{IsIn-append_left, has-IsIn, IsIn-has, IsIn-append_right}
use Rattle.q_logic.proofs.JoinedClauses.{union-IsIn, IsIn-union, insert-IsIn, IsIn-insert}
use Rattle.q_logic.proofs.LiteralOrder.{Ordered, insert-ordered, union-ordered}
use Rattle.q_logic.proofs.ClosureSearch.{ClosedLiterals, NoneHit, closed-reducible, Reaching, hit-reached, hit-not_reducible}
use Rattle.q_logic.proofs.ClosureRounds.{Growing, iterated, iterated-closed, lits, lits-length}
use Rattle.q_logic.proofs.Decided.{and-parts, not-parts, not-both, negated_in-is, is-negated_in}

inner_lits-IsIn : (P : Prefix) (u : ℕ) (C : Clause) (k : Literal) → IsIn k (inner_literals P u C) → IsIn k C × (inner_existential P u k.var ≡ true)
inner_lits-IsIn P u [] k m = elim m [ ]
inner_lits-IsIn P u (j ∷ C) k m = go (inner_existential P u j.var) refl m (inner_lits-IsIn P u C k)
  where
    go : (b : Bool) → inner_existential P u j.var ≡ b → IsIn k (cond b (insert j (inner_literals P u C)) (inner_literals P u C)) → (IsIn k (inner_literals P u C) → IsIn k C × (inner_existential P u k.var ≡ true)) → IsIn k (j ∷ C) × (inner_existential P u k.var ≡ true)
    go true q n ih = elim (insert-IsIn j (inner_literals P u C) k n) [ inl e ↦ (inl e, subst (λ y. inner_existential P u y.var ≡ true) (sym e) q) | inr i ↦ (inr (ih i).0, (ih i).1) ]
    go false q n ih = (inr (ih n).0, (ih n).1)

IsIn-inner_lits : (P : Prefix) (u : ℕ) (C : Clause) (k : Literal) → IsIn k C → inner_existential P u k.var ≡ true → IsIn k (inner_literals P u C)
IsIn-inner_lits P u [] k m h = elim m [ ]
IsIn-inner_lits P u (j ∷ C) k m h = go (inner_existential P u j.var) refl m (λ n. IsIn-inner_lits P u C k n h)
  where
    go : (b : Bool) → inner_existential P u j.var ≡ b → (k ≡ j) ⊎ IsIn k C → (IsIn k C → IsIn k (inner_literals P u C)) → IsIn k (cond b (insert j (inner_literals P u C)) (inner_literals P u C))
    go true q (inl e) ih = IsIn-insert j (inner_literals P u C) k (inl e)
    go true q (inr n) ih = IsIn-insert j (inner_literals P u C) k (inr (ih n))
    go false q (inl e) ih = let z : inner_existential P u j.var ≡ true = subst (λ y. inner_existential P u y.var ≡ true) e h in let w : true ≡ false = sym z ∙ q in grind arith
    go false q (inr n) ih = ih n

inner_lits-ordered : (P : Prefix) (u : ℕ) (C : Clause) → Ordered (inner_literals P u C)
inner_lits-ordered P u [] = tt
inner_lits-ordered P u (j ∷ C) = go (inner_existential P u j.var) (inner_lits-ordered P u C)
  where
    go : (b : Bool) → Ordered (inner_literals P u C) → Ordered (cond b (insert j (inner_literals P u C)) (inner_literals P u C))
    go true o = insert-ordered j (inner_literals P u C) o
    go false o = o

abbrev Hit : Literal → Clause → Clause → Type 0
Hit l K D = (IsIn l D → ⊥) × ((k : Literal) × IsIn k K × IsIn (negation k) D)

is_hit-is : (l : Literal) (K D : Clause) → is_hit l K D ≡ true → Hit l K D
is_hit-is l K D h = let r : (not (has l D) ≡ true) × (negated_in K D ≡ true) = and-parts (not (has l D)) (negated_in K D) h in ((λ m. not-parts (has l D) r.0 (IsIn-has l D m)), negated_in-is K D r.1)

is-is_hit : (l : Literal) (K D : Clause) → Hit l K D → is_hit l K D ≡ true
is-is_hit l K D h = and_from (not (has l D)) (negated_in K D) (not-both (has l D) (λ e. h.0 (has-IsIn l D e))) (is-negated_in K D h.1)

length-app : (C D : Clause) → length (C ++ D) ≡ length C + length D
length-app [] D = grind arith
length-app (k ∷ C) D = let i : length (C ++ D) ≡ length C + length D = length-app C D in grind arith

reach_once-sound : (P : Prefix) (l : Literal) (X : Matrix) (K : Clause) (k : Literal) → IsIn k (reach_once P l X K) → IsIn k K ⊎ ((D : Clause) × IsIn D X × Hit l K D × IsIn k (inner_literals P l.var D))
reach_once-sound P l [] K k m = inl m
reach_once-sound P l (D ∷ X) K k m = go (is_hit l K D) refl m (reach_once-sound P l X K k)
  where
    Found : Matrix → Type 0
    Found Y = IsIn k K ⊎ ((E : Clause) × IsIn E Y × Hit l K E × IsIn k (inner_literals P l.var E))

    later : IsIn k K ⊎ ((E : Clause) × IsIn E X × Hit l K E × IsIn k (inner_literals P l.var E)) → IsIn k K ⊎ ((E : Clause) × IsIn E (D ∷ X) × Hit l K E × IsIn k (inner_literals P l.var E))
    later (inl a) = inl a
    later (inr (E, i, h, n)) = inr (E, inr i, h, n)

    go : (b : Bool) → is_hit l K D ≡ b → IsIn k (cond b (union (inner_literals P l.var D) (reach_once P l X K)) (reach_once P l X K)) → (IsIn k (reach_once P l X K) → IsIn k K ⊎ ((E : Clause) × IsIn E X × Hit l K E × IsIn k (inner_literals P l.var E)))
        → IsIn k K ⊎ ((E : Clause) × IsIn E (D ∷ X) × Hit l K E × IsIn k (inner_literals P l.var E))
    go true q n ih = elim (union-IsIn (inner_literals P l.var D) (reach_once P l X K) k n) [ inl a ↦ inr (D, inl refl, is_hit-is l K D q, a) | inr b ↦ later (ih b) ]
    go false q n ih = later (ih n)

reach_once-keeps : (P : Prefix) (l : Literal) (X : Matrix) (K : Clause) → IsSubset K (reach_once P l X K)
reach_once-keeps P l [] K k m = m
reach_once-keeps P l (D ∷ X) K k m = go (is_hit l K D) (reach_once-keeps P l X K k m)
  where
    go : (b : Bool) → IsIn k (reach_once P l X K) → IsIn k (cond b (union (inner_literals P l.var D) (reach_once P l X K)) (reach_once P l X K))
    go true n = IsIn-union (inner_literals P l.var D) (reach_once P l X K) k (inr n)
    go false n = n

reach_once-whole : (P : Prefix) (l : Literal) (X : Matrix) (K D : Clause) → IsIn D X → Hit l K D → IsSubset (inner_literals P l.var D) (reach_once P l X K)
reach_once-whole P l [] K D m h k i = elim m [ ]
reach_once-whole P l (E ∷ X) K D m h k i = go (is_hit l K E) refl m (λ n. reach_once-whole P l X K D n h k i)
  where
    go : (b : Bool) → is_hit l K E ≡ b → (D ≡ E) ⊎ IsIn D X → (IsIn D X → IsIn k (reach_once P l X K)) → IsIn k (cond b (union (inner_literals P l.var E) (reach_once P l X K)) (reach_once P l X K))
    go true q (inl e) ih = IsIn-union (inner_literals P l.var E) (reach_once P l X K) k (inl (subst (λ y. IsIn k (inner_literals P l.var y)) e i))
    go true q (inr n) ih = IsIn-union (inner_literals P l.var E) (reach_once P l X K) k (inr (ih n))
    go false q (inl e) ih = let z : is_hit l K E ≡ true = is-is_hit l K E (subst (Hit l K) e h) in let w : true ≡ false = sym z ∙ q in grind arith
    go false q (inr n) ih = ih n

reach_once-ordered : (P : Prefix) (l : Literal) (X : Matrix) (K : Clause) → Ordered K → Ordered (reach_once P l X K)
reach_once-ordered P l [] K o = o
reach_once-ordered P l (D ∷ X) K o = go (is_hit l K D) (reach_once-ordered P l X K o)
  where
    go : (b : Bool) → Ordered (reach_once P l X K) → Ordered (cond b (union (inner_literals P l.var D) (reach_once P l X K)) (reach_once P l X K))
    go true i = union-ordered (inner_literals P l.var D) (reach_once P l X K) i
    go false i = i

lits-in : (X : Matrix) (D : Clause) → IsIn D X → IsSubset D (lits X)
lits-in [] D m k i = elim m [ ]
lits-in (E ∷ X) D (inl e) k i = IsIn-append_left k E (lits X) (subst (IsIn k) e i)
lits-in (E ∷ X) D (inr n) k i = IsIn-append_right k E (lits X) (lits-in X D n k i)

reach-growing : (P : Prefix) (l : Literal) (X : Matrix) (C : Clause) → Growing (reach_once P l X) (C ++ lits X)
reach-growing P l X C = record {
  inflates = reach_once-keeps P l X;
  monotone = λ S T w k m. elim (reach_once-sound P l X S k m) [
    | inl a ↦ reach_once-keeps P l X T k (w k a)
    | inr r ↦ reach_once-whole P l X T r.0 r.1 (r.2.0, (r.2.1.0, w r.2.1.0 r.2.1.1, r.2.1.2)) k r.3
  ];
  ordered = reach_once-ordered P l X;
  inside = λ S w k m. elim (reach_once-sound P l X S k m) [
    | inl a ↦ w k a
    | inr r ↦ IsIn-append_right k C (lits X) (lits-in X r.0 r.1 k (inner_lits-IsIn P l.var r.0 k r.3).0)
  ];
}

reach_often-iterated : (n : ℕ) (P : Prefix) (l : Literal) (X : Matrix) (K : Clause) → reach_often n P l X K ≡ iterated (reach_once P l X) n K
reach_often-iterated zero P l X K = refl
reach_often-iterated (suc n) P l X K = ap (reach_once P l X) (reach_often-iterated n P l X K)

iterated-keeps : (n : ℕ) (P : Prefix) (l : Literal) (X : Matrix) (K : Clause) → IsSubset K (iterated (reach_once P l X) n K)
iterated-keeps zero P l X K k m = m
iterated-keeps (suc n) P l X K k m = reach_once-keeps P l X (iterated (reach_once P l X) n K) k (iterated-keeps n P l X K k m)

iterated-reaching : (n : ℕ) (P : Prefix) (X : Matrix) (C : Clause) (l k : Literal) → IsIn k (iterated (reach_once P l X) n (inner_literals P l.var C)) → Reaching P X C l k
iterated-reaching zero P X C l k m = let r : IsIn k C × (inner_existential P l.var k.var ≡ true) = inner_lits-IsIn P l.var C k m in (C, Reached.first, r.0, r.1)
iterated-reaching (suc n) P X C l k m = go (reach_once-sound P l X (iterated (reach_once P l X) n (inner_literals P l.var C)) k m) (λ j i. iterated-reaching n P X C l j i)
  where
    go : IsIn k (iterated (reach_once P l X) n (inner_literals P l.var C)) ⊎ ((D : Clause) × IsIn D X × Hit l (iterated (reach_once P l X) n (inner_literals P l.var C)) D × IsIn k (inner_literals P l.var D))
        → ((j : Literal) → IsIn j (iterated (reach_once P l X) n (inner_literals P l.var C)) → Reaching P X C l j) → Reaching P X C l k
    go (inl a) ih = ih k a
    go (inr (D, i, h, n)) ih = let r : IsIn k D × (inner_existential P l.var k.var ≡ true) = inner_lits-IsIn P l.var D k n in
        (D, hit-reached P X C l D h.1.0 (ih h.1.0 h.1.1) i h.0 h.1.2, r.0, r.1)

none_hit-is : (l : Literal) (X : Matrix) (K : Clause) → none_hit l X K ≡ true → NoneHit X l K
none_hit-is l X K h = record { none = λ E m f k i n j. all X h E m (f, (k, i, n)) j }
  where
    all : (Y : Matrix) → none_hit l Y K ≡ true → (E : Clause) → IsIn E Y → Hit l K E → IsIn (negation l) E → ⊥
    all [] h E m t j = elim m [ ]
    all (D ∷ Y) h E (inl e) t j = not-parts (is_hit l K D && has (negation l) D) (and-parts (not (is_hit l K D && has (negation l) D)) (none_hit l Y K) h).0
        (and_from (is_hit l K D) (has (negation l) D) (is-is_hit l K D (subst (Hit l K) e t)) (IsIn-has (negation l) D (subst (IsIn (negation l)) e j)))
    all (D ∷ Y) h E (inr m) t j = all Y (and-parts (not (is_hit l K D && has (negation l) D)) (none_hit l Y K) h).1 E m t j

is-none_hit : (l : Literal) (X : Matrix) (K : Clause) → ((E : Clause) → IsIn E X → Hit l K E → IsIn (negation l) E → ⊥) → none_hit l X K ≡ true
is-none_hit l [] K h = refl
is-none_hit l (D ∷ X) K h = and_from (not (is_hit l K D && has (negation l) D)) (none_hit l X K)
    (not-both (is_hit l K D && has (negation l) D) (λ e. let r : (is_hit l K D ≡ true) × (has (negation l) D ≡ true) = and-parts (is_hit l K D) (has (negation l) D) e in h D (inl refl) (is_hit-is l K D r.0) (has-IsIn (negation l) D r.1)))
    (is-none_hit l X K (λ E m. h E (inr m)))

pub decided-reducible : (P : Prefix) (X : Matrix) (C : Clause) (l : Literal) → (reducible P X C l ≡ true) ↔ Reducible P X C l
decided-reducible P X C l = (there, back)
  where
    n : ℕ
    n = length C + size_of X

    K : Clause
    K = iterated (reach_once P l X) (length C + size_of X) (inner_literals P l.var C)

    same : reach_often (length C + size_of X) P l X (inner_literals P l.var C) ≡ iterated (reach_once P l X) (length C + size_of X) (inner_literals P l.var C)
    same = reach_often-iterated (length C + size_of X) P l X (inner_literals P l.var C)

    short : length (C ++ lits X) ≤ length C + size_of X
    short = let a : length (lits X) ≤ size_of X = lits-length X in let b : length (C ++ lits X) ≡ length C + length (lits X) = length-app C (lits X) in grind arith

    closed : IsSubset (reach_once P l X (iterated (reach_once P l X) (length C + size_of X) (inner_literals P l.var C))) (iterated (reach_once P l X) (length C + size_of X) (inner_literals P l.var C))
    closed = iterated-closed (reach_once P l X) (C ++ lits X) (reach-growing P l X C) (length C + size_of X) (inner_literals P l.var C) (inner_lits-ordered P l.var C)
        (λ k m. IsIn-append_left k C (lits X) (inner_lits-IsIn P l.var C k m).0) short

    lits_closed : ClosedLiterals P X C l (iterated (reach_once P l X) (length C + size_of X) (inner_literals P l.var C))
    lits_closed = record {
      of_first = λ k m i. iterated-keeps (length C + size_of X) P l X (inner_literals P l.var C) k (IsIn-inner_lits P l.var C k m i);
      of_hit = λ E m f k i g j h q. closed j (reach_once-whole P l X K E m (f, (k, i, g)) j (IsIn-inner_lits P l.var E j h q));
    }

    there : reducible P X C l ≡ true → Reducible P X C l
    there h =
        let a : (is_universal P l.var ≡ true) × ((has l C && (not (has (negation l) C) && none_hit l X (reach_often (length C + size_of X) P l X (inner_literals P l.var C)))) ≡ true) = and-parts (is_universal P l.var) (has l C && (not (has (negation l) C) && none_hit l X (reach_often (length C + size_of X) P l X (inner_literals P l.var C)))) h in
        let b : (has l C ≡ true) × ((not (has (negation l) C) && none_hit l X (reach_often (length C + size_of X) P l X (inner_literals P l.var C))) ≡ true) = and-parts (has l C) (not (has (negation l) C) && none_hit l X (reach_often (length C + size_of X) P l X (inner_literals P l.var C))) a.1 in
        let c : (not (has (negation l) C) ≡ true) × (none_hit l X (reach_often (length C + size_of X) P l X (inner_literals P l.var C)) ≡ true) = and-parts (not (has (negation l) C)) (none_hit l X (reach_often (length C + size_of X) P l X (inner_literals P l.var C))) b.1 in
        closed-reducible P X C l K a.0 (has-IsIn l C b.0) (λ m. not-parts (has (negation l) C) c.0 (IsIn-has (negation l) C m)) lits_closed (none_hit-is l X K (subst (λ L. none_hit l X L ≡ true) same c.1))

    back : Reducible P X C l → reducible P X C l ≡ true
    back h = and_from (is_universal P l.var) (has l C && (not (has (negation l) C) && none_hit l X (reach_often (length C + size_of X) P l X (inner_literals P l.var C)))) h.universal_literal
        (and_from (has l C) (not (has (negation l) C) && none_hit l X (reach_often (length C + size_of X) P l X (inner_literals P l.var C))) (IsIn-has l C h.in_clause)
        (and_from (not (has (negation l) C)) (none_hit l X (reach_often (length C + size_of X) P l X (inner_literals P l.var C))) (not-both (has (negation l) C) (λ e. h.no_negation C Reached.first (has-IsIn (negation l) C e)))
        (subst (λ L. none_hit l X L ≡ true) (sym same) (is-none_hit l X K (λ E m t j. hit-not_reducible P X C l E t.1.0 (iterated-reaching (length C + size_of X) P X C l t.1.0 t.1.1) m t.0 t.1.2 j h)))))
