-- The plain program decides what is joined, where clauses are in literal order.
use Rattle.std.proofs.Common.{◌≡◌, ◌≢◌, ◌↔◌, ◌≤◌, ℕ, zero, suc, Bool, true, false, cond, [], ◌∷◌, ◌⊎◌, inl, inr, arith, refl, sym, ap, ◌∙◌, subst, length}
use Rattle.q_logic.specs.Prelude.{Literal, negation, Clause, Matrix, IsIn, IsSubset, has, size_of, IsBelow}
use Rattle.q_logic.specs.Merging.{Joined, Binary, pair_from, join_once, join_often, joined}
use Rattle.q_logic.proofs.ClauseLemmas.{IsIn-append_left, has-IsIn, IsIn-has, IsIn-append_right}
use Rattle.q_logic.proofs.JoinedClauses.{union-IsIn, IsIn-union}
use Rattle.q_logic.proofs.LiteralOrder.{Ordered, union-ordered}
use Rattle.q_logic.proofs.ClosureSearch.{joined-in, joined-further}
use Rattle.q_logic.proofs.ImpliedClauses.{negation-negation}
use Rattle.q_logic.proofs.ClosureRounds.{Growing, iterated, iterated-closed, lits, lits-length, before-self}

abbrev pub AllOrdered : Matrix → Type 0
AllOrdered X = (D : Clause) → IsIn D X → Ordered D

-- One of the two literals, where the negation of the other is in L.
one_from : (a b : Literal) (L : Clause) (k : Literal) → IsIn k (cond (has (negation a) L) (b ∷ []) []) → (k ≡ b) × IsIn (negation a) L
one_from a b L k m = go (has (negation a) L) refl m
  where
    go : (c : Bool) → has (negation a) L ≡ c → IsIn k (cond c (b ∷ []) []) → (k ≡ b) × IsIn (negation a) L
    go true q (inl e) = (e, has-IsIn (negation a) L q)
    go true q (inr n) = elim n [ ]
    go false q n = elim n [ ]

from_one : (a b : Literal) (L : Clause) → IsIn (negation a) L → IsIn b (cond (has (negation a) L) (b ∷ []) [])
from_one a b L m = let z : has (negation a) L ≡ true = IsIn-has (negation a) L m in rw z (inl refl)

differ : (a b : Literal) → Ordered (a ∷ b ∷ []) → a ≢ b
differ a b o e = before-self a (subst (λ y. IsBelow a y) (sym e) (o.0 b (inl refl)))

pair_from-sound : (X : Matrix) (D L : Clause) → IsIn D X → Ordered D → (k : Literal) → IsIn k (pair_from D L) → (x : Literal) × IsIn x L × Binary X x k
pair_from-sound X [] L m o k i = elim i [ ]
pair_from-sound X (a ∷ []) L m o k i = elim i [ ]
pair_from-sound X (a ∷ b ∷ []) L m o k i = elim (union-IsIn (cond (has (negation a) L) (b ∷ []) []) (cond (has (negation b) L) (a ∷ []) []) k i)
    [ inl y ↦ first (one_from a b L k y) | inr z ↦ second (one_from b a L k z) ]
  where
    first : (k ≡ b) × IsIn (negation a) L → (x : Literal) × IsIn x L × Binary X x k
    first (e, n) = (negation a, n, record { clause = a ∷ b ∷ []; there = m; two = λ f. differ a b o (sym (negation-negation a) ∙ (f ∙ e)); first = inl (negation-negation a); second = inr (inl e); only = λ j p. elim p [ inl f ↦ inl (f ∙ sym (negation-negation a)) | inr q ↦ elim q [ inl f ↦ inr (f ∙ sym e) | inr r ↦ elim r [ ] ] ] })

    second : (k ≡ a) × IsIn (negation b) L → (x : Literal) × IsIn x L × Binary X x k
    second (e, n) = (negation b, n, record { clause = a ∷ b ∷ []; there = m; two = λ f. differ a b o (sym e ∙ (sym f ∙ negation-negation b)); first = inr (inl (negation-negation b)); second = inl e; only = λ j p. elim p [ inl f ↦ inr (f ∙ sym e) | inr q ↦ elim q [ inl f ↦ inl (f ∙ sym (negation-negation b)) | inr r ↦ elim r [ ] ] ] })
pair_from-sound X (a ∷ b ∷ c ∷ D) L m o k i = elim i [ ]

join_once-sound : (X Y : Matrix) (L : Clause) → ((D : Clause) → IsIn D Y → IsIn D X) → AllOrdered X → (k : Literal) → IsIn k (join_once Y L) → IsIn k L ⊎ ((x : Literal) × IsIn x L × Binary X x k)
join_once-sound X [] L f o k m = inl m
join_once-sound X (D ∷ Y) L f o k m = elim (union-IsIn (pair_from D L) (join_once Y L) k m)
    [ inl a ↦ inr (pair_from-sound X D L (f D (inl refl)) (o D (f D (inl refl))) k a) | inr b ↦ join_once-sound X Y L (λ E n. f E (inr n)) o k b ]

join_once-keeps : (Y : Matrix) (L : Clause) → IsSubset L (join_once Y L)
join_once-keeps [] L k m = m
join_once-keeps (D ∷ Y) L k m = IsIn-union (pair_from D L) (join_once Y L) k (inr (join_once-keeps Y L k m))

-- A clause that is set-equal to two literals, in order, is one of the two lists.
pair_from-whole : (X : Matrix) (L : Clause) (x y : Literal) → IsIn x L → (h : Binary X x y) → Ordered h.clause → IsIn y (pair_from h.clause L)
pair_from-whole X L x y m h o = go h.clause o h.first h.second h.only
  where
    go : (D : Clause) → Ordered D → IsIn (negation x) D → IsIn y D → ((k : Literal) → IsIn k D → (k ≡ negation x) ⊎ (k ≡ y)) → IsIn y (pair_from D L)
    go [] o a b only = elim a [ ]
    go (i ∷ []) o (inl e) (inl f) only = absurd (h.two (e ∙ sym f))
    go (i ∷ []) o (inl e) (inr n) only = elim n [ ]
    go (i ∷ []) o (inr n) b only = elim n [ ]
    go (i ∷ j ∷ []) o (inl e) (inl f) only = absurd (h.two (e ∙ sym f))
    go (i ∷ j ∷ []) o (inl e) (inr (inl f)) only = IsIn-union (cond (has (negation i) L) (j ∷ []) []) (cond (has (negation j) L) (i ∷ []) []) y
        (inl (subst (λ z. IsIn z (cond (has (negation i) L) (j ∷ []) [])) (sym f) (from_one i j L (subst (λ z. IsIn z L) (sym (negation-negation x) ∙ ap negation e) m))))
    go (i ∷ j ∷ []) o (inl e) (inr (inr n)) only = elim n [ ]
    go (i ∷ j ∷ []) o (inr (inl e)) (inl f) only = IsIn-union (cond (has (negation i) L) (j ∷ []) []) (cond (has (negation j) L) (i ∷ []) []) y
        (inr (subst (λ z. IsIn z (cond (has (negation j) L) (i ∷ []) [])) (sym f) (from_one j i L (subst (λ z. IsIn z L) (sym (negation-negation x) ∙ ap negation e) m))))
    go (i ∷ j ∷ []) o (inr (inl e)) (inr (inl f)) only = absurd (h.two (e ∙ sym f))
    go (i ∷ j ∷ []) o (inr (inl e)) (inr (inr n)) only = elim n [ ]
    go (i ∷ j ∷ []) o (inr (inr n)) b only = elim n [ ]
    go (i ∷ j ∷ k ∷ D) o a b only = absurd (three (only i (inl refl)) (only j (inr (inl refl))) (only k (inr (inr (inl refl)))))
      where
        ij : i ≢ j
        ij e = before-self i (subst (λ z. IsBelow i z) (sym e) (o.0 j (inl refl)))

        ik : i ≢ k
        ik e = before-self i (subst (λ z. IsBelow i z) (sym e) (o.0 k (inr (inl refl))))

        jk : j ≢ k
        jk e = before-self j (subst (λ z. IsBelow j z) (sym e) (o.1.0 k (inl refl)))

        three : (i ≡ negation x) ⊎ (i ≡ y) → (j ≡ negation x) ⊎ (j ≡ y) → (k ≡ negation x) ⊎ (k ≡ y) → ⊥
        three (inl e) (inl f) g = ij (e ∙ sym f)
        three (inr e) (inr f) g = ij (e ∙ sym f)
        three (inl e) (inr f) (inl g) = ik (e ∙ sym g)
        three (inl e) (inr f) (inr g) = jk (f ∙ sym g)
        three (inr e) (inl f) (inl g) = jk (f ∙ sym g)
        three (inr e) (inl f) (inr g) = ik (e ∙ sym g)

pair_from-monotone : (D S T : Clause) → IsSubset S T → IsSubset (pair_from D S) (pair_from D T)
pair_from-monotone [] S T w k m = m
pair_from-monotone (a ∷ []) S T w k m = m
pair_from-monotone (a ∷ b ∷ []) S T w k m = IsIn-union (cond (has (negation a) T) (b ∷ []) []) (cond (has (negation b) T) (a ∷ []) []) k
    (elim (union-IsIn (cond (has (negation a) S) (b ∷ []) []) (cond (has (negation b) S) (a ∷ []) []) k m) [
      | inl y ↦ inl (let r : (k ≡ b) × IsIn (negation a) S = one_from a b S k y in subst (λ z. IsIn z (cond (has (negation a) T) (b ∷ []) [])) (sym r.0) (from_one a b T (w (negation a) r.1)))
      | inr y ↦ inr (let r : (k ≡ a) × IsIn (negation b) S = one_from b a S k y in subst (λ z. IsIn z (cond (has (negation b) T) (a ∷ []) [])) (sym r.0) (from_one b a T (w (negation b) r.1)))
    ])
pair_from-monotone (a ∷ b ∷ c ∷ D) S T w k m = m

pair_from-lits : (D L : Clause) → IsSubset (pair_from D L) D
pair_from-lits [] L k m = m
pair_from-lits (a ∷ []) L k m = elim m [ ]
pair_from-lits (a ∷ b ∷ []) L k m = elim (union-IsIn (cond (has (negation a) L) (b ∷ []) []) (cond (has (negation b) L) (a ∷ []) []) k m) [ inl y ↦ inr (inl (one_from a b L k y).0) | inr y ↦ inl (one_from b a L k y).0 ]
pair_from-lits (a ∷ b ∷ c ∷ D) L k m = elim m [ ]

join_once-monotone : (X : Matrix) (S T : Clause) → IsSubset S T → IsSubset (join_once X S) (join_once X T)
join_once-monotone [] S T w k m = w k m
join_once-monotone (D ∷ X) S T w k m = IsIn-union (pair_from D T) (join_once X T) k (elim (union-IsIn (pair_from D S) (join_once X S) k m) [ inl y ↦ inl (pair_from-monotone D S T w k y) | inr z ↦ inr (join_once-monotone X S T w k z) ])

join_once-ordered : (X : Matrix) (S : Clause) → Ordered S → Ordered (join_once X S)
join_once-ordered [] S o = o
join_once-ordered (D ∷ X) S o = union-ordered (pair_from D S) (join_once X S) (join_once-ordered X S o)

join_once-inside : (p : Literal) (Z X : Matrix) (S : Clause) → ((k : Literal) → IsIn k (lits X) → IsIn k (lits Z)) → IsSubset S (p ∷ lits Z) → IsSubset (join_once X S) (p ∷ lits Z)
join_once-inside p Z [] S f w k m = w k m
join_once-inside p Z (D ∷ X) S f w k m = elim (union-IsIn (pair_from D S) (join_once X S) k m)
    [ inl y ↦ inr (f k (IsIn-append_left k D (lits X) (pair_from-lits D S k y))) | inr z ↦ join_once-inside p Z X S (λ j n. f j (IsIn-append_right j D (lits X) n)) w k z ]

join-growing : (X : Matrix) (p : Literal) → Growing (join_once X) (p ∷ lits X)
join-growing X p = record { inflates = join_once-keeps X; monotone = join_once-monotone X; ordered = join_once-ordered X; inside = λ S w. join_once-inside p X X S (λ k m. m) w }

join_often-iterated : (n : ℕ) (X : Matrix) (L : Clause) → join_often n X L ≡ iterated (join_once X) n L
join_often-iterated zero X L = refl
join_often-iterated (suc n) X L = ap (join_once X) (join_often-iterated n X L)

join_once-whole : (X Y : Matrix) (L : Clause) (x y : Literal) → IsIn x L → (h : Binary X x y) → Ordered h.clause → IsIn h.clause Y → IsIn y (join_once Y L)
join_once-whole X [] L x y m h o i = elim i [ ]
join_once-whole X (D ∷ Y) L x y m h o (inl e) = IsIn-union (pair_from D L) (join_once Y L) y (inl (subst (λ C. IsIn y (pair_from C L)) e (pair_from-whole X L x y m h o)))
join_once-whole X (D ∷ Y) L x y m h o (inr n) = IsIn-union (pair_from D L) (join_once Y L) y (inr (join_once-whole X Y L x y m h o n))

iterated-joined : (n : ℕ) (X : Matrix) (p : Literal) → AllOrdered X → (k : Literal) → IsIn k (iterated (join_once X) n (p ∷ [])) → Joined X k p
iterated-joined zero X p o k (inl e) = subst (λ z. Joined X z p) (sym e) Joined.here
iterated-joined zero X p o k (inr m) = elim m [ ]
iterated-joined (suc n) X p o k m = elim (join_once-sound X X (iterated (join_once X) n (p ∷ [])) (λ D i. i) o k m)
    [ inl a ↦ iterated-joined n X p o k a | inr r ↦ joined-further X r.0 k p (iterated-joined n X p o r.0 r.1) r.2 ]

pub decided-joined : (X : Matrix) (p q : Literal) → AllOrdered X → (joined X p q ≡ true) ↔ Joined X q p
decided-joined X p q o = (there, back)
  where
    S : Clause
    S = iterated (join_once X) (suc (size_of X)) (p ∷ [])

    same : join_often (suc (size_of X)) X (p ∷ []) ≡ iterated (join_once X) (suc (size_of X)) (p ∷ [])
    same = join_often-iterated (suc (size_of X)) X (p ∷ [])

    there : joined X p q ≡ true → Joined X q p
    there h = iterated-joined (suc (size_of X)) X p o q (subst (IsIn q) same (has-IsIn q (join_often (suc (size_of X)) X (p ∷ [])) h))

    start : IsSubset (p ∷ []) (p ∷ lits X)
    start k (inl e) = inl e
    start k (inr n) = elim n [ ]

    short : length (p ∷ lits X) ≤ suc (size_of X)
    short = let l : length (lits X) ≤ size_of X = lits-length X in grind arith

    closed : IsSubset (join_once X (iterated (join_once X) (suc (size_of X)) (p ∷ []))) (iterated (join_once X) (suc (size_of X)) (p ∷ []))
    closed = iterated-closed (join_once X) (p ∷ lits X) (join-growing X p) (suc (size_of X)) (p ∷ []) ((λ j m. elim m [ ]), tt) start short

    first : (n : ℕ) → IsIn p (iterated (join_once X) n (p ∷ []))
    first zero = inl refl
    first (suc n) = join_once-keeps X (iterated (join_once X) n (p ∷ [])) p (first n)

    back : Joined X q p → joined X p q ≡ true
    back j = IsIn-has q (join_often (suc (size_of X)) X (p ∷ [])) (subst (IsIn q) (sym same)
        (joined-in X q p S (λ x y m h. closed y (join_once-whole X X S x y m h (o h.clause h.there) h.there)) (first (suc (size_of X))) j))
