-- Propagation entails.
use Rattle.std.proofs.Common.{◌≡◌, Bool, true, false, not, List, [], ◌∷◌, ◌⊎◌, inl, inr, arith, refl, sym, ap, ◌∙◌, subst}
use Rattle.q_logic.specs.Prelude.{Literal, negation, literal_eq, Clause, Matrix, IsIn}
use Rattle.q_logic.specs.Truth.{Assignment, LiteralTrue, ClauseTrue, MatrixTrue, signed}
use Rattle.q_logic.specs.Propagation.{Chain, begin, more, Conflicts, negations, Implied, IsSaturated}
use Rattle.q_logic.proofs.ClauseLemmas.{literal_eq-sound, literal_eq-itself}

pub Holds-negation : (A : Assignment) (k : Literal) → LiteralTrue A k → LiteralTrue A (negation k) → ⊥
Holds-negation A k h n = go k.negative (A k.var) h n
  where
    go : (s b : Bool) → signed s b ≡ true → signed (not s) b ≡ true → ⊥
    go true true h n = grind arith
    go true false h n = grind arith
    go false true h n = grind arith
    go false false h n = grind arith

-- A clause is true, or the negation of each of its literals is.
pub true_or_not : (A : Assignment) (S : Clause) → ClauseTrue A S ⊎ ((k : Literal) → IsIn k (negations S) →
    LiteralTrue A k)
true_or_not A [] = inr (λ k m. elim m [ ])
true_or_not A (k ∷ S) = go (true_or_not A S) (signed k.negative (A k.var)) refl
  where
    opposite : (s b : Bool) → signed s b ≡ false → signed (not s) b ≡ true
    opposite true true h = refl
    opposite true false h = grind arith
    opposite false true h = grind arith
    opposite false false h = refl

    go : ClauseTrue A S ⊎ ((k : Literal) → IsIn k (negations S) → LiteralTrue A k) → (b : Bool) →
        signed k.negative (A k.var) ≡ b → ClauseTrue A (k ∷ S) ⊎ ((j : Literal) →
        IsIn j (negations (k ∷ S)) → LiteralTrue A j)
    go (inl t) b e = inl (t.0, inr t.1, t.2)
    go (inr n) true e = inl (k, inl refl, e)
    go (inr n) false e =
        inr (λ j m. elim m [
          | inl s ↦ subst (LiteralTrue A) (sym s) (opposite k.negative (A k.var) e)
          | inr r ↦ n j r
        ])

chain_true : (A : Assignment) (X : Matrix) (S K : List Literal) → MatrixTrue A X →
    ((k : Literal) → IsIn k S → LiteralTrue A k) → Chain X S K → (k : Literal) → IsIn k K → LiteralTrue A k
chain_true A X S K t s begin k m = s k m
chain_true A X S K t s (more {K = L} h D inX inD rest ch) k (inr m) = chain_true A X S L t s ch k m
chain_true A X S K t s (more {K = L} h D inX inD rest ch) k (inl e) =
    subst (LiteralTrue A) (sym e) (go (t D inX) (chain_true A X S L t s ch))
  where
    go : ClauseTrue A D → ((k : Literal) → IsIn k L → LiteralTrue A k) → LiteralTrue A h
    go w all = here (literal_eq w.0 h) refl
      where
        here : (b : Bool) → literal_eq w.0 h ≡ b → LiteralTrue A h
        here true q = subst (LiteralTrue A) (literal_eq-sound w.0 h q) w.2
        here false q =
            absurd (Holds-negation A w.0 w.2 (all (negation w.0)
            (rest w.0 w.1 (λ p. let z : literal_eq w.0 h ≡ true = ap (λ x. literal_eq x h) p ∙
            literal_eq-itself h in grind arith))))

pub implied-true : (A : Assignment) (X : Matrix) (S : Clause) → Implied X S → MatrixTrue A X →
    ClauseTrue A S
implied-true A X S (K, ch, conflict) t =
    elim (true_or_not A S) [
      | inl w ↦ w
      | inr n ↦ absurd (go conflict
          (chain_true A X (negations S) K t n ch))
    ]
  where
    go : Conflicts X K → ((k : Literal) → IsIn k K → LiteralTrue A k) → ⊥
    go (inl (k, a, b)) all = Holds-negation A k (all k a) (all (negation k) b)
    go (inr (D, inX, falsified)) all =
        let w : ClauseTrue A D = t D inX in Holds-negation A w.0 w.2
        (all (negation w.0) (falsified w.0 w.1))

-- A saturated list holds each chain, so it conflicts where some chain does.
saturated-chain : (X : Matrix) (S K L : List Literal) → IsSaturated X S K → Chain X S L → (k : Literal) →
    IsIn k L → IsIn k K
saturated-chain X S K L s begin k m = s.has_start k m
saturated-chain X S K L s (more {K = M} h D inX inD rest ch) k (inr m) = saturated-chain X S K M s ch k m
saturated-chain X S K L s (more {K = M} h D inX inD rest ch) k (inl e) =
    subst (λ y. IsIn y K) (sym e) (s.closed D h inX inD
    (λ j m n. saturated-chain X S K M s ch (negation j) (rest j m n)))

pub saturated-conflicts : (X : Matrix) (S : Clause) (K : List Literal) → IsSaturated X (negations S) K →
    Implied X S → Conflicts X K
saturated-conflicts X S K s (L, ch, inl (k, a, b)) =
    inl (
      k,
      saturated-chain X (negations S) K L s ch k a,
      saturated-chain X (negations S) K L s ch (negation k) b,
    )
saturated-conflicts X S K s (L, ch, inr (D, m, f)) =
    inr (D, m, λ j i. saturated-chain X (negations S) K L s ch (negation j) (f j i))

-- Only which literals and clauses there are counts.
chain-same : (X Y : Matrix) (S T K : List Literal) → ((D : Clause) → IsIn D X → IsIn D Y) →
    ((k : Literal) → IsIn k S → IsIn k T) → Chain X S K →
    (L : List Literal) × Chain Y T L × ((k : Literal) → IsIn k K → IsIn k L)
chain-same X Y S T K x s begin = (T, begin, s)
chain-same X Y S T K x s (more {K = M} h D inX inD rest ch) =
    let r : (L : List Literal) × Chain Y T L × ((k : Literal) → IsIn k M → IsIn k L) =
    chain-same X Y S T M x s ch in (
      h ∷ r.0,
      more h D (x D inX) inD (λ j m n. r.2 (negation j) (rest j m n)) r.1,
      λ k m. elim m [ inl e ↦ inl e | inr i ↦ inr (r.2 k i) ],
    )

pub IsIn-negations : (S T : Clause) → ((k : Literal) → IsIn k S → IsIn k T) → (k : Literal) →
    IsIn k (negations S) → IsIn k (negations T)
IsIn-negations [] T h k m = elim m [ ]
IsIn-negations (j ∷ S) T h k (inl e) = subst (λ y. IsIn y (negations T)) (sym e) (there T (h j (inl refl)))
  where
    there : (U : Clause) → IsIn j U → IsIn (negation j) (negations U)
    there [] m = elim m [ ]
    there (i ∷ U) (inl e) = inl (ap negation e)
    there (i ∷ U) (inr m) = inr (there U m)
IsIn-negations (j ∷ S) T h k (inr m) = IsIn-negations S T (λ i n. h i (inr n)) k m

pub implied-same : (X Y : Matrix) (S T : Clause) → ((D : Clause) → IsIn D X → IsIn D Y) →
    ((k : Literal) → IsIn k S → IsIn k T) → Implied X S → Implied Y T
implied-same X Y S T x s (K, ch, conflict) =
    let r : (L : List Literal) × Chain Y (negations T) L × ((k : Literal) → IsIn k K → IsIn k L) =
    chain-same X Y (negations S) (negations T) K x (IsIn-negations S T s) ch in
    (r.0, r.1, go r.0 r.2 conflict)
  where
    go : (L : List Literal) → ((k : Literal) → IsIn k K → IsIn k L) → Conflicts X K → Conflicts Y L
    go L f (inl (k, a, b)) = inl (k, f k a, f (negation k) b)
    go L f (inr (D, m, n)) = inr (D, x D m, λ j i. f (negation j) (n j i))
