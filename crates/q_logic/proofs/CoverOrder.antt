-- The order of growths does not matter: growing never takes away a possible growth or end.
use Rattle.std.proofs.Common.{◌≡◌, ◌↔◌, true, [], ◌∷◌, ◌⊎◌, inl, inr, sym, subst}
use Rattle.q_logic.specs.Prelude.{Literal, negation, Clause, Matrix, Prefix, IsIn, outer, IsSubset}
use Rattle.q_logic.specs.Blocking.{Clashes}
use Rattle.q_logic.specs.Covering.{Hidden, Covered, InEach, Grows, Ends, Covers}
use Rattle.q_logic.proofs.CoverRun.{in_or_not, Open, some_or_all, each_of}

clashes-more : (P : Prefix) (l : Literal) (S T D : Clause) → IsSubset S T → Clashes P l S D → Clashes P l T D
clashes-more P l S T D w c = (c.0, c.1, w (negation c.0) c.2)

pub ends-more : (P : Prefix) (X : Matrix) (S T : Clause) → IsSubset S T → Ends P X S → Ends P X T
ends-more P X S T w (inl (k, a, b)) = inl (k, w k a, w (negation k) b)
ends-more P X S T w (inr (l, m, q, h)) = inr (l, w l m, q, λ D i n. clashes-more P l S T D w (h D i n))

-- A larger set has the growth already, or may grow by it, or has ended.
abbrev pub Keeps : Prefix → Matrix → Clause → Clause → Type 0
Keeps P X T U = IsSubset U T ⊎ (((V : Clause) × Grows P X T V × IsSubset U V) ⊎ Ends P X T)

hidden-more : (P : Prefix) (X : Matrix) (S T U : Clause) → IsSubset S T → Hidden X S U → Keeps P X T U
hidden-more P X S T U w h = go (in_or_not h.new T)
  where
    go : IsIn h.new T ⊎ (IsIn h.new T → ⊥) → Keeps P X T U
    go (inl m) = inl (λ k i. elim ((h.grown k).0 i) [ inl e ↦ subst (λ y. IsIn y T) (sym e) m | inr j ↦ w k j ])
    go (inr n) = inr (inl (
      h.new ∷ T,
      inl (record { new = h.new; by = h.by; there = h.there; negated = h.negated; others_in = λ j i d. w j (h.others_in j i d); is_new = n; grown = λ k. ((λ m. m), (λ m. m)) }),
      λ k i. elim ((h.grown k).0 i) [ inl e ↦ inl e | inr j ↦ inr (w k j) ],
    ))

covered-more : (P : Prefix) (X : Matrix) (S T U : Clause) → IsSubset S T → Covered P X S U → Keeps P X T U
covered-more P X S T U w h = elim (some_or_all P X h.on T) [ inl o ↦ opened o (extra o) | inr a ↦ inr (inr (inr (h.on, w h.on h.there, h.existential, a))) ]
  where
    -- what is in each outer clause for S is so for T
    more : (k : Literal) → InEach P X h.on S k → InEach P X h.on T k
    more k f D m n c = f D m n (λ d. c (clashes-more P h.on S T D w d))

    Grown : Clause → Type 0
    Grown V = (k : Literal) → IsIn k V ↔ (InEach P X h.on T k ⊎ IsIn k T)

    extra : Open P X h.on T → (V : Clause) × Grown V
    extra o = let r : (V : Clause) × ((k : Literal) → IsIn k V ↔ ((IsIn k (outer P (negation h.on) o.0) × InEach P X h.on T k) ⊎ IsIn k T)) = each_of P X h.on T (outer P (negation h.on) o.0) in
        (r.0, λ k. ((λ i. elim ((r.1 k).0 i) [ inl a ↦ inl a.1 | inr b ↦ inr b ]), λ i. elim i [ inl a ↦ (r.1 k).1 (inl (a o.0 o.1 o.2 o.3, a)) | inr b ↦ (r.1 k).1 (inr b) ]))

    -- some new literal, or none
    new_or_not : (V T2 : Clause) → ((k : Literal) × IsIn k V × (IsIn k T2 → ⊥)) ⊎ IsSubset V T2
    new_or_not [] T2 = inr (λ k m. elim m [ ])
    new_or_not (j ∷ V) T2 = elim (in_or_not j T2) [
      | inr n ↦ inl (j, inl Rattle.std.proofs.Common.refl, n)
      | inl m ↦ elim (new_or_not V T2) [ inl a ↦ inl (a.0, inr a.1, a.2) | inr s ↦ inr (λ k i. elim i [ inl e ↦ subst (λ y. IsIn y T2) (sym e) m | inr x ↦ s k x ]) ]
    ]

    inside : (V : Clause) → Grown V → IsSubset U V
    inside V g k i = elim ((h.grown k).0 i) [ inl a ↦ (g k).1 (inl (more k a)) | inr b ↦ (g k).1 (inr (w k b)) ]

    opened : Open P X h.on T → ((V : Clause) × Grown V) → Keeps P X T U
    opened o (V, g) = elim (new_or_not V T) [
      | inl n ↦ inr (inl (V, inr (record { on = h.on; existential = h.existential; there = w h.on h.there; some = o; new = (n.0, elim ((g n.0).0 n.1) [ inl a ↦ a | inr b ↦ absurd (n.2 b) ], n.2); grown = g }), inside V g))
      | inr s ↦ inl (λ k i. s k (inside V g k i))
    ]

pub grows-more : (P : Prefix) (X : Matrix) (S T U : Clause) → IsSubset S T → Grows P X S U → Keeps P X T U
grows-more P X S T U w (inl h) = hidden-more P X S T U w h
grows-more P X S T U w (inr h) = covered-more P X S T U w h

-- So a larger set is covered where a smaller one is.
pub covers-more : (P : Prefix) (X : Matrix) (S : Clause) → Covers P X S → (T : Clause) → IsSubset S T → Covers P X T
covers-more P X S (Covers.ended R e) T w = Covers.ended T (ends-more P X S T w e)
covers-more P X S (Covers.grown {T = U} R g c) T w = go (grows-more P X S T U w g) (covers-more P X U c)
  where
    go : Keeps P X T U → ((V : Clause) → IsSubset U V → Covers P X V) → Covers P X T
    go (inl s) ih = ih T s
    go (inr (inl (V, k, s))) ih = Covers.grown T k (ih V s)
    go (inr (inr e)) ih = Covers.ended T e

pub grows-larger : (P : Prefix) (X : Matrix) (S T : Clause) → Grows P X S T → IsSubset S T
grows-larger P X S T (inl h) k m = (h.grown k).1 (inr m)
grows-larger P X S T (inr h) k m = (h.grown k).1 (inr m)

pub any_order : (P : Prefix) (X : Matrix) (S T : Clause) → Grows P X S T → Covers P X S ↔ Covers P X T
any_order P X S T g = ((λ c. covers-more P X S c T (grows-larger P X S T g)), λ c. Covers.grown S g c)
