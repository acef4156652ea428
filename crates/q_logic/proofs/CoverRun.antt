-- A covered clause goes by a run: each growth adds the larger clause and deletes the smaller one.
use Rattle.q_logic.specs.declared.rule_bounds.Bounds.{Bounds}
use Rattle.std.proofs.Common.{◌≡◌, ◌↔◌, ℕ, Bool, true, false, List, [], ◌∷◌, ◌++◌, ◌⊎◌, inl, inr, arith, refl, sym, subst, Option, Some, ◌≤◌, ◌+◌, ◌-◌, ◌*◌, length}
use Rattle.q_logic.specs.Prelude.{Literal, negation, literal_eq, Clause, Matrix, Prefix, IsIn, is_bound, is_existential, Implied, keeps, outer, ExistsPivot, ProofStep, add, delete, FirstPivot, IsSubset, IsTautology, has, formula_of, Slots, live, others, cover, Fits, change, union, greatest, standard}
use Rattle.q_logic.specs.Blocking.{Clashes, AllClash}
use Rattle.q_logic.specs.Covering.{Hidden, Covered, InEach, Grows, Ends, Covers}
use Rattle.q_logic.proofs.JustifiedRuns.{SameClauses, Reaches}
use Rattle.q_logic.proofs.ClauseLemmas.{literal_eq-itself, IsIn-append_left, IsIn-outer, has-IsIn, IsIn-append_right}
use Rattle.q_logic.proofs.JustifiedRuns.{alike-refl, alike-sym, alike-swap, reaches-alike, IsIn-alike}
use Rattle.q_logic.proofs.ImpliedClauses.{implied-subsumed, implied-tautology, implied-hidden_new}
use Rattle.q_logic.proofs.ChangeRuns.{least, reaches-delete, step-first}
use Rattle.q_logic.proofs.JoinedClauses.{union-IsIn, IsIn-union}
use Rattle.q_logic.proofs.LiteralOrder.{Ordered, union-ordered, bounded-length}
use Rattle.q_logic.proofs.Heights.{rise, weight, one, FreshUpTo, Way, weight-slot}
use Rattle.q_logic.proofs.NumberedClauses.{slot-alike, IsIn-has_not}
use Rattle.q_logic.proofs.PlainRuns.{blocked-pivot}

pub in_or_not : (k : Literal) (S : Clause) → IsIn k S ⊎ (IsIn k S → ⊥)
in_or_not k S = go (has k S) refl
  where
    go : (b : Bool) → has k S ≡ b → IsIn k S ⊎ (IsIn k S → ⊥)
    go true q = inl (has-IsIn k S q)
    go false q = inr (IsIn-has_not k S q)

clash_in : (O S : Clause) → ((k : Literal) × IsIn k O × IsIn (negation k) S) ⊎ ((k : Literal) → IsIn k O → IsIn (negation k) S → ⊥)
clash_in [] S = inr (λ k m n. elim m [ ])
clash_in (j ∷ O) S = go (in_or_not (negation j) S) (clash_in O S)
  where
    go : IsIn (negation j) S ⊎ (IsIn (negation j) S → ⊥) → ((k : Literal) × IsIn k O × IsIn (negation k) S) ⊎ ((k : Literal) → IsIn k O → IsIn (negation k) S → ⊥)
        → ((k : Literal) × IsIn k (j ∷ O) × IsIn (negation k) S) ⊎ ((k : Literal) → IsIn k (j ∷ O) → IsIn (negation k) S → ⊥)
    go (inl m) r = inl (j, inl refl, m)
    go (inr n) (inl (k, a, b)) = inl (k, inr a, b)
    go (inr n) (inr f) = inr (λ k m i. elim m [ inl e ↦ n (subst (λ y. IsIn (negation y) S) e i) | inr a ↦ f k a i ])

pub clash_or_not : (P : Prefix) (l : Literal) (S D : Clause) → Clashes P l S D ⊎ (Clashes P l S D → ⊥)
clash_or_not P l S D = elim (clash_in (outer P (negation l) D) S) [ inl c ↦ inl c | inr f ↦ inr (λ c. f c.0 c.1 c.2) ]

-- Some clause with not l does not clash, or all do.
abbrev pub Open : Prefix → Matrix → Literal → Clause → Type 0
Open P X l S = (D : Clause) × IsIn D X × IsIn (negation l) D × (Clashes P l S D → ⊥)

pub some_or_all : (P : Prefix) (X : Matrix) (l : Literal) (S : Clause) → Open P X l S ⊎ AllClash P X l S
some_or_all P [] l S = inr (λ D m n. elim m [ ])
some_or_all P (E ∷ X) l S = go (some_or_all P X l S) (in_or_not (negation l) E) (clash_or_not P l S E)
  where
    go : Open P X l S ⊎ AllClash P X l S → IsIn (negation l) E ⊎ (IsIn (negation l) E → ⊥) → Clashes P l S E ⊎ (Clashes P l S E → ⊥) → Open P (E ∷ X) l S ⊎ AllClash P (E ∷ X) l S
    go (inl (D, m, n, c)) h c2 = inl (D, inr m, n, c)
    go (inr f) (inl m) (inr c) = inl (E, inl refl, m, c)
    go (inr f) (inl m) (inl c) = inr (λ D i n. elim i [ inl e ↦ subst (Clashes P l S) (sym e) c | inr j ↦ f D j n ])
    go (inr f) (inr m) c = inr (λ D i n. elim i [ inl e ↦ absurd (m (subst (IsIn (negation l)) e n)) | inr j ↦ f D j n ])

pub in_each_or_not : (P : Prefix) (X : Matrix) (l : Literal) (S : Clause) (k : Literal) → InEach P X l S k ⊎ (InEach P X l S k → ⊥)
in_each_or_not P [] l S k = inl (λ D m n c. elim m [ ])
in_each_or_not P (E ∷ X) l S k = go (in_each_or_not P X l S k) (in_or_not (negation l) E) (clash_or_not P l S E) (in_or_not k (outer P (negation l) E))
  where
    go : InEach P X l S k ⊎ (InEach P X l S k → ⊥) → IsIn (negation l) E ⊎ (IsIn (negation l) E → ⊥) → Clashes P l S E ⊎ (Clashes P l S E → ⊥) → IsIn k (outer P (negation l) E) ⊎ (IsIn k (outer P (negation l) E) → ⊥)
        → InEach P (E ∷ X) l S k ⊎ (InEach P (E ∷ X) l S k → ⊥)
    go (inr f) a b c = inr (λ h. f (λ D m. h D (inr m)))
    go (inl f) (inr a) b c = inl (λ D i n d. elim i [ inl e ↦ absurd (a (subst (IsIn (negation l)) e n)) | inr j ↦ f D j n d ])
    go (inl f) (inl a) (inl b) c = inl (λ D i n d. elim i [ inl e ↦ absurd (d (subst (Clashes P l S) (sym e) b)) | inr j ↦ f D j n d ])
    go (inl f) (inl a) (inr b) (inl c) = inl (λ D i n d. elim i [ inl e ↦ subst (λ y. IsIn k (outer P (negation l) y)) (sym e) c | inr j ↦ f D j n d ])
    go (inl f) (inl a) (inr b) (inr c) = inr (λ h. c (h E (inl refl) a b))

-- A list of what is in each and in O, beside S.
pub each_of : (P : Prefix) (X : Matrix) (l : Literal) (S O : Clause) → (T : Clause) × ((k : Literal) → IsIn k T ↔ ((IsIn k O × InEach P X l S k) ⊎ IsIn k S))
each_of P X l S [] = (S, λ k. ((λ m. inr m), λ m. elim m [ inl a ↦ elim a.0 [ ] | inr b ↦ b ]))
each_of P X l S (j ∷ O) = go (in_each_or_not P X l S j) (each_of P X l S O)
  where
    go : InEach P X l S j ⊎ (InEach P X l S j → ⊥) → ((T : Clause) × ((k : Literal) → IsIn k T ↔ ((IsIn k O × InEach P X l S k) ⊎ IsIn k S))) → (T : Clause) × ((k : Literal) → IsIn k T ↔ ((IsIn k (j ∷ O) × InEach P X l S k) ⊎ IsIn k S))
    go (inl h) (T, f) = (
      j ∷ T,
      λ k. (
        (λ m. elim m [ inl e ↦ inl (inl e, subst (InEach P X l S) (sym e) h) | inr n ↦ elim ((f k).0 n) [ inl a ↦ inl (inr a.0, a.1) | inr b ↦ inr b ] ]),
        λ m. elim m [ inl a ↦ elim a.0 [ inl e ↦ inl e | inr n ↦ inr ((f k).1 (inl (n, a.1))) ] | inr b ↦ inr ((f k).1 (inr b)) ],
      ),
    )
    go (inr h) (T, f) = (
      T,
      λ k. (
        (λ m. elim ((f k).0 m) [ inl a ↦ inl (inr a.0, a.1) | inr b ↦ inr b ]),
        λ m. elim m [ inl a ↦ elim a.0 [ inl e ↦ absurd (h (subst (InEach P X l S) e a.1)) | inr n ↦ (f k).1 (inl (n, a.1)) ] | inr b ↦ (f k).1 (inr b) ],
      ),
    )

-- Growing by a covered literal is possible where one is in each.
pub covered-possible : (P : Prefix) (X : Matrix) (l : Literal) (S : Clause) (k : Literal) → is_existential P l.var ≡ true → IsIn l S → Open P X l S → InEach P X l S k → (IsIn k S → ⊥) → (T : Clause) × Covered P X S T
covered-possible P X l S k q m o h n =
    let r : (T : Clause) × ((k : Literal) → IsIn k T ↔ ((IsIn k (outer P (negation l) o.0) × InEach P X l S k) ⊎ IsIn k S)) = each_of P X l S (outer P (negation l) o.0) in
    (r.0, record { on = l; existential = q; there = m; some = o; new = (k, h, n); grown = λ j. ((λ i. elim ((r.1 j).0 i) [ inl a ↦ inl a.1 | inr b ↦ inr b ]), λ i. elim i [ inl a ↦ (r.1 j).1 (inl (a o.0 o.1 o.2 o.3, a)) | inr b ↦ (r.1 j).1 (inr b) ]) })

-- A set from which nothing goes on holds each set that another order reaches, so no other order ends.
pub closed-covers_none : (P : Prefix) (X : Matrix) (T : Clause) → ((U : Clause) → Grows P X T U → ⊥) → (Ends P X T → ⊥) → (S : Clause) → IsSubset S T → Covers P X S → ⊥
closed-covers_none P X T no_growth no_end S w (Covers.ended R (inl (k, a, b))) = no_end (inl (k, w k a, w (negation k) b))
closed-covers_none P X T no_growth no_end S w (Covers.ended R (inr (l, m, q, h))) = no_end (inr (l, w l m, q, λ D i n. let c : Clashes P l S D = h D i n in (c.0, c.1, w (negation c.0) c.2)))
closed-covers_none P X T no_growth no_end S w (Covers.grown {T = U} R g c) = closed-covers_none P X T no_growth no_end U (inside g) c
  where
    hidden : (h : Hidden X S U) → IsIn h.new T
    hidden h = elim (in_or_not h.new T) [
      | inl m ↦ m
      | inr n ↦ absurd (no_growth (h.new ∷ T) (inl (record { new = h.new; by = h.by; there = h.there; negated = h.negated; others_in = λ j i d. w j (h.others_in j i d); is_new = n; grown = λ k. ((λ m. m), (λ m. m)) })))
    ]

    covered : (h : Covered P X S U) (k : Literal) → InEach P X h.on S k → IsIn k T
    covered h k e = elim (in_or_not k T) [ inl m ↦ m | inr n ↦ elim (some_or_all P X h.on T) [ inl o ↦ absurd (no o n) | inr a ↦ absurd (no_end (inr (h.on, w h.on h.there, h.existential, a))) ] ]
      where
        no : Open P X h.on T → (IsIn k T → ⊥) → ⊥
        no o n = let r : (V : Clause) × Covered P X T V = covered-possible P X h.on T k h.existential (w h.on h.there) o (λ D m i d. e D m i (λ c. d (c.0, c.1, w (negation c.0) c.2))) n in no_growth r.0 (inr r.1)

    inside : Grows P X S U → IsSubset U T
    inside (inl h) k m = elim ((h.grown k).0 m) [ inl e ↦ subst (λ y. IsIn y T) (sym e) (hidden h) | inr i ↦ w k i ]
    inside (inr h) k m = elim ((h.grown k).0 m) [ inl e ↦ covered h k e | inr i ↦ w k i ]

-- The larger clause comes, the smaller one goes.
hidden-implied : (X : Matrix) (S T : Clause) → Hidden X S T → Implied (T ∷ X) S
hidden-implied X S T h = implied-hidden_new (T ∷ X) h.by S h.new (inr h.there) h.negated h.others_in (implied-subsumed (T ∷ X) T (h.new ∷ S) (inl refl) (λ k m. (h.grown k).0 m))

covered-pivot : (P : Prefix) (X : Matrix) (S T : Clause) (h : Covered P X S T) → ExistsPivot P (T ∷ X) S h.on
covered-pivot P X S T h = record { existential_pivot = h.existential; in_clause = h.there; implied = go }
  where
    -- not the pivot's negation
    not_negated : InEach P X h.on S (negation h.on) → ⊥
    not_negated e = let z : keeps P (negation h.on) (negation h.on) ≡ true = (IsIn-outer P (negation h.on) h.some.0 (negation h.on) (e h.some.0 h.some.1 h.some.2 h.some.3)).1 in let y : literal_eq (negation h.on) (negation h.on) ≡ true = literal_eq-itself (negation h.on) in grind arith

    itself : (D : Clause) → D ≡ T → IsIn (negation h.on) D → IsIn (negation h.on) S
    itself D e n = elim ((h.grown (negation h.on)).0 (subst (IsIn (negation h.on)) e n)) [ inl a ↦ absurd (not_negated a) | inr b ↦ b ]

    taut : (O : Clause) → IsIn (negation h.on) S → IsTautology (S ++ O)
    taut O m = (h.on, IsIn-append_left h.on S O h.there, IsIn-append_left (negation h.on) S O m)

    clashing : (D : Clause) → Clashes P h.on S D → IsTautology (S ++ outer P (negation h.on) D)
    clashing D (k, a, b) = (k, IsIn-append_right k S (outer P (negation h.on) D) a, IsIn-append_left (negation k) S (outer P (negation h.on) D) b)

    go : (D : Clause) → IsIn D (T ∷ X) → IsIn (negation h.on) D → Implied (T ∷ X) (S ++ outer P (negation h.on) D)
    go D (inl e) n = implied-tautology (T ∷ X) (S ++ outer P (negation h.on) D) (taut (outer P (negation h.on) D) (itself D e n))
    go D (inr m) n = elim (clash_or_not P h.on S D) [
      | inl c ↦ implied-tautology (T ∷ X) (S ++ outer P (negation h.on) D) (clashing D c)
      | inr c ↦ implied-subsumed (T ∷ X) T (S ++ outer P (negation h.on) D) (inl refl) (λ k i. elim ((h.grown k).0 i) [ inl e ↦ IsIn-append_right k S (outer P (negation h.on) D) (e D m n c) | inr j ↦ IsIn-append_left k S (outer P (negation h.on) D) j ])
    ]

-- The same literals.
abbrev Same : Clause → Clause → Type 0
Same S T = (k : Literal) → IsIn k S ↔ IsIn k T

clashes-same : (P : Prefix) (l : Literal) (S T D : Clause) → Same S T → Clashes P l S D → Clashes P l T D
clashes-same P l S T D s c = (c.0, c.1, (s (negation c.0)).0 c.2)

ends-same : (P : Prefix) (X : Matrix) (S T : Clause) → Same S T → Ends P X S → Ends P X T
ends-same P X S T s (inl (k, a, b)) = inl (k, (s k).0 a, (s (negation k)).0 b)
ends-same P X S T s (inr (l, m, q, h)) = inr (l, (s l).0 m, q, λ D i n. clashes-same P l S T D s (h D i n))

hidden-same : (X : Matrix) (S T U V : Clause) → Same S T → Same U V → Hidden X S U → Hidden X T V
hidden-same X S T U V s u h = record {
  new = h.new;
  by = h.by;
  there = h.there;
  negated = h.negated;
  others_in = λ j i d. (s j).0 (h.others_in j i d);
  is_new = λ m. h.is_new ((s h.new).1 m);
  grown = λ k. ((λ m. elim ((h.grown k).0 ((u k).1 m)) [ inl e ↦ inl e | inr n ↦ inr ((s k).0 n) ]), λ m. elim m [ inl e ↦ (u k).0 ((h.grown k).1 (inl e)) | inr n ↦ (u k).0 ((h.grown k).1 (inr ((s k).1 n))) ]);
}

in_each-same : (P : Prefix) (X : Matrix) (l : Literal) (S T : Clause) (k : Literal) → Same S T → InEach P X l S k → InEach P X l T k
in_each-same P X l S T k s f D m n c = f D m n (λ d. c (clashes-same P l S T D s d))

turned : (S T : Clause) → Same S T → Same T S
turned S T s k = ((s k).1, (s k).0)

covered-same : (P : Prefix) (X : Matrix) (S T U V : Clause) → Same S T → Same U V → Covered P X S U → Covered P X T V
covered-same P X S T U V s u h = record {
  on = h.on;
  existential = h.existential;
  there = (s h.on).0 h.there;
  some = (h.some.0, h.some.1, h.some.2, λ c. h.some.3 (clashes-same P h.on T S h.some.0 (turned S T s) c));
  new = (h.new.0, in_each-same P X h.on S T h.new.0 s h.new.1, λ m. h.new.2 ((s h.new.0).1 m));
  grown = λ k. (
    (λ m. elim ((h.grown k).0 ((u k).1 m)) [ inl e ↦ inl (in_each-same P X h.on S T k s e) | inr n ↦ inr ((s k).0 n) ]),
    λ m. elim m [ inl e ↦ (u k).0 ((h.grown k).1 (inl (in_each-same P X h.on T S k (turned S T s) e))) | inr n ↦ (u k).0 ((h.grown k).1 (inr ((s k).1 n))) ],
  );
}

grows-same : (P : Prefix) (X : Matrix) (S T U V : Clause) → Same S T → Same U V → Grows P X S U → Grows P X T V
grows-same P X S T U V s u (inl h) = inl (hidden-same X S T U V s u h)
grows-same P X S T U V s u (inr h) = inr (covered-same P X S T U V s u h)

-- A clause in order with the same literals.
tidied : (T : Clause) → (V : Clause) × Ordered V × Same T V
tidied T = (union T [], union-ordered T [] tt, λ k. ((λ m. IsIn-union T [] k (inl m)), λ m. elim (union-IsIn T [] k m) [ inl a ↦ a | inr n ↦ elim n [ ] ]))

-- Weights of clauses that are in order and bound stay at most m.
pub record Weighs (P : Prefix) (m : ℕ) (w : Clause → ℕ) : Type 0 where
  pub most : (T : Clause) → Ordered T → ((k : Literal) → IsIn k T → is_bound P k.var ≡ true) → w T ≤ m

-- At no time are more than two clauses beside the others.
abbrev Light : Prefix → Clause → List ProofStep → Type 0
Light P S ss = (m : ℕ) (w : Clause → ℕ) → Weighs P m w → w S ≤ m → rise w ss + w S ≤ m + m

abbrev CoverWay : Prefix → Matrix → Clause → Type 0
CoverWay P X S = (ss : List ProofStep) × Reaches (formula_of P (S ∷ X)) ss (formula_of P X) × FreshUpTo standard.vars ss × Light P S ss

light-delete : (P : Prefix) (S : Clause) (p : Option Literal) → Light P S (delete p S ∷ [])
light-delete P S p m w h l = last (w S) m l
  where
    last : (s m : ℕ) → s ≤ m → 0 - s + s ≤ m + m
    last s m l = omega arith

light-turn : (P : Prefix) (S V : Clause) (p q : Option Literal) (rest : List ProofStep) → Ordered V → ((k : Literal) → IsIn k V → is_bound P k.var ≡ true) → Light P V rest → Light P S (add q V ∷ delete p S ∷ rest)
light-turn P S V p q rest o b f m w h l = turn (w V) (rise w rest) (w S) m (h.most V o b) l (f m w h (h.most V o b))
  where
    turn : (v r s m : ℕ) → v ≤ m → s ≤ m → r + v ≤ m + m → v + (r - s) + s ≤ m + m
    turn v r s m a l i = omega arith

covers-steps : (P : Prefix) (X : Matrix) (R : Clause) → ((D : Clause) → IsIn D X → (k : Literal) → IsIn k D → is_bound P k.var ≡ true) → Covers P X R → (S : Clause) → Same R S → ((k : Literal) → IsIn k S → is_bound P k.var ≡ true) → CoverWay P X S
covers-steps P X R closed (Covers.ended U e) S s w = go (ends-same P X R S s e)
  where
    go : Ends P X S → CoverWay P X S
    go (inl t) = (delete (least S) S ∷ [], reaches-delete P (least S) S X (S ∷ X) (alike-refl (S ∷ X)) (inl (implied-tautology X S t)), tt, light-delete P S (least S))
    go (inr (l, m, q, h)) = (delete (Some l) S ∷ [], reaches-delete P (Some l) S X (S ∷ X) (alike-refl (S ∷ X)) (inr (l, refl, blocked-pivot P X S l m q h)), tt, light-delete P S (Some l))
covers-steps P X R closed (Covers.grown {T = T} U g c) S s w = go (grows-same P X R S T V s v g) (covers-steps P X T closed c V v (bounded (grows-same P X R S T V s v g)))
  where
    V : Clause
    V = (tidied T).0

    v : Same T (tidied T).0
    v = (tidied T).2

    bounded : Grows P X S V → (k : Literal) → IsIn k V → is_bound P k.var ≡ true
    bounded (inl h) k m = elim ((h.grown k).0 m) [ inl e ↦ subst (λ y. is_bound P y.var ≡ true) (sym e) (closed h.by h.there (negation h.new) h.negated) | inr i ↦ w k i ]
    bounded (inr h) k m = elim ((h.grown k).0 m) [ inl e ↦ closed h.some.0 h.some.1 k (IsIn-outer P (negation h.on) h.some.0 k (e h.some.0 h.some.1 h.some.2 h.some.3)).0 | inr i ↦ w k i ]

    larger : (g : Grows P X S V) → IsSubset S V
    larger (inl h) k m = (h.grown k).1 (inr m)
    larger (inr h) k m = (h.grown k).1 (inr m)

    way : (g : Grows P X S V) (p : Option Literal) (rest : List ProofStep) → Implied (V ∷ X) S ⊎ FirstPivot P (V ∷ X) S p → Reaches (formula_of P (V ∷ X)) rest (formula_of P X) → Reaches (formula_of P (S ∷ X)) (add (least V) V ∷ delete p S ∷ rest) (formula_of P X)
    way g p rest h r = ((bounded g, inl (implied-subsumed (S ∷ X) S V (inl refl) (larger g))), reaches-alike P (S ∷ V ∷ X) (V ∷ S ∷ X) (delete p S ∷ rest) (formula_of P X) (alike-swap S V X) (step-first P p S (V ∷ X) rest (formula_of P X) h r))

    light : (g : Grows P X S V) (p : Option Literal) (rest : List ProofStep) → Light P V rest → Light P S (add (least V) V ∷ delete p S ∷ rest)
    light g p rest = light-turn P S V p (least V) rest (tidied T).1 (bounded g)

    go : Grows P X S V → CoverWay P X V → CoverWay P X S
    go (inl h) (rest, r, f, l) = (add (least V) V ∷ delete (least S) S ∷ rest, way (inl h) (least S) rest (inl (hidden-implied X S V h)) r, f, light (inl h) (least S) rest l)
    go (inr h) (rest, r, f, l) = (add (least V) V ∷ delete (Some h.on) S ∷ rest, way (inr h) (Some h.on) rest (inr (h.on, refl, covered-pivot P X S V h)) r, f, light (inr h) (Some h.on) rest l)

pub cover-run : (B : Bounds) (P : Prefix) (N : Slots) (c : ℕ) → ((D : Clause) → IsIn D (live N) → (k : Literal) → IsIn k D → is_bound P k.var ≡ true) → Fits B P N (cover c)
    → Way 1 (2 * (2 * greatest P + 2) + weight length (live N)) (formula_of P (live N)) (change P N (cover c))
cover-run B P N c closed (C, e, h) = go (covers-steps P (others c N) C (λ D m. closed D (IsIn-alike (C ∷ others c N) (live N) back D (inr m))) h C (λ k. ((λ m. m), (λ m. m))) (closed C (IsIn-alike (C ∷ others c N) (live N) back C (inl refl))))
  where
    back : SameClauses (C ∷ others c N) (live N)
    back = alike-sym (live N) (C ∷ others c N) (slot-alike N c C e)

    first : (r : ℕ) → r + 1 ≤ 1 + 1 → r ≤ 1
    first r i = omega arith

    second : (r c m x : ℕ) → r + c ≤ m + c + (m + c) → c ≤ x → r ≤ 2 * m + x
    second r c m x i j = omega arith

    most : (t m c : ℕ) → t ≤ m → t ≤ m + c
    most t m c i = omega arith

    last : (m c : ℕ) → c ≤ m + c
    last m c = omega arith

    go : CoverWay P (others c N) C → Way 1 (2 * (2 * greatest P + 2) + weight length (live N)) (formula_of P (live N)) (formula_of P (others c N))
    go (ss, r, f, l) = (
      ss,
      reaches-alike P (C ∷ others c N) (live N) ss (formula_of P (others c N)) back r,
      record {
        clauses = first (rise one ss) (l 1 one (record { most = λ T o b. omega arith }) (omega arith));
        lits = second (rise length ss) (length C) (2 * greatest P + 2) (weight length (live N))
            (l (2 * greatest P + 2 + length C) length (record { most = λ T o b. most (length T) (2 * greatest P + 2) (length C) (bounded-length P T o b) }) (last (2 * greatest P + 2) (length C)))
            (weight-slot length N c C e);
        variables = f;
      },
    )
