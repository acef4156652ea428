-- Eliminating an existential is a run: the resolvents come, then the clauses of the variable go by pivot.
use Rattle.std.proofs.Common.{◌≡◌, ◌≢◌, ℕ, ◌+◌, Bool, true, false, [], ◌∷◌, ◌++◌, ◌⊎◌, inl, inr, arith, refl, sym, ◌∙◌, subst, Some, length}
use Rattle.q_logic.specs.Prelude.{positive, Literal, negation, literal_eq, Clause, Matrix, Prefix, IsIn, is_bound, is_existential, outer_or_same, Implied, outer, ExistsPivot, without, copies, IsTautology, with_literal, without_literal, formula_of, Slots, live, eliminate, AllOuter, Eliminable, resolvent, resolve_one, resolve_all, resolvents, clauses_not_of, Fits, change}
use Rattle.q_logic.specs.declared.rule_bounds.Bounds.{Bounds}
use Rattle.q_logic.proofs.Heights.{weight, one, Way, modest-append, modest-adds, modest-deletes}
use Rattle.q_logic.proofs.JustifiedRuns.{SameClauses, Reaches}
use Rattle.q_logic.proofs.ClauseLemmas.{literal_eq-sound, literal_eq-itself, IsIn-append_left, IsIn-append, IsIn-append_right}
use Rattle.q_logic.proofs.UniversalPivot.{IsIn-without, without-IsIn}
use Rattle.q_logic.proofs.JustifiedRuns.{alike-sym, copies-append, reaches-alike, reaches-append}
use Rattle.q_logic.proofs.ImpliedClauses.{implied-subsumed, implied-tautology, implied-hidden, same_or_not}
use Rattle.q_logic.proofs.ChangeRuns.{deletes, adds, least, reaches-deletes, reaches-adds}
use Rattle.q_logic.proofs.NumberedClauses.{with-alike, IsIn-with, IsIn-without_literal, IsIn-in_with, without_literal-swap}
use Rattle.q_logic.proofs.JoinedClauses.{union-IsIn, IsIn-union, IsIn-outer_in, without-other, IsIn-put_unless, put_unless-IsIn, put_unless-more}
use Rattle.q_logic.proofs.PlainRuns.{pure-pivot}

abbrev Resolved : Literal → Matrix → Matrix → Clause → Type 0
Resolved l X Y U = (C : Clause) × (D : Clause) × IsIn C X × IsIn D Y × (U ≡ resolvent l C D)

resolve_one-IsIn : (l : Literal) (C : Clause) (Y : Matrix) (U : Clause) → IsIn U (resolve_one l C Y) → (D : Clause) × IsIn D Y × (U ≡ resolvent l C D)
resolve_one-IsIn l C [] U m = elim m [ ]
resolve_one-IsIn l C (D ∷ Y) U m = elim (IsIn-put_unless (resolvent l C D) (resolve_one l C Y) U m)
    [ inl e ↦ (D, inl refl, e) | inr n ↦ let r : (E : Clause) × IsIn E Y × (U ≡ resolvent l C E) = resolve_one-IsIn l C Y U n in (r.0, inr r.1, r.2) ]

pub resolve_all-IsIn : (l : Literal) (X Y : Matrix) (U : Clause) → IsIn U (resolve_all l X Y) → Resolved l X Y U
resolve_all-IsIn l [] Y U m = elim m [ ]
resolve_all-IsIn l (C ∷ X) Y U m = elim (IsIn-append U (resolve_one l C Y) (resolve_all l X Y) m) [
  | inl a ↦ let r : (D : Clause) × IsIn D Y × (U ≡ resolvent l C D) = resolve_one-IsIn l C Y U a in (C, r.0, inl refl, r.1, r.2)
  | inr b ↦ let r : Resolved l X Y U = resolve_all-IsIn l X Y U b in (r.0, r.1, inr r.2, r.3, r.4)
]

resolve_one-in : (l : Literal) (C : Clause) (Y : Matrix) (D : Clause) → IsIn D Y → IsTautology (resolvent l C D) ⊎ IsIn (resolvent l C D) (resolve_one l C Y)
resolve_one-in l C [] D m = elim m [ ]
resolve_one-in l C (E ∷ Y) D (inl e) = subst (λ y. IsTautology (resolvent l C y) ⊎ IsIn (resolvent l C y) (resolve_one l C (E ∷ Y))) (sym e) (put_unless-IsIn (resolvent l C E) (resolve_one l C Y))
resolve_one-in l C (E ∷ Y) D (inr m) = elim (resolve_one-in l C Y D m) [ inl t ↦ inl t | inr n ↦ inr (put_unless-more (resolvent l C E) (resolve_one l C Y) (resolvent l C D) n) ]

pub resolve_all-in : (l : Literal) (X Y : Matrix) (C D : Clause) → IsIn C X → IsIn D Y → IsTautology (resolvent l C D) ⊎ IsIn (resolvent l C D) (resolve_all l X Y)
resolve_all-in l [] Y C D m n = elim m [ ]
resolve_all-in l (E ∷ X) Y C D (inl e) n = subst (λ y. IsTautology (resolvent l y D) ⊎ IsIn (resolvent l y D) (resolve_all l (E ∷ X) Y)) (sym e)
    (elim (resolve_one-in l E Y D n) [ inl t ↦ inl t | inr i ↦ inr (IsIn-append_left (resolvent l E D) (resolve_one l E Y) (resolve_all l X Y) i) ])
resolve_all-in l (E ∷ X) Y C D (inr m) n = elim (resolve_all-in l X Y C D m n) [ inl t ↦ inl t | inr i ↦ inr (IsIn-append_right (resolvent l C D) (resolve_one l E Y) (resolve_all l X Y) i) ]

-- A resolvent is implied.
pub resolvent-implied : (Z : Matrix) (l : Literal) (C D : Clause) → IsIn C Z → IsIn D Z → IsIn (negation l) D → Implied Z (resolvent l C D)
resolvent-implied Z l C D inC inD n = implied-hidden Z D U (negation l) inD n
    (λ j m d. IsIn-union (without l C) (without (negation l) D) j (inr (IsIn-without (negation l) D j m (other j (negation l) d (literal_eq j (negation l)) refl))))
    (implied-subsumed Z C (negation (negation l) ∷ U) inC (λ k m. go k m (same_or_not k l)))
  where
    U : Clause
    U = resolvent l C D

    other : (j k : Literal) → j ≢ k → (b : Bool) → literal_eq j k ≡ b → literal_eq j k ≡ false
    other j k d true q = absurd (d (literal_eq-sound j k q))
    other j k d false q = q

    double : negation (negation l) ≡ l
    double = Rattle.q_logic.proofs.ImpliedClauses.negation-negation l

    go : (k : Literal) → IsIn k C → (k ≡ l) ⊎ (k ≢ l) → (k ≡ negation (negation l)) ⊎ IsIn k U
    go k m (inl e) = inl (e ∙ sym double)
    go k m (inr d) = inr (IsIn-union (without l C) (without (negation l) D) k (inl (IsIn-without l C k m (other k l d (literal_eq k l) refl))))

-- What the deletions need of the resolvents V, told by the pivot m.
pub record Resolves (X V : Matrix) (m : Literal) : Type 0 where
  pub resolvent_of : (C D : Clause) → IsIn C X → IsIn m C → IsIn D X → IsIn (negation m) D
      → (U : Clause) × (IsTautology U ⊎ IsIn U V) × ((k : Literal) → IsIn k U → IsIn k C ⊎ (IsIn k D × (literal_eq k (negation m) ≡ false)))
  pub free : (D : Clause) → IsIn D V → IsIn (negation m) D → ⊥

-- The clauses on the pivot m go first, where the other side is outer.
pub eliminated-pivot : (P : Prefix) (X V Z : Matrix) (C : Clause) (m : Literal) → is_existential P m.var ≡ true → AllOuter P (negation m) X → Resolves X V m → IsIn C X → IsIn m C → ((D : Clause) → IsIn D V → IsIn D Z) → ((D : Clause) → IsIn D Z → IsIn D X ⊎ IsIn D V) → ExistsPivot P Z C m
eliminated-pivot P X V Z C m q outer_side r inC onC f g = record { existential_pivot = q; in_clause = onC; implied = go }
  where
    go : (D : Clause) → IsIn D Z → IsIn (negation m) D → Implied Z (C ++ outer P (negation m) D)
    go D i n = elim (g D i) [ inl a ↦ by (r.resolvent_of C D inC onC a n) a | inr b ↦ absurd (r.free D b n) ]
      where
        by : ((U : Clause) × (IsTautology U ⊎ IsIn U V) × ((k : Literal) → IsIn k U → IsIn k C ⊎ (IsIn k D × (literal_eq k (negation m) ≡ false)))) → IsIn D X → Implied Z (C ++ outer P (negation m) D)
        by (U, t, w) a = elim t [
          | inl y ↦ implied-tautology Z (C ++ outer P (negation m) D) (y.0, inside y.0 y.1, inside (negation y.0) y.2)
          | inr v ↦ implied-subsumed Z U (C ++ outer P (negation m) D) (f U v) inside
        ]
          where
            inside : (k : Literal) → IsIn k U → IsIn k (C ++ outer P (negation m) D)
            inside k i = elim (w k i) [
              | inl c ↦ IsIn-append_left k C (outer P (negation m) D) c
              | inr d ↦ IsIn-append_right k C (outer P (negation m) D) (IsIn-outer_in P (negation m) D k d.0 (let o : outer_or_same P k.var m.var ≡ true = outer_side D a n k d.0 in let e : literal_eq k (negation m) ≡ false = d.1 in grind arith))
            ]

-- The clauses A on m go by m, then those B on the other literal by it; the rest R and V stay.
eliminated : (P : Prefix) (X V A B R : Matrix) (m : Literal) → is_existential P m.var ≡ true → AllOuter P (negation m) X → Resolves X V m
    → ((D : Clause) → IsIn D A → IsIn D X × IsIn m D)
    → ((D : Clause) → IsIn D B → IsIn D X × IsIn (negation m) D × (IsIn (negation (negation m)) D → ⊥))
    → ((D : Clause) → IsIn D R → IsIn D X × (IsIn (negation (negation m)) D → ⊥))
    → ((D : Clause) → IsIn D V → IsIn (negation (negation m)) D → ⊥)
    → Reaches (formula_of P (A ++ (B ++ (R ++ V)))) (deletes (λ C. Some m) A ++ deletes (λ C. Some (negation m)) B) (formula_of P (R ++ V))
eliminated P X V A B R m q o r a b c v =
    reaches-append (formula_of P (A ++ (B ++ (R ++ V)))) (deletes (λ C. Some m) A) (deletes (λ C. Some (negation m)) B) (formula_of P (B ++ (R ++ V))) (formula_of P (R ++ V))
    (reaches-deletes P (λ C. Some m) A (B ++ (R ++ V)) (λ C i Z f g. inr (m, refl, eliminated-pivot P X V Z C m q o r (a C i).0 (a C i).1 (λ D n. f D (IsIn-append_right D B (R ++ V) (IsIn-append_right D R V n))) (λ D n. where_from D (g D n)))))
    (reaches-deletes P (λ C. Some (negation m)) B (R ++ V) (λ C i Z f g. inr (negation m, refl, pure-pivot P Z C (negation m) (b C i).1 q (λ D n. none D (g D n)))))
  where
    where_from : (D : Clause) → IsIn D (A ++ (B ++ (R ++ V))) → IsIn D X ⊎ IsIn D V
    where_from D n = elim (IsIn-append D A (B ++ (R ++ V)) n) [ inl i ↦ inl (a D i).0 | inr i ↦ elim (IsIn-append D B (R ++ V) i) [ inl j ↦ inl (b D j).0 | inr j ↦ elim (IsIn-append D R V j) [ inl x ↦ inl (c D x).0 | inr y ↦ inr y ] ] ]

    none : (D : Clause) → IsIn D (B ++ (R ++ V)) → IsIn (negation (negation m)) D → ⊥
    none D n k = elim (IsIn-append D B (R ++ V) n) [ inl j ↦ (b D j).2 k | inr j ↦ elim (IsIn-append D R V j) [ inl x ↦ (c D x).1 k | inr y ↦ v D y k ] ]

parted : (m : Literal) (X V : Matrix) → SameClauses (V ++ X) (with_literal m X ++ (with_literal (negation m) (without_literal m X) ++ (without_literal (negation m) (without_literal m X) ++ V)))
parted m X V C = count
  where
    A : Matrix
    A = with_literal m X

    W : Matrix
    W = without_literal m X

    B : Matrix
    B = with_literal (negation m) (without_literal m X)

    R : Matrix
    R = without_literal (negation m) (without_literal m X)

    count : copies C (V ++ X) ≡ copies C (A ++ (B ++ (R ++ V)))
    count =
        let a : copies C X ≡ copies C (A ++ W) = with-alike m X C in
        let a1 : copies C (A ++ W) ≡ copies C A + copies C W = copies-append C A W in
        let b : copies C W ≡ copies C (B ++ R) = with-alike (negation m) W C in
        let b1 : copies C (B ++ R) ≡ copies C B + copies C R = copies-append C B R in
        let c : copies C (V ++ X) ≡ copies C V + copies C X = copies-append C V X in
        let d : copies C (A ++ (B ++ (R ++ V))) ≡ copies C A + copies C (B ++ (R ++ V)) = copies-append C A (B ++ (R ++ V)) in
        let e : copies C (B ++ (R ++ V)) ≡ copies C B + copies C (R ++ V) = copies-append C B (R ++ V) in
        let f : copies C (R ++ V) ≡ copies C R + copies C V = copies-append C R V in
        grind arith

eliminated_from : (P : Prefix) (X V : Matrix) (m : Literal) → ((D : Clause) → IsIn D X → (k : Literal) → IsIn k D → is_bound P k.var ≡ true)
    → ((U : Clause) → IsIn U V → ((k : Literal) → IsIn k U → is_bound P k.var ≡ true) × ((Z : Matrix) → ((D : Clause) → IsIn D X → IsIn D Z) → Implied Z U))
    → is_existential P m.var ≡ true → AllOuter P (negation m) X → Resolves X V m
    → ((D : Clause) → IsIn D X → IsIn m D → IsIn (negation m) D → ⊥)
    → negation (negation m) ≡ m
    → ((D : Clause) → IsIn D V → IsIn m D → ⊥)
    → Way (weight one V + (0 + 0)) (weight length V + (0 + 0)) (formula_of P X) (formula_of P (without_literal (negation m) (without_literal m X) ++ V))
eliminated_from P X V m closed new q o r no_tautology twice v = (
  adds least V ++ (deletes (λ C. Some m) A ++ deletes (λ C. Some (negation m)) B),
  reaches-append (formula_of P X) (adds least V) (deletes (λ C. Some m) A ++ deletes (λ C. Some (negation m)) B) (formula_of P (V ++ X)) (formula_of P (R ++ V))
      (reaches-adds P least V X (λ C i. (new C i).0) (λ C i Z f g. inl ((new C i).1 Z f)))
      (reaches-alike P (A ++ (B ++ (R ++ V))) (V ++ X) (deletes (λ C. Some m) A ++ deletes (λ C. Some (negation m)) B) (formula_of P (R ++ V)) (alike-sym (V ++ X) (A ++ (B ++ (R ++ V))) (parted m X V))
      (eliminated P X V A B R m q o r
      (λ D i. IsIn-with m X D i)
      (λ D i. ((IsIn-without_literal m X D (IsIn-with (negation m) (without_literal m X) D i).0).0, (IsIn-with (negation m) (without_literal m X) D i).1, λ k. (IsIn-without_literal m X D (IsIn-with (negation m) (without_literal m X) D i).0).1 (subst (λ y. IsIn y D) twice k)))
      (λ D i. ((IsIn-without_literal m X D (IsIn-without_literal (negation m) (without_literal m X) D i).0).0, λ k. (IsIn-without_literal m X D (IsIn-without_literal (negation m) (without_literal m X) D i).0).1 (subst (λ y. IsIn y D) twice k)))
      (λ D i k. v D i (subst (λ y. IsIn y D) twice k)))),
  modest-append (weight one V) (weight length V) (0 + 0) (0 + 0) (adds least V) (deletes (λ C. Some m) A ++ deletes (λ C. Some (negation m)) B) (modest-adds least V)
      (modest-append 0 0 0 0 (deletes (λ C. Some m) A) (deletes (λ C. Some (negation m)) B) (modest-deletes (λ C. Some m) A) (modest-deletes (λ C. Some (negation m)) B)),
)
  where
    A : Matrix
    A = with_literal m X

    B : Matrix
    B = with_literal (negation m) (without_literal m X)

    R : Matrix
    R = without_literal (negation m) (without_literal m X)

eliminate_on : (grow : ℕ) (P : Prefix) (X : Matrix) (x : ℕ) → ((D : Clause) → IsIn D X → (k : Literal) → IsIn k D → is_bound P k.var ≡ true) → Eliminable grow P X x → Way (weight one (resolvents x X) + (0 + 0)) (weight length (resolvents x X) + (0 + 0)) (formula_of P X) (formula_of P (clauses_not_of x X ++ resolvents x X))
eliminate_on grow P X x closed h = elim h.outer_side [ inl o ↦ first o | inr o ↦ second o ]
  where
    p : Literal
    p = positive x

    n : Literal
    n = negation (positive x)

    V : Matrix
    V = resolvents x X

    both : (D : Clause) → IsIn D X → IsIn p D → IsIn n D → ⊥
    both D m i j = h.no_tautology D m (inl i) (p, i, j)

    from : (U : Clause) → IsIn U V → Resolved p (with_literal p X) (with_literal n X) U
    from U m = resolve_all-IsIn p (with_literal p X) (with_literal n X) U m

    new : (U : Clause) → IsIn U V → ((k : Literal) → IsIn k U → is_bound P k.var ≡ true) × ((Z : Matrix) → ((D : Clause) → IsIn D X → IsIn D Z) → Implied Z U)
    new U m = go (from U m)
      where
        go : Resolved p (with_literal p X) (with_literal n X) U → ((k : Literal) → IsIn k U → is_bound P k.var ≡ true) × ((Z : Matrix) → ((D : Clause) → IsIn D X → IsIn D Z) → Implied Z U)
        go (C, D, a, b, e) = (
          (λ k i. elim (union-IsIn (without p C) (without n D) k (subst (IsIn k) e i)) [ inl c ↦ closed C (IsIn-with p X C a).0 k (without-IsIn p C k c) | inr d ↦ closed D (IsIn-with n X D b).0 k (without-IsIn n D k d) ]),
          λ Z f. subst (Implied Z) (sym e) (resolvent-implied Z p C D (f C (IsIn-with p X C a).0) (f D (IsIn-with n X D b).0) (IsIn-with n X D b).1),
        )

    free : (U : Clause) → IsIn U V → (IsIn p U → ⊥) × (IsIn n U → ⊥)
    free U m = go (from U m)
      where
        go : Resolved p (with_literal p X) (with_literal n X) U → (IsIn p U → ⊥) × (IsIn n U → ⊥)
        go (C, D, a, b, e) = (
          (λ i. elim (union-IsIn (without p C) (without n D) p (subst (IsIn p) e i)) [
            | inl c ↦ let z : literal_eq p p ≡ false = without-other p C p c in let y : literal_eq p p ≡ true = literal_eq-itself p in grind arith
            | inr d ↦ both D (IsIn-with n X D b).0 (without-IsIn n D p d) (IsIn-with n X D b).1
          ]),
          λ i. elim (union-IsIn (without p C) (without n D) n (subst (IsIn n) e i)) [
            | inl c ↦ both C (IsIn-with p X C a).0 (IsIn-with p X C a).1 (without-IsIn p C n c)
            | inr d ↦ let z : literal_eq n n ≡ false = without-other n D n d in let y : literal_eq n n ≡ true = literal_eq-itself n in grind arith
          ],
        )

    resolved : (C D : Clause) → IsIn C X → IsIn p C → IsIn D X → IsIn n D → IsTautology (resolvent p C D) ⊎ IsIn (resolvent p C D) V
    resolved C D a b c d = resolve_all-in p (with_literal p X) (with_literal n X) C D (IsIn-in_with p X C a b) (IsIn-in_with n X D c d)

    first : AllOuter P p X → Way (weight one (resolvents x X) + (0 + 0)) (weight length (resolvents x X) + (0 + 0)) (formula_of P X) (formula_of P (clauses_not_of x X ++ resolvents x X))
    first o = subst (λ R. Way (weight one V + (0 + 0)) (weight length V + (0 + 0)) (formula_of P X) (formula_of P (R ++ V))) (without_literal-swap p n X)
        (eliminated_from P X V n closed new h.existential o
        (record { resolvent_of = λ C D a b c d. (resolvent p D C, resolved D C c d a b, λ k i. elim (union-IsIn (without p D) (without n C) k i) [ inl y ↦ inr (without-IsIn p D k y, without-other p D k y) | inr z ↦ inl (without-IsIn n C k z) ]); free = λ D m. (free D m).0 })
        (λ D m i j. both D m j i) refl (λ D m. (free D m).1))

    second : AllOuter P n X → Way (weight one (resolvents x X) + (0 + 0)) (weight length (resolvents x X) + (0 + 0)) (formula_of P X) (formula_of P (clauses_not_of x X ++ resolvents x X))
    second o = eliminated_from P X V p closed new h.existential o
        (record { resolvent_of = λ C D a b c d. (resolvent p C D, resolved C D a b c d, λ k i. elim (union-IsIn (without p C) (without n D) k i) [ inl y ↦ inl (without-IsIn p C k y) | inr z ↦ inr (without-IsIn n D k z, without-other n D k z) ]); free = λ D m. (free D m).1 })
        (λ D m i j. both D m i j) refl (λ D m. (free D m).0)

pub eliminate-run : (B : Bounds) (P : Prefix) (N : Slots) (x : ℕ) → ((D : Clause) → IsIn D (live N) → (k : Literal) → IsIn k D → is_bound P k.var ≡ true) → Fits B P N (eliminate x) → Way (weight one (resolvents x (live N)) + (0 + 0)) (weight length (resolvents x (live N)) + (0 + 0)) (formula_of P (live N)) (change P N (eliminate x))
eliminate-run B P N x closed h = eliminate_on B.grow P (live N) x closed h
