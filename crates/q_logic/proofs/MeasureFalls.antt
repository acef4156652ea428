-- Each rule but expansion lowers the measure.
use Rattle.std.proofs.Common.{◌≡◌, ◌≤◌, ℕ, ◌+◌, Bool, true, false, cond, eqb, [], ◌∷◌, ◌++◌, ◌⊎◌, inl, inr, arith, refl, sym, ap, subst, Some, length}
use Rattle.q_logic.specs.Prelude.{positive, Literal, negation, literal_eq, Clause, Prefix, Matrix, IsIn, PrenexFormula, is_existential, without, has, with_literal, without_literal, each_without, OccursIn, is_tautology, formula_of, Slots, slot, live, others, renamed, renamed_literal, merged, Joined, Mergeable, measure_of, size_of, existentials_in, universals_in, resolvent, resolvents, clauses_of, clauses_not_of, Eliminable, has_variable, occurs, shortened}
use Rattle.q_logic.specs.declared.rule_bounds.Bounds.{Bounds}
use Rattle.q_logic.proofs.JustifiedRuns.{SameClauses}
use Rattle.q_logic.proofs.ClauseLemmas.{literal_eq-itself, IsIn-append, has-IsIn, IsIn-has}
use Rattle.q_logic.proofs.UniversalPivot.{without-IsIn}
use Rattle.q_logic.proofs.JustifiedRuns.{IsIn-alike, alike-sym}
use Rattle.q_logic.proofs.NumberedClauses.{slot-alike, with-alike, IsIn-with, IsIn-without_literal}
use Rattle.q_logic.proofs.JoinedClauses.{insert-IsIn, union-IsIn, without-other, without-shorter}
use Rattle.q_logic.proofs.MergeRun.{renamed-length, renamed_all, renamed_all-free, without_var-free, merged-alike, renamed_literal-cases, with_var, without_var}
use Rattle.q_logic.proofs.EliminateRun.{resolve_all-IsIn}
use Rattle.q_logic.proofs.Measures.{existentials-le, universals-le, VarsIn, vars-in, occurs_var-IsIn, occurs_var-find, size-alike, measure-smaller, measure-fewer}

abbrev Falls : Bounds → PrenexFormula → PrenexFormula → Type 0
Falls B F G = measure_of B G + 1 ≤ measure_of B F

-- A clause goes.
pub falls-gone : (B : Bounds) (P : Prefix) (N : Slots) (c : ℕ) (C : Clause) → slot N c ≡ Some C → Falls B (formula_of P (live N)) (formula_of P (others c N))
falls-gone B P N c C e = measure-smaller B P (live N) (others c N) (vars-in (others c N) (live N) (λ D m k i. occurs_var-IsIn (live N) D k (back D (inr m)) i))
    (let s : size_of (live N) ≡ size_of (C ∷ others c N) = size-alike (live N) (C ∷ others c N) (slot-alike N c C e) in grind arith)
  where
    back : (D : Clause) → IsIn D (C ∷ others c N) → IsIn D (live N)
    back D m = IsIn-alike (C ∷ others c N) (live N) (alike-sym (live N) (C ∷ others c N) (slot-alike N c C e)) D m

pub without-less : (l : Literal) (C : Clause) → has l C ≡ true → length (without l C) + 1 ≤ length C
without-less l [] h = grind arith
without-less l (k ∷ C) h = go (literal_eq k l) refl (without-less l C) (without-shorter l C)
  where
    go : (b : Bool) → literal_eq k l ≡ b → (has l C ≡ true → length (without l C) + 1 ≤ length C) → length (without l C) ≤ length C → length (cond b (without l C) (k ∷ without l C)) + 1 ≤ length (k ∷ C)
    go true q ih i = grind arith
    go false q ih i = let j : length (without l C) + 1 ≤ length C = ih (grind arith) in grind arith

-- A literal goes from a clause.
pub falls-shortened : (B : Bounds) (P : Prefix) (N : Slots) (c : ℕ) (C : Clause) (l : Literal) → slot N c ≡ Some C → IsIn l C → Falls B (formula_of P (live N)) (formula_of P (shortened l (slot N c) (others c N)))
falls-shortened B P N c C l e m = subst (λ o. Falls B (formula_of P (live N)) (formula_of P (shortened l o (others c N)))) (sym e)
    (measure-smaller B P (live N) (without l C ∷ others c N) (vars-in (without l C ∷ others c N) (live N) vars)
    (let s : size_of (live N) ≡ size_of (C ∷ others c N) = size-alike (live N) (C ∷ others c N) (slot-alike N c C e) in let w : length (without l C) + 1 ≤ length C = without-less l C (IsIn-has l C m) in grind arith))
  where
    back : (D : Clause) → IsIn D (C ∷ others c N) → IsIn D (live N)
    back D m = IsIn-alike (C ∷ others c N) (live N) (alike-sym (live N) (C ∷ others c N) (slot-alike N c C e)) D m

    vars : (D : Clause) → IsIn D (without l C ∷ others c N) → (k : Literal) → IsIn k D → occurs k.var (live N) ≡ true
    vars D (inl f) k i = occurs_var-IsIn (live N) C k (back C (inl refl)) (without-IsIn l C k (subst (IsIn k) f i))
    vars D (inr n) k i = occurs_var-IsIn (live N) D k (back D (inr n)) i

without_literal-smaller : (l : Literal) (X : Matrix) → size_of (without_literal l X) ≤ size_of X
without_literal-smaller l [] = grind arith
without_literal-smaller l (D ∷ X) = let i : size_of (without_literal l X) ≤ size_of X = without_literal-smaller l X in go (has l D) i
  where
    go : (b : Bool) → size_of (without_literal l X) ≤ size_of X → size_of (cond b (without_literal l X) (D ∷ without_literal l X)) ≤ size_of (D ∷ X)
    go true i = grind arith
    go false i = grind arith

without_literal-less : (l : Literal) (X : Matrix) (D : Clause) → IsIn D X → IsIn l D → size_of (without_literal l X) + 1 ≤ size_of X
without_literal-less l [] D m i = elim m [ ]
without_literal-less l (E ∷ X) D m i = go (has l E) refl m (λ n. without_literal-less l X D n i) (without_literal-smaller l X)
  where
    go : (b : Bool) → has l E ≡ b → (D ≡ E) ⊎ IsIn D X → (IsIn D X → size_of (without_literal l X) + 1 ≤ size_of X) → size_of (without_literal l X) ≤ size_of X → size_of (cond b (without_literal l X) (E ∷ without_literal l X)) + 1 ≤ size_of (E ∷ X)
    go true q n ih s = grind arith
    go false q (inl e) ih s = let z : has l E ≡ true = IsIn-has l E (subst (IsIn l) e i) in grind arith
    go false q (inr n) ih s = let j : size_of (without_literal l X) + 1 ≤ size_of X = ih n in grind arith

pub each_without-smaller : (l : Literal) (X : Matrix) → size_of (each_without l X) ≤ size_of X
each_without-smaller l [] = grind arith
each_without-smaller l (D ∷ X) = let i : size_of (each_without l X) ≤ size_of X = each_without-smaller l X in let w : length (without l D) ≤ length D = without-shorter l D in grind arith

each_without-less : (l : Literal) (X : Matrix) (D : Clause) → IsIn D X → IsIn l D → size_of (each_without l X) + 1 ≤ size_of X
each_without-less l [] D m i = elim m [ ]
each_without-less l (E ∷ X) D (inl e) i = let a : size_of (each_without l X) ≤ size_of X = each_without-smaller l X in let w : length (without l E) + 1 ≤ length E = without-less l E (IsIn-has l E (subst (IsIn l) e i)) in grind arith
each_without-less l (E ∷ X) D (inr m) i = let a : size_of (each_without l X) + 1 ≤ size_of X = each_without-less l X D m i in let w : length (without l E) ≤ length E = without-shorter l E in grind arith

IsIn-each : (l : Literal) (X : Matrix) (D : Clause) → IsIn D (each_without l X) → (E : Clause) × IsIn E X × (D ≡ without l E)
IsIn-each l [] D m = elim m [ ]
IsIn-each l (E ∷ X) D (inl e) = (E, inl refl, e)
IsIn-each l (E ∷ X) D (inr m) = let r : (E : Clause) × IsIn E X × (D ≡ without l E) = IsIn-each l X D m in (r.0, inr r.1, r.2)

vars-each : (l : Literal) (X Y : Matrix) → ((D : Clause) → IsIn D Y → IsIn D X) → VarsIn (each_without l Y) X
vars-each l X Y f = vars-in (each_without l Y) X (λ D m k i. let r : (E : Clause) × IsIn E Y × (D ≡ without l E) = IsIn-each l Y D m in occurs_var-IsIn X r.0 k (f r.0 r.1) (without-IsIn l r.0 k (subst (IsIn k) r.2 i)))

pub falls-unit : (B : Bounds) (P : Prefix) (X : Matrix) (l : Literal) (D : Clause) → IsIn D X → IsIn l D → Falls B (formula_of P X) (formula_of P (each_without (negation l) (without_literal l X)))
falls-unit B P X l D m i = measure-smaller B P X (each_without (negation l) (without_literal l X)) (vars-each (negation l) X (without_literal l X) (λ E n. (IsIn-without_literal l X E n).0))
    (let a : size_of (each_without (negation l) (without_literal l X)) ≤ size_of (without_literal l X) = each_without-smaller (negation l) (without_literal l X) in let b : size_of (without_literal l X) + 1 ≤ size_of X = without_literal-less l X D m i in grind arith)

pub falls-pure : (B : Bounds) (P : Prefix) (X : Matrix) (l : Literal) → OccursIn l X → Falls B (formula_of P X) (formula_of P (cond (is_existential P l.var) (without_literal l X) (each_without l X)))
falls-pure B P X l o = go (is_existential P l.var)
  where
    go : (b : Bool) → Falls B (formula_of P X) (formula_of P (cond b (without_literal l X) (each_without l X)))
    go true = measure-smaller B P X (without_literal l X) (vars-in (without_literal l X) X (λ E n k j. occurs_var-IsIn X E k (IsIn-without_literal l X E n).0 j)) (without_literal-less l X o.0 o.1 o.2)
    go false = measure-smaller B P X (each_without l X) (vars-each l X X (λ E n. n)) (each_without-less l X o.0 o.1 o.2)

-- Merging.
merged-size : (keep gone : Literal) (X : Matrix) → size_of (merged keep gone X) ≤ size_of X
merged-size keep gone [] = grind arith
merged-size keep gone (C ∷ X) = let i : size_of (merged keep gone X) ≤ size_of X = merged-size keep gone X in let r : length (renamed keep gone C) ≤ length C = renamed-length keep gone C in go (has_variable gone.var C) (is_tautology (renamed keep gone C)) i r
  where
    go : (a b : Bool) → size_of (merged keep gone X) ≤ size_of X → length (renamed keep gone C) ≤ length C → size_of (cond a (cond b (merged keep gone X) (renamed keep gone C ∷ merged keep gone X)) (C ∷ merged keep gone X)) ≤ size_of (C ∷ X)
    go true true i r = grind arith
    go true false i r = grind arith
    go false b i r = grind arith

joined-occurs : (X : Matrix) (q x : Literal) → Joined X q x → (x ≡ q) ⊎ (occurs q.var X ≡ true)
joined-occurs X q x Joined.here = inl refl
joined-occurs X q x (Joined.on {y = y} w h j) = elim (joined-occurs X q y j) [ inl e ↦ inr (subst (λ z. occurs z.var X ≡ true) e (occurs_var-IsIn X h.clause y h.there h.second)) | inr o ↦ inr o ]

merged-free : (keep gone : Literal) (X : Matrix) → eqb keep.var gone.var ≡ false → occurs gone.var (merged keep gone X) ≡ false
merged-free keep gone X d = go (occurs gone.var (merged keep gone X)) refl
  where
    A : Matrix
    A = renamed_all keep gone (with_var gone.var X)

    R : Matrix
    R = without_var gone.var X

    go : (b : Bool) → occurs gone.var (merged keep gone X) ≡ b → occurs gone.var (merged keep gone X) ≡ false
    go false q = q
    go true q = absurd (no (occurs_var-find gone.var (merged keep gone X) q))
      where
        no : ((D : Clause) × (k : Literal) × IsIn D (merged keep gone X) × IsIn k D × (k.var ≡ gone.var)) → ⊥
        no (D, k, m, i, e) =
            let n : IsIn D (A ++ R) = IsIn-alike (merged keep gone X) (A ++ R) (alike-sym (A ++ R) (merged keep gone X) (merged-alike keep gone X)) D m in
            let z : eqb k.var gone.var ≡ false = elim (IsIn-append D A R n) [ inl a ↦ renamed_all-free keep gone (with_var gone.var X) d D a k i | inr b ↦ without_var-free gone.var X D b k i ] in grind arith

renamed-vars : (keep gone : Literal) (X : Matrix) (C : Clause) → occurs keep.var X ≡ true → ((k : Literal) → IsIn k C → occurs k.var X ≡ true) → (k : Literal) → IsIn k (renamed keep gone C) → occurs k.var X ≡ true
renamed-vars keep gone X [] o f k m = elim m [ ]
renamed-vars keep gone X (j ∷ C) o f k m = elim (insert-IsIn (renamed_literal keep gone j) (renamed keep gone C) k m)
    [ inl e ↦ subst (λ y. occurs y.var X ≡ true) (sym e) (one (renamed_literal-cases keep gone j)) | inr n ↦ renamed-vars keep gone X C o (λ i x. f i (inr x)) k n ]
  where
    one : ((j ≡ gone) × (renamed_literal keep gone j ≡ keep)) ⊎ (((j ≡ negation gone) × (renamed_literal keep gone j ≡ negation keep)) ⊎ (renamed_literal keep gone j ≡ j)) → occurs (renamed_literal keep gone j).var X ≡ true
    one (inl a) = subst (λ y. occurs y.var X ≡ true) (sym a.1) o
    one (inr (inl c)) = subst (λ y. occurs y.var X ≡ true) (sym c.1) o
    one (inr (inr e)) = subst (λ y. occurs y.var X ≡ true) (sym e) (f j (inl refl))

merged-vars : (keep gone : Literal) (X Y : Matrix) → occurs keep.var X ≡ true → ((D : Clause) → IsIn D Y → IsIn D X) → (D : Clause) → IsIn D (merged keep gone Y) → (k : Literal) → IsIn k D → occurs k.var X ≡ true
merged-vars keep gone X [] o f D m k i = elim m [ ]
merged-vars keep gone X (C ∷ Y) o f D m k i = go (has_variable gone.var C) (is_tautology (renamed keep gone C)) m (λ n. merged-vars keep gone X Y o (λ E x. f E (inr x)) D n k i)
  where
    go : (a b : Bool) → IsIn D (cond a (cond b (merged keep gone Y) (renamed keep gone C ∷ merged keep gone Y)) (C ∷ merged keep gone Y)) → (IsIn D (merged keep gone Y) → occurs k.var X ≡ true) → occurs k.var X ≡ true
    go true true n ih = ih n
    go true false (inl e) ih = renamed-vars keep gone X C o (λ j x. occurs_var-IsIn X C j (f C (inl refl)) x) k (subst (IsIn k) e i)
    go true false (inr n) ih = ih n
    go false b (inl e) ih = occurs_var-IsIn X C k (f C (inl refl)) (subst (IsIn k) e i)
    go false b (inr n) ih = ih n

pub falls-merge : (B : Bounds) (P : Prefix) (X : Matrix) (keep gone : Literal) → Mergeable P X keep gone → Falls B (formula_of P X) (formula_of P (merged keep gone X))
falls-merge B P X keep gone h = measure-fewer B P X (merged keep gone X) gone.var (vars-in (merged keep gone X) X (merged-vars keep gone X X keep_occurs (λ D m. m)))
    (let s : size_of (merged keep gone X) ≤ size_of X = merged-size keep gone X in grind arith) h.existential gone_occurs (merged-free keep gone X h.different)
  where
    differ : keep ≡ gone → ⊥
    differ e = let z : keep.var ≡ gone.var = ap (λ y. y.var) e in let n : eqb keep.var gone.var ≡ false = h.different in grind arith

    gone_occurs : occurs gone.var X ≡ true
    gone_occurs = elim (joined-occurs X gone keep h.to_gone) [ inl e ↦ absurd (differ e) | inr o ↦ o ]

    keep_occurs : occurs keep.var X ≡ true
    keep_occurs = elim (joined-occurs X keep gone h.to_keep) [ inl e ↦ absurd (differ (sym e)) | inr o ↦ o ]

-- Elimination.
pub size-append : (X Y : Matrix) → size_of (X ++ Y) ≡ size_of X + size_of Y
size-append [] Y = grind arith
size-append (C ∷ X) Y = let i : size_of (X ++ Y) ≡ size_of X + size_of Y = size-append X Y in grind arith

pub with_without : (j l : Literal) (X : Matrix) → ((D : Clause) → IsIn D X → IsIn j D → IsIn l D → ⊥) → with_literal l (without_literal j X) ≡ with_literal l X
with_without j l [] h = refl
with_without j l (D ∷ X) h = go (has j D) refl (has l D) refl (with_without j l X (λ E m. h E (inr m)))
  where
    go : (a : Bool) → has j D ≡ a → (b : Bool) → has l D ≡ b → with_literal l (without_literal j X) ≡ with_literal l X → with_literal l (cond a (without_literal j X) (D ∷ without_literal j X)) ≡ cond b (D ∷ with_literal l X) (with_literal l X)
    go true p true q i = absurd (h D (inl refl) (has-IsIn j D p) (has-IsIn l D q))
    go true p false q i = i
    go false p true q i = rw q (ap (λ Z. D ∷ Z) i)
    go false p false q i = rw q i

pub var_is : (k : Literal) (x : ℕ) → k.var ≡ x → (k ≡ positive x) ⊎ (k ≡ negation (positive x))
var_is k x e = go k.negative refl
  where
    go : (b : Bool) → k.negative ≡ b → (k ≡ positive x) ⊎ (k ≡ negation (positive x))
    go false q = inl (λ i. record { var = e i; negative = q i })
    go true q = inr (λ i. record { var = e i; negative = q i })

eliminated-size : (X : Matrix) (x g : ℕ) → ((D : Clause) → IsIn D X → IsIn (positive x) D → IsIn (negation (positive x)) D → ⊥) → size_of (resolvents x X) ≤ size_of (clauses_of x X) + g → size_of (clauses_not_of x X ++ resolvents x X) ≤ size_of X + g
eliminated-size X x g both s =
    let p : Literal = positive x in
    let n : Literal = negation (positive x) in
    let a : size_of X ≡ size_of (with_literal (positive x) X ++ without_literal (positive x) X) = size-alike X (with_literal (positive x) X ++ without_literal (positive x) X) (with-alike (positive x) X) in
    let a1 : size_of (with_literal (positive x) X ++ without_literal (positive x) X) ≡ size_of (with_literal (positive x) X) + size_of (without_literal (positive x) X) = size-append (with_literal (positive x) X) (without_literal (positive x) X) in
    let b : size_of (without_literal (positive x) X) ≡ size_of (with_literal (negation (positive x)) (without_literal (positive x) X) ++ clauses_not_of x X) = size-alike (without_literal (positive x) X) (with_literal (negation (positive x)) (without_literal (positive x) X) ++ clauses_not_of x X) (with-alike (negation (positive x)) (without_literal (positive x) X)) in
    let b1 : size_of (with_literal (negation (positive x)) (without_literal (positive x) X) ++ clauses_not_of x X) ≡ size_of (with_literal (negation (positive x)) (without_literal (positive x) X)) + size_of (clauses_not_of x X) = size-append (with_literal (negation (positive x)) (without_literal (positive x) X)) (clauses_not_of x X) in
    let c : size_of (with_literal (negation (positive x)) (without_literal (positive x) X)) ≡ size_of (with_literal (negation (positive x)) X) = ap size_of (with_without (positive x) (negation (positive x)) X both) in
    let d : size_of (clauses_of x X) ≡ size_of (with_literal (positive x) X) + size_of (with_literal (negation (positive x)) X) = size-append (with_literal (positive x) X) (with_literal (negation (positive x)) X) in
    let e : size_of (clauses_not_of x X ++ resolvents x X) ≡ size_of (clauses_not_of x X) + size_of (resolvents x X) = size-append (clauses_not_of x X) (resolvents x X) in
    grind arith

pub falls-eliminate : (B : Bounds) (P : Prefix) (X : Matrix) (x : ℕ) → Eliminable B.grow P X x → Falls B (formula_of P X) (formula_of P (clauses_not_of x X ++ resolvents x X))
falls-eliminate B P X x h = measure-fewer B P X (clauses_not_of x X ++ resolvents x X) x (vars-in (clauses_not_of x X ++ resolvents x X) X vars)
    (eliminated-size X x B.grow both h.small) h.existential there (free (occurs x (clauses_not_of x X ++ resolvents x X)) refl)
  where
    p : Literal
    p = positive x

    n : Literal
    n = negation (positive x)

    both : (D : Clause) → IsIn D X → IsIn (positive x) D → IsIn (negation (positive x)) D → ⊥
    both D m i j = h.no_tautology D m (inl i) (positive x, i, j)

    there : occurs x X ≡ true
    there = elim h.occurs [ inl o ↦ occurs_var-IsIn X o.0 (positive x) o.1 o.2 | inr o ↦ occurs_var-IsIn X o.0 (negation (positive x)) o.1 o.2 ]

    vars : (D : Clause) → IsIn D (clauses_not_of x X ++ resolvents x X) → (k : Literal) → IsIn k D → occurs k.var X ≡ true
    vars D m k i = elim (IsIn-append D (clauses_not_of x X) (resolvents x X) m) [
      | inl a ↦ occurs_var-IsIn X D k (IsIn-without_literal p X D (IsIn-without_literal n (without_literal p X) D a).0).0 i
      | inr b ↦ go (resolve_all-IsIn p (with_literal p X) (with_literal n X) D b)
    ]
      where
        go : ((C : Clause) × (E : Clause) × IsIn C (with_literal p X) × IsIn E (with_literal n X) × (D ≡ resolvent p C E)) → occurs k.var X ≡ true
        go (C, E, a, b, e) = elim (union-IsIn (without p C) (without n E) k (subst (IsIn k) e i))
            [ inl c ↦ occurs_var-IsIn X C k (IsIn-with p X C a).0 (without-IsIn p C k c) | inr d ↦ occurs_var-IsIn X E k (IsIn-with n X E b).0 (without-IsIn n E k d) ]

    neither : (D : Clause) → IsIn D (clauses_not_of x X ++ resolvents x X) → (IsIn (positive x) D → ⊥) × (IsIn (negation (positive x)) D → ⊥)
    neither D m = elim (IsIn-append D (clauses_not_of x X) (resolvents x X) m) [
      | inl a ↦ ((IsIn-without_literal p X D (IsIn-without_literal n (without_literal p X) D a).0).1, (IsIn-without_literal n (without_literal p X) D a).1)
      | inr b ↦ go (resolve_all-IsIn p (with_literal p X) (with_literal n X) D b)
    ]
      where
        go : ((C : Clause) × (E : Clause) × IsIn C (with_literal p X) × IsIn E (with_literal n X) × (D ≡ resolvent p C E)) → (IsIn (positive x) D → ⊥) × (IsIn (negation (positive x)) D → ⊥)
        go (C, E, a, b, e) = (
          (λ i. elim (union-IsIn (without p C) (without n E) p (subst (IsIn p) e i)) [
            | inl c ↦ let z : literal_eq p p ≡ false = without-other p C p c in let y : literal_eq p p ≡ true = literal_eq-itself p in grind arith
            | inr d ↦ both E (IsIn-with n X E b).0 (without-IsIn n E p d) (IsIn-with n X E b).1
          ]),
          λ i. elim (union-IsIn (without p C) (without n E) n (subst (IsIn n) e i)) [
            | inl c ↦ both C (IsIn-with p X C a).0 (IsIn-with p X C a).1 (without-IsIn p C n c)
            | inr d ↦ let z : literal_eq n n ≡ false = without-other n E n d in let y : literal_eq n n ≡ true = literal_eq-itself n in grind arith
          ],
        )

    free : (b : Bool) → occurs x (clauses_not_of x X ++ resolvents x X) ≡ b → occurs x (clauses_not_of x X ++ resolvents x X) ≡ false
    free false q = q
    free true q = absurd (no (occurs_var-find x (clauses_not_of x X ++ resolvents x X) q))
      where
        no : ((D : Clause) × (k : Literal) × IsIn D (clauses_not_of x X ++ resolvents x X) × IsIn k D × (k.var ≡ x)) → ⊥
        no (D, k, m, i, e) = elim (var_is k x e) [ inl f ↦ (neither D m).0 (subst (λ y. IsIn y D) f i) | inr f ↦ (neither D m).1 (subst (λ y. IsIn y D) f i) ]

-- The measure is one of collections.
pub measure-alike : (B : Bounds) (P : Prefix) (X Y : Matrix) → SameClauses X Y → measure_of B (formula_of P X) ≡ measure_of B (formula_of P Y)
measure-alike B P X Y s = count (size-alike X Y s) (antisym (existentials-le P Y X there) (existentials-le P X Y back)) (antisym (universals-le P Y X there) (universals-le P X Y back))
  where
    there : VarsIn X Y
    there = vars-in X Y (λ D m k i. occurs_var-IsIn Y D k (IsIn-alike X Y s D m) i)

    back : VarsIn Y X
    back = vars-in Y X (λ D m k i. occurs_var-IsIn X D k (IsIn-alike Y X (alike-sym X Y s) D m) i)

    antisym : {a b : ℕ} → a ≤ b → b ≤ a → a ≡ b
    antisym h k = omega arith

    count : size_of X ≡ size_of Y → existentials_in P X ≡ existentials_in P Y → universals_in P X ≡ universals_in P Y → measure_of B (formula_of P X) ≡ measure_of B (formula_of P Y)
    count a b c = rw (a, b, c) refl
