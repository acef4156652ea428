-- A universal pivot keeps Skolem functions.
use Rattle.std.proofs.Common.{◌≡◌, ℕ, Bool, true, false, cond, ◌||◌, eqb, List, [], ◌∷◌, ◌++◌, ◌⊎◌, inl, inr, arith, refl, sym, ap, ◌∙◌, subst, Option, Some, None}
use Rattle.q_logic.specs.Prelude.{Literal, negation, literal_eq, Prefix, Clause, Matrix, IsIn, is_existential, is_universal, universal_before, outer_or_same, Circuit, input, inverter, conjunction, disjunction, value_of, Reads, replaced, keeps, outer, ForallPivot, without, has, all_of, every_outer}
use Rattle.q_logic.specs.Truth.{Assignment, LiteralTrue, ClauseTrue, MatrixTrue, signed, with_value}
use Rattle.q_logic.specs.Skolems.{Strategy, circuit_of, or_input, given, map_circuit, reread, outcome, Skolem, Lawful}
use Rattle.q_logic.proofs.ClauseLemmas.{literal_eq-sound, IsIn-append, IsIn-outer, all_of-true, all_of-false, Reads-all_of, circuit_of-none, has-IsIn, IsIn-has}
use Rattle.q_logic.proofs.PrefixOrder.{outer_or_same-is_bound, outer_existential-free, before_outer_existential-before, outer_universal-before_inner, universal-not_existential}
use Rattle.q_logic.proofs.Pivot.{Near, AreOuters, outers-near}
use Rattle.q_logic.proofs.Propagation.{implied-true}
use Rattle.q_logic.proofs.TreeValues.{value_of-replaced, Reads-replaced, value_of-agree}

pub IsIn-without : (l : Literal) (C : Clause) (k : Literal) → IsIn k C → literal_eq k l ≡ false →
    IsIn k (without l C)
IsIn-without l [] k m n = m
IsIn-without l (j ∷ C) k m n = go (literal_eq j l) refl m (IsIn-without l C k)
  where
    go : (b : Bool) → literal_eq j l ≡ b → (k ≡ j) ⊎ IsIn k C →
        (IsIn k C → literal_eq k l ≡ false → IsIn k (without l C)) →
        IsIn k (cond b (without l C) (j ∷ without l C))
    go true e (inl s) ih =
        let z : literal_eq k l ≡ true = ap (λ x. literal_eq x l) s ∙ e in absurd (grind arith)
    go true e (inr m) ih = ih m n
    go false e (inl s) ih = inl s
    go false e (inr m) ih = inr (ih m n)

pub without-IsIn : (l : Literal) (C : Clause) (k : Literal) → IsIn k (without l C) → IsIn k C
without-IsIn l [] k m = m
without-IsIn l (j ∷ C) k m = go (literal_eq j l) m (without-IsIn l C k)
  where
    go : (b : Bool) → IsIn k (cond b (without l C) (j ∷ without l C)) → (IsIn k (without l C) → IsIn k C) →
        IsIn k (j ∷ C)
    go true m ih = inr (ih m)
    go false (inl s) ih = inl s
    go false (inr m) ih = inr (ih m)

-- The outer clauses of the clauses that hold m are all there.
pub every_outer-there : (P : Prefix) (m : Literal) (X : Matrix) (D : Clause) → IsIn D X → IsIn m D →
    IsIn (outer P m D) (every_outer P m X)
every_outer-there P m [] D inX inD = inX
every_outer-there P m (E ∷ X) D inX inD = go (has m E) refl inX (λ r. every_outer-there P m X D r inD)
  where
    go : (b : Bool) → has m E ≡ b → (D ≡ E) ⊎ IsIn D X →
        (IsIn D X → IsIn (outer P m D) (every_outer P m X)) →
        IsIn (outer P m D) (cond b (outer P m E ∷ every_outer P m X) (every_outer P m X))
    go true e (inl s) ih = inl (ap (outer P m) s)
    go true e (inr r) ih = inr (ih r)
    go false e (inl s) ih =
        let a : has m E ≡ true = subst (λ z. has m z ≡ true) s (IsIn-has m D inD) in absurd (grind arith)
    go false e (inr r) ih = ih r

pub every_outer-from : (P : Prefix) (m : Literal) (X : Matrix) (O : Clause) → IsIn O (every_outer P m X) →
    (D : Clause) × IsIn D X × IsIn m D × (O ≡ outer P m D)
every_outer-from P m [] O h = elim h [ ]
every_outer-from P m (E ∷ X) O h = go (has m E) refl h (every_outer-from P m X O)
  where
    go : (b : Bool) → has m E ≡ b → IsIn O (cond b (outer P m E ∷ every_outer P m X) (every_outer P m X)) →
        (IsIn O (every_outer P m X) → (D : Clause) × IsIn D X × IsIn m D × (O ≡ outer P m D)) →
        (D : Clause) × IsIn D (E ∷ X) × IsIn m D × (O ≡ outer P m D)
    go true e (inl s) ih = (E, inl refl, has-IsIn m E e, s)
    go true e (inr r) ih =
        let d : (D : Clause) × IsIn D X × IsIn m D × (O ≡ outer P m D) = ih r in (d.0, inr d.1, d.2, d.3)
    go false e r ih =
        let d : (D : Clause) × IsIn D X × IsIn m D × (O ≡ outer P m D) = ih r in (d.0, inr d.1, d.2, d.3)

pub every_outers : (P : Prefix) (X : Matrix) (m : Literal) → AreOuters P X m (every_outer P m X)
every_outers P X m = record { all_there = every_outer-there P m X; no_other = every_outer-from P m X }

-- Each tree reads the universal u by the tree s.
pub given-reread : (u : ℕ) (s : Circuit) (c : Strategy) (x : ℕ) → given (reread u s c x) ≡ given (c x)
given-reread u s c x = go (c x)
  where
    go : (o : Option Circuit) → given (map_circuit (replaced u s) o) ≡ given o
    go None = refl
    go (Some t) = refl

-- At each variable but u, the outcome is the former one where u has the value of s.
pub outcome-reread : (u : ℕ) (s : Circuit) (c : Strategy) (A : Assignment) (x : ℕ) → eqb x u ≡ false →
    outcome (reread u s c) A x ≡ outcome c (with_value A u (value_of s A)) x
outcome-reread u s c A x n = go (c x)
  where
    go : (o : Option Circuit) → value_of (or_input x (map_circuit (replaced u s) o)) A ≡
        value_of (or_input x o) (with_value A u (value_of s A))
    go None = rw n refl
    go (Some t) = value_of-replaced u s t A

-- Where s has u's own value nothing changes.
pub outcome-same : (u : ℕ) (s : Circuit) (c : Strategy) (A : Assignment) → value_of s A ≡ A u → (x : ℕ) →
    outcome (reread u s c) A x ≡ outcome c A x
outcome-same u s c A e x = go (c x)
  where
    kept : (w : ℕ) → with_value A u (value_of s A) w ≡ A w
    kept w = cases (eqb w u) refl
      where
        cases : (b : Bool) → eqb w u ≡ b → cond b (value_of s A) (A w) ≡ A w
        cases true q = let z : w ≡ u = grind arith in rw z e
        cases false q = refl

    go : (o : Option Circuit) → value_of (or_input x (map_circuit (replaced u s) o)) A ≡
        value_of (or_input x o) A
    go None = refl
    go (Some t) =
        value_of-replaced u s t A ∙ value_of-agree t (with_value A u (value_of s A)) A (λ w r. kept w)

-- The tree that u is read by: l false where h holds.
abbrev pub lowered : Literal → Circuit → Circuit
lowered l h = cond l.negative (disjunction (input l.var) h) (conjunction (input l.var) (inverter h))

pub lowered-kept : (l : Literal) (h : Circuit) (A : Assignment) →
    (value_of h A ≡ false) ⊎ (signed l.negative (A l.var) ≡ false) → value_of (lowered l h) A ≡ A l.var
lowered-kept l h A e = go l.negative e
  where
    go : (n : Bool) → (value_of h A ≡ false) ⊎ (signed n (A l.var) ≡ false) →
        value_of (cond n (disjunction (input l.var) h) (conjunction (input l.var) (inverter h))) A ≡ A l.var
    go true e = grind arith
    go false e = grind arith

pub lowered-false : (l : Literal) (h : Circuit) (A : Assignment) → value_of h A ≡ true →
    signed l.negative (value_of (lowered l h) A) ≡ false
lowered-false l h A e = go l.negative
  where
    go : (n : Bool) → signed n (value_of (cond n (disjunction (input l.var) h)
        (conjunction (input l.var) (inverter h))) A) ≡ false
    go true = grind arith
    go false = grind arith

-- What a surgery on the universal u does to the trees, where the clauses over u are left aside.
module _ (P : Prefix) (c : Strategy) (sk : Lawful P c) (u : ℕ) (hu : is_universal P u ≡ true) where
  input_at : (x : ℕ) → is_existential P x ≡ false → circuit_of c x ≡ input x
  input_at x e = circuit_of-none c x (sk.trees x ∙ e)

  -- An outer or same variable other than u keeps its outcome when u changes.
  pub outer_kept : (A : Assignment) (w : Bool) (x : ℕ) → outer_or_same P x u ≡ true → eqb x u ≡ false →
      outcome c (with_value A u w) x ≡ outcome c A x
  outer_kept A w x o n = choose (is_existential P x) refl
    where
      unread : is_existential P x ≡ true → (v : ℕ) → Reads (circuit_of c x) v → with_value A u w v ≡ A v
      unread e v r =
          let z : universal_before P v x ≡ true = sk.reads x e v r in
          let f : universal_before P u x ≡ false = outer_existential-free P x u o e hu in
          cases (eqb v u) refl z f
        where
          cases : (b : Bool) → eqb v u ≡ b → universal_before P v x ≡ true →
              universal_before P u x ≡ false → cond b w (A v) ≡ A v
          cases true q z f =
              let y : v ≡ u = grind arith in absurd (let g : universal_before P u x ≡ true =
              subst (λ t. universal_before P t x ≡ true) y z in grind arith)
          cases false q z f = refl

      choose : (b : Bool) → is_existential P x ≡ b → outcome c (with_value A u w) x ≡ outcome c A x
      choose true e = value_of-agree (circuit_of c x) (with_value A u w) A (unread e)
      choose false e = rw (input_at x e) (rw n refl)

-- Trees that read the universal u of m by clauses near to it stay lawful.
pub reread-lawful : (P : Prefix) (m : Literal) (Os : List Clause) (c : Strategy) →
    is_universal P m.var ≡ true → Near P m.var Os → Lawful P c →
    Lawful P (reread m.var (lowered m (all_of c Os)) c)
reread-lawful P m Os c hu near sk =
    record { trees = λ x. given-reread m.var s c x ∙ sk.trees x; reads = reading }
  where
    h : Circuit
    h = all_of c Os

    s : Circuit
    s = lowered m h

    reads_s : (n : Bool) (u : ℕ) → Reads (cond n (disjunction (input m.var) h)
        (conjunction (input m.var) (inverter h))) u → (m.var ≡ u) ⊎ Reads h u
    reads_s true u r = r
    reads_s false u r = r

    from_outers : (x u : ℕ) → is_existential P x ≡ true → universal_before P m.var x ≡ true → Reads h u →
        universal_before P u x ≡ true
    from_outers x u e hx r = go (Reads-all_of c Os u r)
      where
        literal : (k : Literal) → outer_or_same P k.var m.var ≡ true → Reads (circuit_of c k.var) u →
            universal_before P u x ≡ true
        literal k o q = choose (is_existential P k.var) refl
          where
            choose : (b : Bool) → is_existential P k.var ≡ b → universal_before P u x ≡ true
            choose true ek =
                before_outer_existential-before P k.var m.var u x o ek hu (sk.reads k.var ek u q) hx
            choose false ek =
                let z : k.var ≡ u = subst (λ t. Reads t u) (circuit_of-none c k.var (sk.trees k.var ∙ ek)) q in
                subst (λ w. universal_before P w x ≡ true) z
                (outer_universal-before_inner P k.var m.var x o
                (outer_or_same-is_bound P k.var m.var o ek) hu e hx)

        go : (O : Clause) × IsIn O Os × (k : Literal) × IsIn k O × Reads (circuit_of c k.var) u →
            universal_before P u x ≡ true
        go (O, inOs, k, inO, q) = literal k (near O inOs k inO) q

    reading : (x : ℕ) → is_existential P x ≡ true → (u : ℕ) → Reads (circuit_of (reread m.var s c) x) u →
        universal_before P u x ≡ true
    reading x e u r = go (c x) (sk.trees x ∙ e) (sk.reads x e) r
      where
        go : (o : Option Circuit) → given o ≡ true →
            ((v : ℕ) → Reads (or_input x o) v → universal_before P v x ≡ true) →
            Reads (or_input x (map_circuit (replaced m.var s) o)) u → universal_before P u x ≡ true
        go None g old r = absurd (grind arith)
        go (Some t) g old r =
            elim (Reads-replaced m.var s t u r) [
              | inl p ↦ old u p.0
              | inr p ↦ elim (reads_s m.negative u p.1) [
                | inl q ↦ subst (λ w. universal_before P w x ≡ true) q (old m.var p.0)
                | inr q ↦ from_outers x u e (old m.var p.0) q
              ]
            ]

pub forall_pivot-keeps : (P : Prefix) (X : Matrix) (C : Clause) (l : Literal) (c : Strategy) →
    ForallPivot P X C l → Skolem P (C ∷ X) c →
    Skolem P (without l C ∷ X) (reread l.var (lowered l (all_of c (every_outer P (negation l) X))) c)
forall_pivot-keeps P X C l c pv sk =
    record {
      lawful = reread-lawful P l Os c pv.universal_pivot
          (outers-near P X (negation l) Os (every_outers P X (negation l))) sk.lawful;
      wins = winning;
    }
  where
    Os : List Clause
    Os = every_outer P (negation l) X

    h : Circuit
    h = all_of c Os

    s : Circuit
    s = lowered l h

    not_e : is_existential P l.var ≡ false
    not_e = universal-not_existential P l.var pv.universal_pivot

    unchanged : (A : Assignment) → value_of s A ≡ A l.var → (S : Clause) → ClauseTrue (outcome c A) S →
        ClauseTrue (outcome (reread l.var s c) A) S
    unchanged A e S (k, m, t) = (k, m, ap (signed k.negative) (outcome-same l.var s c A e k.var) ∙ t)

    at_pivot : (A : Assignment) → outcome c A l.var ≡ A l.var
    at_pivot A = rw (circuit_of-none c l.var (sk.trees l.var ∙ not_e)) refl

    winning : (A : Assignment) → MatrixTrue (outcome (reread l.var s c) A) (without l C ∷ X)
    winning A = go (value_of h A) refl (signed l.negative (A l.var)) refl
      where
        N : Assignment
        N = outcome (reread l.var s c) A

        A1 : Assignment
        A1 = with_value A l.var (value_of s A)

        first : ClauseTrue N (without l C) → ((D : Clause) → IsIn D X → ClauseTrue N D) →
            MatrixTrue N (without l C ∷ X)
        first a b D (inl e) = subst (ClauseTrue N) (sym e) a
        first a b D (inr m) = b D m

        by_implied : value_of h A ≡ false → ClauseTrue (outcome c A) (without l C)
        by_implied e =
            let o : (O : Clause) × IsIn O Os × (ClauseTrue (outcome c A) O → ⊥) = all_of-false c A Os e in
            let d : (D : Clause) × IsIn D X × IsIn (negation l) D × (o.0 ≡ outer P (negation l) D) =
            every_outer-from P (negation l) X o.0 o.1 in
            let w : ClauseTrue (outcome c A) (without l C ++ outer P (negation l) d.0) =
            implied-true (outcome c A) X (without l C ++ outer P (negation l) d.0)
            (pv.implied d.0 d.1 d.2) (λ D m. sk.wins A D (inr m)) in
            elim (IsIn-append w.0 (without l C) (outer P (negation l) d.0) w.1) [
              | inl m ↦ (w.0, m, w.2)
              | inr m ↦ absurd (o.2 (w.0, subst (IsIn w.0) (sym d.3) m, w.2))
            ]

        by_other : signed l.negative (A l.var) ≡ false → ClauseTrue (outcome c A) (without l C)
        by_other e =
            let w : ClauseTrue (outcome c A) C = sk.wins A C (inl refl) in choose w (literal_eq w.0 l) refl
          where
            choose : (w : ClauseTrue (outcome c A) C) (b : Bool) → literal_eq w.0 l ≡ b →
                ClauseTrue (outcome c A) (without l C)
            choose w true q =
                let z : LiteralTrue (outcome c A) l =
                subst (LiteralTrue (outcome c A)) (literal_eq-sound w.0 l q) w.2 in
                let y : signed l.negative (A l.var) ≡ true = sym (ap (signed l.negative) (at_pivot A)) ∙
                z in absurd (grind arith)
            choose w false q = (w.0, IsIn-without l C w.0 w.1 q, w.2)

        moved : (k : Literal) → eqb k.var l.var ≡ false → LiteralTrue (outcome c A1) k → LiteralTrue N k
        moved k n t = ap (signed k.negative) (outcome-reread l.var s c A k.var n) ∙ t

        pivot_false : value_of h A ≡ true → LiteralTrue (outcome c A1) l → ⊥
        pivot_false e t =
            let z : outcome c A1 l.var ≡ cond (eqb l.var l.var) (value_of s A) (A l.var) = at_pivot A1 in
            let y : signed l.negative (value_of s A) ≡ false = lowered-false l h A e in
            let x : eqb l.var l.var ≡ true = grind arith in
            let w : signed l.negative (value_of s A) ≡ true =
            sym (ap (signed l.negative) (z ∙ ap (λ b. cond b (value_of s A) (A l.var)) x)) ∙ t in
            grind arith

        pivot_true : signed l.negative (A l.var) ≡ true → LiteralTrue N l
        pivot_true e =
            let z : circuit_of (reread l.var s c) l.var ≡ input l.var =
            circuit_of-none (reread l.var s c) l.var (given-reread l.var s c l.var ∙ sk.trees l.var ∙ not_e) in
            subst (λ t. signed l.negative (value_of t A) ≡ true) (sym z) e

        by_clause : value_of h A ≡ true → ClauseTrue N (without l C)
        by_clause e =
            let w : ClauseTrue (outcome c A1) C = sk.wins A1 C (inl refl) in
            choose w (literal_eq w.0 l) refl (literal_eq w.0 (negation l)) refl
          where
            choose : (w : ClauseTrue (outcome c A1) C) (b : Bool) → literal_eq w.0 l ≡ b → (d : Bool) →
                literal_eq w.0 (negation l) ≡ d → ClauseTrue N (without l C)
            choose w true q d r =
                absurd (pivot_false e (subst (LiteralTrue (outcome c A1)) (literal_eq-sound w.0 l q) w.2))
            choose w false q true r =
                absurd (pv.not_negated (subst (λ k. IsIn k C) (literal_eq-sound w.0 (negation l) r) w.1))
            choose w false q false r = (w.0, IsIn-without l C w.0 w.1 q, moved w.0 (grind arith) w.2)

        by_outer : value_of h A ≡ true → signed l.negative (A l.var) ≡ true → (D : Clause) → IsIn D X →
            IsIn (negation l) D → ClauseTrue N D
        by_outer e t D inX inD = choose (has l D) refl
          where
            choose : (b : Bool) → has l D ≡ b → ClauseTrue N D
            choose true q = (l, has-IsIn l D q, pivot_true t)
            choose false q =
                let w : ClauseTrue (outcome c A) (outer P (negation l) D) =
                all_of-true c A Os e (outer P (negation l) D)
                (every_outer-there P (negation l) X D inX inD) in
                let o : IsIn w.0 D × (keeps P (negation l) w.0 ≡ true) =
                IsIn-outer P (negation l) D w.0 w.1 in
                let n : literal_eq w.0 l ≡ false = other w.0 o.0 (literal_eq w.0 l) refl in
                let a : eqb w.0.var l.var ≡ false = grind arith in
                let b : outer_or_same P w.0.var l.var ≡ true = grind arith in (
                  w.0,
                  o.0,
                  moved w.0 a (ap (signed w.0.negative)
                      (outer_kept P c sk.lawful l.var pv.universal_pivot A (value_of s A) w.0.var b a) ∙ w.2),
                )
              where
                other : (k : Literal) → IsIn k D → (b : Bool) → literal_eq k l ≡ b → literal_eq k l ≡ false
                other k m true r =
                    let z : has l D ≡ true = IsIn-has l D
                    (subst (λ j. IsIn j D) (literal_eq-sound k l r) m) in absurd (grind arith)
                other k m false r = r

        by_old : value_of h A ≡ true → signed l.negative (A l.var) ≡ true → (D : Clause) → IsIn D X →
            ClauseTrue N D
        by_old e t D inX =
            let w : ClauseTrue (outcome c A1) D = sk.wins A1 D (inr inX) in
            choose w (literal_eq w.0 l) refl (literal_eq w.0 (negation l)) refl
          where
            choose : (w : ClauseTrue (outcome c A1) D) (b : Bool) → literal_eq w.0 l ≡ b → (d : Bool) →
                literal_eq w.0 (negation l) ≡ d → ClauseTrue N D
            choose w true q d r =
                absurd (pivot_false e (subst (LiteralTrue (outcome c A1)) (literal_eq-sound w.0 l q) w.2))
            choose w false q true r =
                by_outer e t D inX (subst (λ k. IsIn k D) (literal_eq-sound w.0 (negation l) r) w.1)
            choose w false q false r = (w.0, w.1, moved w.0 (grind arith) w.2)

        go : (b : Bool) → value_of h A ≡ b → (d : Bool) → signed l.negative (A l.var) ≡ d →
            MatrixTrue N (without l C ∷ X)
        go true e true t = first (by_clause e) (by_old e t)
        go true e false t =
            let z : value_of s A ≡ A l.var = lowered-kept l h A (inr t) in
            first (unchanged A z (without l C) (by_other t)) (λ D m. unchanged A z D (sk.wins A D (inr m)))
        go false e d t =
            let z : value_of s A ≡ A l.var = lowered-kept l h A (inl e) in
            first (unchanged A z (without l C) (by_implied e))
            (λ D m. unchanged A z D (sk.wins A D (inr m)))
