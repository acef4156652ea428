-- Extended reduction keeps Skolem functions.
use Rattle.std.proofs.Common.{◌≡◌, ℕ, Bool, true, false, cond, not, ◌||◌, eqb, List, [], ◌∷◌, ◌⊎◌, inl, inr, arith, refl, sym, ap, ◌∙◌, subst, Option, Some, None}
use Rattle.q_logic.specs.Prelude.{Literal, negation, literal_eq, Prefix, Clause, Matrix, IsIn, is_existential, is_universal, universal_before, outer_or_same, Circuit, constant, input, conjunction, disjunction, value_of, Reads, replaced, without, has}
use Rattle.q_logic.specs.Truth.{Assignment, LiteralTrue, ClauseTrue, MatrixTrue, signed, with_value}
use Rattle.q_logic.specs.Skolems.{Strategy, circuit_of, or_input, given, outcome, Skolem}
use Rattle.q_logic.specs.Reach.{Reached, Reducible, ReachedByVariable, ReducibleByVariable}
use Rattle.q_logic.proofs.ClauseLemmas.{literal_eq-sound, circuit_of-none, has-IsIn, IsIn-has}
use Rattle.q_logic.proofs.PrefixOrder.{universal-not_existential}
use Rattle.q_logic.proofs.Propagation.{Holds-negation}
use Rattle.q_logic.proofs.TreeValues.{value_of-replaced, Reads-replaced, value_of-agree}
use Rattle.q_logic.proofs.UniversalPivot.{IsIn-without, outer_kept}

by_variable-reached : (P : Prefix) (X : Matrix) (C : Clause) (l : Literal) (D : Clause) →
    Reached P X C l D → ReachedByVariable P X C l.var D
by_variable-reached P X C l D Reached.first = ReachedByVariable.first
by_variable-reached P X C l F (Reached.next {D = D} E k inD inE e o inX n r) =
    ReachedByVariable.next E k (negation k) inD inE refl e o inX (by_variable-reached P X C l D r)

pub by_variable-reducible : (P : Prefix) (X : Matrix) (C : Clause) (l : Literal) →
    ReducibleByVariable P X C l → Reducible P X C l
by_variable-reducible P X C l h =
    record {
      universal_literal = h.universal_literal;
      in_clause = h.in_clause;
      no_negation = λ D r m. h.no_negation D (by_variable-reached P X C l D r) m;
    }

-- Whether some clause has a literal.
abbrev pub any_has : Literal → List Clause → Bool
any_has k [] = false
any_has k (D ∷ R) = has k D || any_has k R

any_has-IsIn : (k : Literal) (R : List Clause) → any_has k R ≡ true → (D : Clause) × IsIn D R × IsIn k D
any_has-IsIn k [] h = grind arith
any_has-IsIn k (D ∷ R) h = go (has k D) refl (any_has-IsIn k R)
  where
    go : (b : Bool) → has k D ≡ b → (any_has k R ≡ true → (D : Clause) × IsIn D R × IsIn k D) →
        (E : Clause) × IsIn E (D ∷ R) × IsIn k E
    go true e ih = (D, inl refl, has-IsIn k D e)
    go false e ih = let r : (D : Clause) × IsIn D R × IsIn k D = ih (grind arith) in (r.0, inr r.1, r.2)

IsIn-any_has : (k : Literal) (R : List Clause) (D : Clause) → IsIn D R → IsIn k D → any_has k R ≡ true
IsIn-any_has k [] D m n = elim m [ ]
IsIn-any_has k (E ∷ R) D (inl e) n =
    let z : has k E ≡ true = subst (λ y. has k y ≡ true) e (IsIn-has k D n) in grind arith
IsIn-any_has k (E ∷ R) D (inr m) n = let z : any_has k R ≡ true = IsIn-any_has k R D m n in grind arith

-- A tree t, where t' is what it becomes and a and b say whether the variable and its negation are in reached clauses.
abbrev pub turned : Bool → Bool → Circuit → Circuit → Circuit
turned true true t t1 = t1
turned true false t t1 = disjunction t t1
turned false true t t1 = conjunction t t1
turned false false t t1 = t

abbrev pub turn : ℕ → Circuit → Bool → Bool → Option Circuit → Option Circuit
turn u s a b None = None
turn u s a b (Some t) = Some (turned a b t (replaced u s t))

abbrev pub positive : ℕ → Literal
positive x = record { var = x; negative = false }

abbrev pub negative : ℕ → Literal
negative x = record { var = x; negative = true }

abbrev pub reduced : ℕ → Circuit → List Clause → Strategy → Strategy
reduced u s R c x = turn u s (any_has (positive x) R) (any_has (negative x) R) (c x)

-- R holds the reached clauses of X.
pub record ReachedOf (P : Prefix) (X : Matrix) (C : Clause) (l : Literal) (Y : Matrix)
    (R : List Clause) : Type 0 where
  pub each : (D : Clause) → IsIn D R → Reached P X C l D
  pub all : (D : Clause) → IsIn D Y → IsIn D R ⊎ (Reached P X C l D → ⊥)

pub some_reached : (P : Prefix) (X : Matrix) (C : Clause) (l : Literal) (Y : Matrix) →
    ((R : List Clause) → ReachedOf P X C l Y R → ⊥) → ⊥
some_reached P X C l [] stop = stop [] (record { each = λ D m. elim m [ ]; all = λ D m. elim m [ ] })
some_reached P X C l (E ∷ Y) stop = some_reached P X C l Y step
  where
    step : (R : List Clause) → ReachedOf P X C l Y R → ⊥
    step R r = stop R (record { each = r.each; all = all_of_them })
      where
        reached_not : Reached P X C l E → ⊥
        reached_not h =
            stop (E ∷ R) (record {
              each = λ D m. elim m [
                | inl e ↦ subst (Reached P X C l) (sym e) h
                | inr q ↦ r.each D q
              ];
              all = λ D m. elim m [
                | inl e ↦ inl (inl e)
                | inr q ↦ elim (r.all D q) [ inl p ↦ inl (inr p) | inr p ↦ inr p ]
              ];
            })

        all_of_them : (D : Clause) → IsIn D (E ∷ Y) → IsIn D R ⊎ (Reached P X C l D → ⊥)
        all_of_them D (inl e) = inr (subst (λ z. Reached P X C l z → ⊥) (sym e) reached_not)
        all_of_them D (inr q) = r.all D q

-- How a literal fares under the turned tree: v is the former value, w the one under l false, a and b as above.
turned_value : (n a b : Bool) (t t1 : Circuit) (A : Assignment) →
    signed n (value_of t A) ≡ signed n (value_of t1 A) →
    signed n (value_of (turned a b t t1) A) ≡ signed n (value_of t A)
turned_value true true true t t1 A e = grind arith
turned_value true true false t t1 A e = grind arith
turned_value true false true t t1 A e = grind arith
turned_value false true true t t1 A e = grind arith
turned_value false true false t t1 A e = grind arith
turned_value false false true t t1 A e = grind arith
turned_value n false false t t1 A e = refl

reached_value : (n a b : Bool) (t t1 : Circuit) (A : Assignment) → cond n b a ≡ true →
    signed n (value_of t1 A) ≡ true → signed n (value_of (turned a b t t1) A) ≡ true
reached_value true true true t t1 A e h = h
reached_value true false true t t1 A e h = grind arith
reached_value false true true t t1 A e h = h
reached_value false true false t t1 A e h = grind arith
reached_value true a false t t1 A e h = grind arith
reached_value false false b t t1 A e h = grind arith

unreached_value : (n a b : Bool) (t t1 : Circuit) (A : Assignment) → cond n a b ≡ false →
    signed n (value_of t A) ≡ true → signed n (value_of (turned a b t t1) A) ≡ true
unreached_value true false true t t1 A e h = grind arith
unreached_value n false false t t1 A e h = h
unreached_value false true false t t1 A e h = grind arith
unreached_value true true b t t1 A e h = grind arith
unreached_value false a true t t1 A e h = grind arith

module _ (P : Prefix) (X : Matrix) (c : Strategy) (sk : Skolem P X c) (l : Literal)
    (hu : is_universal P l.var ≡ true) (R : List Clause) where
  s : Circuit
  s = constant l.negative

  new : Strategy
  new = reduced l.var s R c

  new_circuit : (x : ℕ) → is_existential P x ≡ true →
      circuit_of new x ≡ turned (any_has (positive x) R) (any_has (negative x) R) (circuit_of c x)
      (replaced l.var s (circuit_of c x))
  unfolding new
  new_circuit x e = go (c x) (sk.trees x ∙ e)
    where
      go : (o : Option Circuit) → given o ≡ true →
          or_input x (turn l.var s (any_has (positive x) R) (any_has (negative x) R) o) ≡
          turned (any_has (positive x) R) (any_has (negative x) R) (or_input x o)
          (replaced l.var s (or_input x o))
      go None g = absurd (grind arith)
      go (Some t) g = refl

  new_given : (x : ℕ) → given (new x) ≡ given (c x)
  unfolding new
  new_given x = go (c x)
    where
      go : (o : Option Circuit) → given (turn l.var s (any_has (positive x) R) (any_has (negative x) R) o) ≡
          given o
      go None = refl
      go (Some t) = refl

  new_input : (x : ℕ) → is_existential P x ≡ false → circuit_of new x ≡ input x
  new_input x e = circuit_of-none new x (new_given x ∙ sk.trees x ∙ e)

  old_input : (x : ℕ) → is_existential P x ≡ false → circuit_of c x ≡ input x
  old_input x e = circuit_of-none c x (sk.trees x ∙ e)

  new_reads : (x : ℕ) → is_existential P x ≡ true → (u : ℕ) → Reads (circuit_of new x) u →
      universal_before P u x ≡ true
  unfolding s
  new_reads x e u r =
      go (any_has (positive x) R) (any_has (negative x) R) (subst (λ t. Reads t u) (new_circuit x e) r)
    where
      in_new : Reads (replaced l.var s (circuit_of c x)) u → universal_before P u x ≡ true
      in_new q =
          elim (Reads-replaced l.var s (circuit_of c x) u q) [
            | inl p ↦ sk.reads x e u p.0
            | inr p ↦ elim p.1 [ ]
          ]

      go : (a b : Bool) → Reads (turned a b (circuit_of c x) (replaced l.var s (circuit_of c x))) u →
          universal_before P u x ≡ true
      go true true q = in_new q
      go true false (inl q) = sk.reads x e u q
      go true false (inr q) = in_new q
      go false true (inl q) = sk.reads x e u q
      go false true (inr q) = in_new q
      go false false q = sk.reads x e u q

  module _ (A : Assignment) where
    A1 : Assignment
    A1 = with_value A l.var l.negative

    new_value : (x : ℕ) → value_of (replaced l.var s (circuit_of c x)) A ≡ outcome c A1 x
    unfolding s A1
    new_value x = value_of-replaced l.var s (circuit_of c x) A

    -- A literal whose outcome does not depend on l keeps it.
    kept_same : (k : Literal) → is_existential P k.var ≡ true → outcome c A1 k.var ≡ outcome c A k.var →
        LiteralTrue (outcome c A) k → LiteralTrue (outcome new A) k
    kept_same k e q h =
        let z : signed k.negative (outcome c A k.var) ≡
        signed k.negative (value_of (replaced l.var s (circuit_of c k.var)) A) =
        ap (signed k.negative) (sym (new_value k.var ∙ q)) in
        ap (λ t. signed k.negative (value_of t A)) (new_circuit k.var e) ∙
        (turned_value k.negative (any_has (positive k.var) R) (any_has (negative k.var) R)
        (circuit_of c k.var) (replaced l.var s (circuit_of c k.var)) A z ∙ h)

    kept_input : (k : Literal) → is_existential P k.var ≡ false → LiteralTrue A k →
        LiteralTrue (outcome new A) k
    kept_input k e h = subst (λ t. signed k.negative (value_of t A) ≡ true) (sym (new_input k.var e)) h

    kept_reached : (k : Literal) → eqb k.var l.var ≡ false →
        (is_existential P k.var ≡ true → outer_or_same P k.var l.var ≡ false → any_has k R ≡ true) →
        LiteralTrue (outcome c A1) k → LiteralTrue (outcome new A) k
    unfolding A1
    kept_reached k n r h = choose (is_existential P k.var) refl (outer_or_same P k.var l.var) refl
      where
        own : (m : Bool) → any_has (record { var = k.var; negative = m }) R ≡ true →
            cond m (any_has (negative k.var) R) (any_has (positive k.var) R) ≡ true
        own true q = q
        own false q = q

        choose : (b : Bool) → is_existential P k.var ≡ b → (o : Bool) → outer_or_same P k.var l.var ≡ o →
            LiteralTrue (outcome new A) k
        choose false e o p =
            kept_input k e (let z : LiteralTrue A1 k =
            subst (λ t. signed k.negative (value_of t A1) ≡ true) (old_input k.var e) h in
            subst (λ b. signed k.negative (cond b l.negative (A k.var)) ≡ true) n z)
        choose true e true p =
            let q : outcome c A1 k.var ≡ outcome c A k.var =
            outer_kept P c sk.lawful l.var hu A l.negative k.var p n in
            kept_same k e q (ap (signed k.negative) (sym q) ∙ h)
        choose true e false p =
            ap (λ t. signed k.negative (value_of t A)) (new_circuit k.var e) ∙
            reached_value k.negative (any_has (positive k.var) R) (any_has (negative k.var) R)
            (circuit_of c k.var) (replaced l.var s (circuit_of c k.var)) A (own k.negative (r e p))
            (ap (signed k.negative) (new_value k.var) ∙ h)

    kept_unreached : (k : Literal) → eqb k.var l.var ≡ false →
        (is_existential P k.var ≡ true → outer_or_same P k.var l.var ≡ false →
        any_has (negation k) R ≡ false) → LiteralTrue (outcome c A) k → LiteralTrue (outcome new A) k
    unfolding A1
    kept_unreached k n r h = choose (is_existential P k.var) refl (outer_or_same P k.var l.var) refl
      where
        own : (m : Bool) → any_has (record { var = k.var; negative = not m }) R ≡ false →
            cond m (any_has (positive k.var) R) (any_has (negative k.var) R) ≡ false
        own true q = q
        own false q = q

        choose : (b : Bool) → is_existential P k.var ≡ b → (o : Bool) → outer_or_same P k.var l.var ≡ o →
            LiteralTrue (outcome new A) k
        choose false e o p =
            kept_input k e (subst (λ t. signed k.negative (value_of t A) ≡ true) (old_input k.var e) h)
        choose true e true p = kept_same k e (outer_kept P c sk.lawful l.var hu A l.negative k.var p n) h
        choose true e false p =
            ap (λ t. signed k.negative (value_of t A)) (new_circuit k.var e) ∙
            unreached_value k.negative (any_has (positive k.var) R) (any_has (negative k.var) R)
            (circuit_of c k.var) (replaced l.var s (circuit_of c k.var)) A (own k.negative (r e p)) h

    -- Where l is false already, all outcomes stay.
    kept_all : A l.var ≡ l.negative → (k : Literal) → LiteralTrue (outcome c A) k →
        LiteralTrue (outcome new A) k
    unfolding A1
    kept_all e k h = choose (is_existential P k.var) refl
      where
        A1_A : (w : ℕ) → A1 w ≡ A w
        A1_A w = cases (eqb w l.var) refl
          where
            cases : (b : Bool) → eqb w l.var ≡ b → cond b l.negative (A w) ≡ A w
            cases true q = let z : w ≡ l.var = grind arith in rw z (sym e)
            cases false q = refl

        choose : (b : Bool) → is_existential P k.var ≡ b → LiteralTrue (outcome new A) k
        choose true d = kept_same k d (value_of-agree (circuit_of c k.var) A1 A (λ w r. A1_A w)) h
        choose false d =
            kept_input k d (subst (λ t. signed k.negative (value_of t A) ≡ true) (old_input k.var d) h)

pub reduction-keeps : (P : Prefix) (X : Matrix) (C : Clause) (l : Literal) (R : List Clause)
    (c : Strategy) → Reducible P X C l → ReachedOf P X C l X R → (sk : Skolem P (C ∷ X) c) →
    Skolem P (without l C ∷ X) (reduced l.var (constant l.negative) (C ∷ R) c)
unfolding s new A1
reduction-keeps P X C l R c rd re sk =
    record {
      lawful = record {
        trees = λ x. new_given P (C ∷ X) c sk l hu (C ∷ R) x ∙
            sk.trees x;
        reads = new_reads P (C ∷ X) c sk l hu (C ∷ R);
      };
      wins = winning;
    }
  where
    hu : is_universal P l.var ≡ true
    hu = rd.universal_literal

    winning : (A : Assignment) → MatrixTrue (outcome (reduced l.var (constant l.negative) (C ∷ R) c) A)
        (without l C ∷ X)
    winning A = go (signed l.negative (A l.var)) refl
      where
        L : Strategy
        L = reduced l.var (constant l.negative) (C ∷ R) c

        N : Assignment
        N = outcome L A

        B : Assignment
        B = with_value A l.var l.negative

        not_e : is_existential P l.var ≡ false
        not_e = universal-not_existential P l.var hu

        at_pivot : (E : Assignment) → outcome c E l.var ≡ E l.var
        at_pivot E = rw (circuit_of-none c l.var (sk.trees l.var ∙ not_e)) refl

        first_and : ClauseTrue N (without l C) → ((D : Clause) → IsIn D X → ClauseTrue N D) →
            MatrixTrue N (without l C ∷ X)
        first_and a b D (inl e) = subst (ClauseTrue N) (sym e) a
        first_and a b D (inr m) = b D m

        all_reached : (D : Clause) → IsIn D (C ∷ R) → Reached P X C l D
        all_reached D (inl e) = subst (Reached P X C l) (sym e) Reached.first
        all_reached D (inr m) = re.each D m

        false_there : LiteralTrue (outcome c B) l → ⊥
        false_there h =
            let y : eqb l.var l.var ≡ true = grind arith in
            let z : signed l.negative l.negative ≡ true =
            sym (ap (signed l.negative) (at_pivot B ∙ ap (λ b. cond b l.negative (A l.var)) y)) ∙ h in
            cases l.negative z
          where
            cases : (n : Bool) → signed n n ≡ true → ⊥
            cases true z = grind arith
            cases false z = grind arith

        -- A clause of which each reached literal is known, by a literal that is true under l false.
        by_reached : (D : Clause) → IsIn D (C ∷ R) → (w : ClauseTrue (outcome c B) D) →
            (literal_eq w.0 l ≡ false) × LiteralTrue N w.0
        by_reached D m w = choose (literal_eq w.0 l) refl (literal_eq w.0 (negation l)) refl
          where
            choose : (b : Bool) → literal_eq w.0 l ≡ b → (d : Bool) → literal_eq w.0 (negation l) ≡ d →
                (literal_eq w.0 l ≡ false) × LiteralTrue N w.0
            choose true q d r =
                absurd (false_there (subst (LiteralTrue (outcome c B)) (literal_eq-sound w.0 l q) w.2))
            choose false q true r =
                absurd (rd.no_negation D (all_reached D m)
                (subst (λ k. IsIn k D) (literal_eq-sound w.0 (negation l) r) w.1))
            choose false q false r = (
              q,
              kept_reached P (C ∷ X) c sk l hu (C ∷ R) A w.0 (grind arith)
                  (λ e o. IsIn-any_has w.0 (C ∷ R) D m w.1) w.2,
            )

        true_here : signed l.negative (A l.var) ≡ true → LiteralTrue N l
        true_here t = kept_input P (C ∷ X) c sk l hu (C ∷ R) A l not_e t

        twice : (k : Literal) → negation (negation k) ≡ k
        twice k = λ i. record { var = k.var; negative = back k.negative i }
          where
            back : (n : Bool) → not (not n) ≡ n
            back true = refl
            back false = refl

        unreached : (D : Clause) → IsIn D X → has l D ≡ false → (Reached P X C l D → ⊥) → (k : Literal) →
            IsIn k D → is_existential P k.var ≡ true → outer_or_same P k.var l.var ≡ false →
            any_has (negation k) (C ∷ R) ≡ false
        unreached D inX nl nr k inD e o = choose (any_has (negation k) (C ∷ R)) refl
          where
            choose : (b : Bool) → any_has (negation k) (C ∷ R) ≡ b → any_has (negation k) (C ∷ R) ≡ false
            choose false q = q
            choose true q =
                let y : (E : Clause) × IsIn E (C ∷ R) × IsIn (negation k) E =
                any_has-IsIn (negation k) (C ∷ R) q in
                absurd (nr (Reached.next D (negation k) y.2
                (subst (λ j. IsIn j D) (sym (twice k)) inD) e o inX (λ m. let z : has l D ≡ true =
                IsIn-has l D m in grind arith) (all_reached y.0 y.1)))

        by_unreached : signed l.negative (A l.var) ≡ true → (D : Clause) → IsIn D X → has l D ≡ false →
            (Reached P X C l D → ⊥) → ClauseTrue N D
        by_unreached t D inX nl nr =
            let w : ClauseTrue (outcome c A) D = sk.wins A D (inr inX) in
            choose w (literal_eq w.0 l) refl (literal_eq w.0 (negation l)) refl
          where
            choose : (w : ClauseTrue (outcome c A) D) (b : Bool) → literal_eq w.0 l ≡ b → (d : Bool) →
                literal_eq w.0 (negation l) ≡ d → ClauseTrue N D
            choose w true q d r =
                let z : has l D ≡ true = IsIn-has l D
                (subst (λ j. IsIn j D) (literal_eq-sound w.0 l q) w.1) in absurd (grind arith)
            choose w false q true r =
                absurd (Holds-negation (outcome c A) l (ap (signed l.negative) (at_pivot A) ∙
                t) (subst (LiteralTrue (outcome c A)) (literal_eq-sound w.0 (negation l) r) w.2))
            choose w false q false r = (
              w.0,
              w.1,
              kept_unreached P (C ∷ X) c sk l hu (C ∷ R) A w.0 (grind arith)
                  (unreached D inX nl nr w.0 w.1) w.2,
            )

        by_old : signed l.negative (A l.var) ≡ true → (D : Clause) → IsIn D X → ClauseTrue N D
        by_old t D inX = choose (has l D) refl
          where
            choose : (b : Bool) → has l D ≡ b → ClauseTrue N D
            choose true q = (l, has-IsIn l D q, true_here t)
            choose false q =
                elim (re.all D inX) [
                  | inl m ↦ (let w : ClauseTrue (outcome c B) D = sk.wins B D (inr inX) in
                      (w.0, w.1, (by_reached D (inr m) w).1))
                  | inr n ↦ by_unreached t D inX q n
                ]

        by_clause : ClauseTrue N (without l C)
        by_clause =
            let w : ClauseTrue (outcome c B) C = sk.wins B C (inl refl) in
            let r : (literal_eq w.0 l ≡ false) × LiteralTrue N w.0 = by_reached C (inl refl) w in
            (w.0, IsIn-without l C w.0 w.1 r.0, r.1)

        go : (d : Bool) → signed l.negative (A l.var) ≡ d → MatrixTrue N (without l C ∷ X)
        go true t = first_and by_clause (by_old t)
        go false t =
            first_and first_stays (λ D m. let w : ClauseTrue (outcome c A) D = sk.wins A D (inr m) in
            (w.0, w.1, stays w.0 w.2))
          where
            is_false : (n b : Bool) → signed n b ≡ false → b ≡ n
            is_false true true h = refl
            is_false true false h = grind arith
            is_false false true h = grind arith
            is_false false false h = refl

            stays : (k : Literal) → LiteralTrue (outcome c A) k → LiteralTrue N k
            stays = kept_all P (C ∷ X) c sk l hu (C ∷ R) A (is_false l.negative (A l.var) t)

            first_stays : ClauseTrue N (without l C)
            first_stays =
                let w : ClauseTrue (outcome c A) C = sk.wins A C (inl refl) in
                choose w (literal_eq w.0 l) refl
              where
                choose : (w : ClauseTrue (outcome c A) C) (b : Bool) → literal_eq w.0 l ≡ b →
                    ClauseTrue N (without l C)
                choose w true q =
                    let z : signed l.negative (A l.var) ≡ true = sym (ap (signed l.negative) (at_pivot A)) ∙
                    subst (LiteralTrue (outcome c A)) (literal_eq-sound w.0 l q) w.2 in absurd (grind arith)
                choose w false q = (w.0, IsIn-without l C w.0 w.1 q, stays w.0 w.2)

-- A closed list of clauses holds each reached one.
pub record ClosedReach (P : Prefix) (X : Matrix) (C : Clause) (l : Literal) (R : List Clause) : Type 0 where
  pub has_first : IsIn C R
  pub step : (D E : Clause) (k : Literal) → IsIn D R → IsIn E X → IsIn k D → IsIn (negation k) E →
      is_existential P k.var ≡ true → outer_or_same P k.var l.var ≡ false → (IsIn l E → ⊥) → IsIn E R

pub reached-in : (P : Prefix) (X : Matrix) (C : Clause) (l : Literal) (R : List Clause) →
    ClosedReach P X C l R → (D : Clause) → Reached P X C l D → IsIn D R
reached-in P X C l R h D Reached.first = h.has_first
reached-in P X C l R h F (Reached.next {D = D} E k inD inE e o inX n r) =
    h.step D E k (reached-in P X C l R h D r) inX inD inE e o n
