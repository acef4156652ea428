-- Additions by a pivot and drops by a universal pivot carry Herbrand functions over.
use Rattle.std.proofs.Common.{◌≡◌, ℕ, Bool, true, false, cond, not, eqb, List, ◌∷◌, ◌++◌, ◌⊎◌, inl, inr, arith, refl, sym, ap, ◌∙◌, subst}
use Rattle.q_logic.specs.Prelude.{Literal, negation, literal_eq, Prefix, Clause, Matrix, IsIn, is_existential, is_universal, outer_or_same, Assignment, LiteralTrue, ClauseTrue, signed, with_value, Circuit, input, inverter, conjunction, disjunction, value_of, Strategy, reread, outcome, keeps, outer, ExistsPivot, ForallPivot, without, all_of, pivoted}
use Rattle.q_logic.specs.Herbrands.{MatrixFalse, LawfulHerbrand, Herbrand}
use Rattle.q_logic.specs.Reversals.{lifted}
use Rattle.q_logic.specs.Exchanging.{exchanged}
use Rattle.q_logic.proofs.ClauseLemmas.{literal_eq-sound, IsIn-append, IsIn-outer, all_of-true, all_of-false, circuit_of-none}
use Rattle.q_logic.proofs.PrefixOrder.{universal-not_existential}
use Rattle.q_logic.proofs.Pivot.{Near, AreOuters, outers-near, play-other, play-false, play-pivot, pivot-lawful}
use Rattle.q_logic.proofs.Propagation.{implied-true, Holds-negation}
use Rattle.q_logic.proofs.UniversalPivot.{IsIn-without, lowered, lowered-kept, lowered-false, outcome-reread, outcome-same, outer_kept, reread-lawful}
use Rattle.q_logic.proofs.Exchanged.{exchanged-existential, exchanged-universal, exchanged-outer, lawful-exchanged, exchanged-lawful}
use Rattle.q_logic.proofs.Falsity.{matrix_either, MatrixFalse-agree}

pub lifted-lowered : (l : Literal) (h : Circuit) → lifted l h ≡ lowered (negation l) h
lifted-lowered l h = go l.negative
  where
    go : (n : Bool) → cond n (conjunction (input l.var) (inverter h)) (disjunction (input l.var) h) ≡
        cond (not n) (disjunction (input l.var) h) (conjunction (input l.var) (inverter h))
    go true = refl
    go false = refl

near-exchanged : (P : Prefix) (v : ℕ) (Os : List Clause) → Near P v Os → Near (exchanged P) v Os
near-exchanged P v Os near O inOs k inO = exchanged-outer P k.var v ∙ near O inOs k inO

-- Of one variable there are two literals.
pub one_of-two : (k l : Literal) → eqb k.var l.var ≡ true → (k ≡ l) ⊎ (k ≡ negation l)
one_of-two k l q = go (literal_eq k l) refl
  where
    go : (b : Bool) → literal_eq k l ≡ b → (k ≡ l) ⊎ (k ≡ negation l)
    go true e = inl (literal_eq-sound k l e)
    go false e = inr (literal_eq-sound k (negation l) (grind arith))

opposite-true : (n b : Bool) → signed (not n) b ≡ false → signed n b ≡ true
opposite-true true true h = grind arith
opposite-true true false h = grind arith
opposite-true false true h = grind arith
opposite-true false false h = grind arith

-- A literal whose variable has one value under both.
pub literal-same : (M N : Assignment) (k : Literal) → N k.var ≡ M k.var → LiteralTrue N k → LiteralTrue M k
literal-same M N k e t = ap (signed k.negative) (sym e) ∙ t

pub added-lawful : (P : Prefix) (l : Literal) (Os : List Clause) (c : Strategy) →
    is_existential P l.var ≡ true → Near P l.var Os → LawfulHerbrand P c →
    LawfulHerbrand P (reread l.var (lifted l (all_of c Os)) c)
added-lawful P l Os c he near h =
    subst (λ s. LawfulHerbrand P (reread l.var s c)) (sym (lifted-lowered l (all_of c Os)))
    (exchanged-lawful P (reread l.var (lowered (negation l) (all_of c Os)) c)
    (reread-lawful (exchanged P) (negation l) Os c (exchanged-universal P l.var ∙ he)
    (near-exchanged P l.var Os near) (lawful-exchanged P c h)))

pub added-carries : (P : Prefix) (X : Matrix) (C : Clause) (l : Literal) (Os : List Clause) (c : Strategy) →
    ExistsPivot P X C l → AreOuters P X (negation l) Os → Herbrand P (C ∷ X) c →
    Herbrand P X (reread l.var (lifted l (all_of c Os)) c)
added-carries P X C l Os c pv os h =
    record {
      lawful = added-lawful P l Os c pv.existential_pivot (outers-near P X (negation l) Os os) h.lawful;
      loses = λ A. subst (λ s. MatrixFalse (outcome (reread l.var s c) A) X)
          (sym (lifted-lowered l (all_of c Os))) (losing A);
    }
  where
    E : Prefix
    E = exchanged P

    s : Circuit
    s = lowered (negation l) (all_of c Os)

    losing : (A : Assignment) → MatrixFalse (outcome (reread l.var s c) A) X
    losing A = go (value_of (all_of c Os) A) refl
      where
        M : Assignment
        M = outcome c A

        N : Assignment
        N = outcome (reread l.var s c) A

        A1 : Assignment
        A1 = with_value A l.var (value_of s A)

        N1 : Assignment
        N1 = outcome c A1

        kept : value_of (all_of c Os) A ≡ false → MatrixFalse M X
        kept e = first (h.loses A)
          where
            by_implied : (ClauseTrue M C → ⊥) → MatrixFalse M X
            by_implied f =
                let o : (O : Clause) × IsIn O Os × (ClauseTrue M O → ⊥) = all_of-false c A Os e in
                let d : (D : Clause) × IsIn D X × IsIn (negation l) D × (o.0 ≡ outer P (negation l) D) =
                os.no_other o.0 o.1 in
                elim (matrix_either M X) [
                  | inl t ↦ absurd (none o.0 d.0 o.2 d.3 (implied-true M X (C ++ outer P (negation l) d.0)
                      (pv.implied d.0 d.1 d.2) t))
                  | inr g ↦ g
                ]
              where
                none : (O D : Clause) → (ClauseTrue M O → ⊥) → O ≡ outer P (negation l) D →
                    ClauseTrue M (C ++ outer P (negation l) D) → ⊥
                none O D g q w =
                    elim (IsIn-append w.0 C (outer P (negation l) D) w.1) [
                      | inl m ↦ f (w.0, m, w.2)
                      | inr m ↦ g (w.0, subst (IsIn w.0) (sym q) m, w.2)
                    ]

            first : MatrixFalse M (C ∷ X) → MatrixFalse M X
            first (D, inl q, f) = by_implied (subst (λ D. ClauseTrue M D → ⊥) q f)
            first (D, inr m, f) = (D, m, f)

        -- the pivot is true where the circuits are taken
        pivot_true : value_of (all_of c Os) A ≡ true → LiteralTrue N1 l
        pivot_true e =
            let not_u : is_existential E l.var ≡ false =
            universal-not_existential E l.var (exchanged-universal P l.var ∙ pv.existential_pivot) in
            let at : N1 l.var ≡ value_of s A =
            rw (circuit_of-none c l.var (h.lawful.trees l.var ∙ (sym (exchanged-existential P l.var) ∙ not_u)))
            (there (value_of s A)) in
            ap (signed l.negative) at ∙ opposite-true l.negative (value_of s A) (lowered-false (negation l) (all_of c Os) A e)
          where
            there : (b : Bool) → with_value A l.var b l.var ≡ b
            there b = let z : eqb l.var l.var ≡ true = grind arith in rw z refl

        changed : value_of (all_of c Os) A ≡ true → MatrixFalse N X
        changed e = first (h.loses A1)
          where
            first : MatrixFalse N1 (C ∷ X) → MatrixFalse N X
            first (D, inl q, f) =
                absurd (subst (λ D. ClauseTrue N1 D → ⊥) q f (l, pv.in_clause, pivot_true e))
            first (D, inr m, f) = (D, m, λ w. still w)
              where
                no_pivot : IsIn l D → ⊥
                no_pivot i = f (l, i, pivot_true e)

                by_outer : IsIn (negation l) D → ⊥
                by_outer i =
                    let w : ClauseTrue M (outer P (negation l) D) =
                    all_of-true c A Os e (outer P (negation l) D) (os.all_there D m i) in
                    let o : IsIn w.0 D × (keeps P (negation l) w.0 ≡ true) = IsIn-outer P (negation l) D w.0 w.1 in
                    other w.0 o.0 (grind arith) (grind arith) w.2
                  where
                    other : (k : Literal) → IsIn k D → literal_eq k (negation l) ≡ false →
                        outer_or_same P k.var l.var ≡ true → LiteralTrue M k → ⊥
                    other k i n o t = at (eqb k.var l.var) refl
                      where
                        at : (b : Bool) → eqb k.var l.var ≡ b → ⊥
                        at true q = elim (one_of-two k l q) [
                          | inl z ↦ no_pivot (subst (λ j. IsIn j D) z i)
                          | inr z ↦ differs (subst (λ j. literal_eq j (negation l) ≡ false) z n)
                        ]
                          where
                            differs : literal_eq (negation l) (negation l) ≡ false → ⊥
                            differs y = grind arith
                        at false q =
                            f (
                              k,
                              i,
                              ap (signed k.negative) (outer_kept E c (lawful-exchanged P c h.lawful) l.var
                                  (exchanged-universal P l.var ∙ pv.existential_pivot) A (value_of s A) k.var
                                  (exchanged-outer P k.var l.var ∙ o) q) ∙ t,
                            )

                still : ClauseTrue N D → ⊥
                still (k, i, t) = at (eqb k.var l.var) refl
                  where
                    at : (b : Bool) → eqb k.var l.var ≡ b → ⊥
                    at true q = elim (one_of-two k l q) [
                      | inl z ↦ no_pivot (subst (λ j. IsIn j D) z i)
                      | inr z ↦ by_outer (subst (λ j. IsIn j D) z i)
                    ]
                    at false q = f (k, i, literal-same N1 N k (outcome-reread l.var s c A k.var q) t)

        go : (b : Bool) → value_of (all_of c Os) A ≡ b → MatrixFalse N X
        go true e = changed e
        go false e =
            MatrixFalse-agree M N X (λ x. sym (outcome-same l.var s c A
            (lowered-kept (negation l) (all_of c Os) A (inl e)) x)) (kept e)

pub turned-lawful : (P : Prefix) (l : Literal) (Os : List Clause) (c : Strategy) →
    is_universal P l.var ≡ true → Near P l.var Os → LawfulHerbrand P c →
    LawfulHerbrand P (pivoted (negation l) Os c)
turned-lawful P l Os c hu near h =
    exchanged-lawful P (pivoted (negation l) Os c)
    (pivot-lawful (exchanged P) (negation l) Os c (exchanged-existential P l.var ∙ hu)
    (near-exchanged P l.var Os near) (lawful-exchanged P c h))

pub turned-carries : (P : Prefix) (Y : Matrix) (C : Clause) (l : Literal) (Os : List Clause) (c : Strategy) →
    ForallPivot P Y C l → AreOuters P Y (negation l) Os → Herbrand P (without l C ∷ Y) c →
    Herbrand P (C ∷ Y) (pivoted (negation l) Os c)
turned-carries P Y C l Os c pv os h =
    record {
      lawful = turned-lawful P l Os c pv.universal_pivot (outers-near P Y (negation l) Os os) h.lawful;
      loses = losing;
    }
  where
    losing : (A : Assignment) → MatrixFalse (outcome (pivoted (negation l) Os c) A) (C ∷ Y)
    losing A = go (value_of (all_of c Os) A) refl
      where
        M : Assignment
        M = outcome c A

        N : Assignment
        N = outcome (pivoted (negation l) Os c) A

        kept : value_of (all_of c Os) A ≡ false → MatrixFalse M (C ∷ Y)
        kept e = first (h.loses A)
          where
            by_implied : (ClauseTrue M (without l C) → ⊥) → MatrixFalse M Y
            by_implied f =
                let o : (O : Clause) × IsIn O Os × (ClauseTrue M O → ⊥) = all_of-false c A Os e in
                let d : (D : Clause) × IsIn D Y × IsIn (negation l) D × (o.0 ≡ outer P (negation l) D) =
                os.no_other o.0 o.1 in
                elim (matrix_either M Y) [
                  | inl t ↦ absurd (none o.0 d.0 o.2 d.3 (implied-true M Y (without l C ++ outer P (negation l) d.0)
                      (pv.implied d.0 d.1 d.2) t))
                  | inr g ↦ g
                ]
              where
                none : (O D : Clause) → (ClauseTrue M O → ⊥) → O ≡ outer P (negation l) D →
                    ClauseTrue M (without l C ++ outer P (negation l) D) → ⊥
                none O D g q w =
                    elim (IsIn-append w.0 (without l C) (outer P (negation l) D) w.1) [
                      | inl m ↦ f (w.0, m, w.2)
                      | inr m ↦ g (w.0, subst (IsIn w.0) (sym q) m, w.2)
                    ]

            first : MatrixFalse M (without l C ∷ Y) → MatrixFalse M (C ∷ Y)
            first (D, inl q, f) =
                let g : MatrixFalse M Y = by_implied (subst (λ D. ClauseTrue M D → ⊥) q f) in (g.0, inr g.1, g.2)
            first (D, inr m, f) = (D, inr m, f)

        changed : value_of (all_of c Os) A ≡ true → MatrixFalse N (C ∷ Y)
        changed e = first (h.loses A)
          where
            negated_true : LiteralTrue N (negation l)
            negated_true =
                play-pivot (negation l) Os c A (h.lawful.trees l.var ∙ pv.universal_pivot) (inl e)

            -- a clause without the negation of l is as false as its other literals
            still : (D S : Clause) → (IsIn (negation l) D → ⊥) → ((k : Literal) → IsIn k D → literal_eq k l ≡ false → IsIn k S) →
                (ClauseTrue M S → ⊥) → ClauseTrue N D → ⊥
            still D S n sub f (k, i, t) = at (eqb k.var l.var) refl
              where
                at : (b : Bool) → eqb k.var l.var ≡ b → ⊥
                at true q = elim (one_of-two k l q) [
                  | inl z ↦ Holds-negation N l (subst (LiteralTrue N) z t) negated_true
                  | inr z ↦ n (subst (λ j. IsIn j D) z i)
                ]
                at false q =
                    f (k, sub k i (grind arith), literal-same M N k (play-other (negation l) Os c A k.var q) t)

            first : MatrixFalse M (without l C ∷ Y) → MatrixFalse N (C ∷ Y)
            first (D, inl q, f) = (
              C,
              inl refl,
              still C (without l C) pv.not_negated (λ k i n. IsIn-without l C k i n)
                  (subst (λ D. ClauseTrue M D → ⊥) q f),
            )
            first (D, inr m, f) = (D, inr m, still D D no_negation (λ k i n. i) f)
              where
                no_negation : IsIn (negation l) D → ⊥
                no_negation i =
                    let w : ClauseTrue M (outer P (negation l) D) =
                    all_of-true c A Os e (outer P (negation l) D) (os.all_there D m i) in
                    let o : IsIn w.0 D × (keeps P (negation l) w.0 ≡ true) = IsIn-outer P (negation l) D w.0 w.1 in
                    f (w.0, o.0, w.2)

        go : (b : Bool) → value_of (all_of c Os) A ≡ b → MatrixFalse N (C ∷ Y)
        go true e = changed e
        go false e =
            MatrixFalse-agree M N (C ∷ Y) (λ x. sym (play-false (negation l) Os c A e x)) (kept e)
