-- The steps of an elimination, put together.
use Rattle.std.proofs.Common.{◌≡◌, ◌++◌, ◌⊎◌, Bool, true, false, cond, [], ◌∷◌, inl, inr, refl, sym, ap, ◌∙◌, subst, true≢false}
use Rattle.q_logic.specs.Prelude.{Literal, negation, literal_eq, Clause, Matrix, Prefix, IsIn, is_existential, ExistsPivot, without, has, IsTautology, with_literal, without_literal, AllOuter, resolvent}
use Rattle.q_logic.proofs.Common.{literal_eq-itself, IsIn-append, IsIn-append_left, negation-negation, pure-pivot, SameClauses, IsIn-alike, alike-sym, alike-trans, alike-append_swap, union-IsIn, without-other, IsIn-with, IsIn-in_with, IsIn-without_literal, without_literal-swap, has-IsIn, without-IsIn}
use Rattle.q_logic.proofs.EliminateRun.{Resolves, eliminated-pivot, resolve_all-IsIn, resolve_all-in}
use Rattle.q_rule.proofs.LoopChanges.{without_literal-none}
use Rattle.q_eliminate.specs.Plans.{IsSplit, resolvents_on, others_on}
use Rattle.q_eliminate.proofs.LiteralIds.{without-same}

pub IsIn-in_without : (l : Literal) (X : Matrix) (D : Clause) → IsIn D X → (IsIn l D → ⊥) → IsIn D (without_literal l X)
IsIn-in_without l [] D m n = absurd m
IsIn-in_without l (E ∷ X) D m n = go (has l E) refl m (λ i. IsIn-in_without l X D i n)
  where
    go : (b : Bool) → has l E ≡ b → (D ≡ E) ⊎ IsIn D X → (IsIn D X → IsIn D (without_literal l X)) → IsIn D (cond b (without_literal l X) (E ∷ without_literal l X))
    go true q (inl e) ih = absurd (n (subst (λ (x : Clause). IsIn l x) (sym e) (has-IsIn l E q)))
    go true q (inr i) ih = ih i
    go false q (inl e) ih = inl e
    go false q (inr i) ih = inr (ih i)

without-append : (l : Literal) (X Y : Matrix) → without_literal l (X ++ Y) ≡ without_literal l X ++ without_literal l Y
without-append l [] Y = refl
without-append l (D ∷ X) Y = go (has l D) (without-append l X Y)
  where
    go : (b : Bool) → without_literal l (X ++ Y) ≡ without_literal l X ++ without_literal l Y → cond b (without_literal l (X ++ Y)) (D ∷ without_literal l (X ++ Y)) ≡ cond b (without_literal l X) (D ∷ without_literal l X) ++ without_literal l Y
    go true i = i
    go false i = ap (λ (Z : Matrix). D ∷ Z) i

module _ (P : Prefix) (X : Matrix) (l : Literal) (s : IsSplit P X l) (q : is_existential P l.var ≡ true) where
  both : (D : Clause) → IsIn D X → IsIn l D → IsIn (negation l) D → ⊥
  both D m i j = s.no_tautology D m (inl i) (l, i, j)

  self : (k : Literal) → literal_eq k k ≡ false → ⊥
  self k e = true≢false (sym (literal_eq-itself k) ∙ e)

  -- resolvents hold neither sign
  pub free : (U : Clause) → IsIn U (resolvents_on l X) → (IsIn l U → ⊥) × (IsIn (negation l) U → ⊥)
  free U m = go (resolve_all-IsIn l (with_literal l X) (with_literal (negation l) X) U m)
    where
      go : ((C : Clause) × (D : Clause) × IsIn C (with_literal l X) × IsIn D (with_literal (negation l) X) × (U ≡ resolvent l C D)) → (IsIn l U → ⊥) × (IsIn (negation l) U → ⊥)
      go (C, D, a, b, e) = (
        (λ i. elim (union-IsIn (without l C) (without (negation l) D) l (subst (λ (x : Clause). IsIn l x) e i)) [
          | inl c ↦ self l (without-other l C l c)
          | inr d ↦ both D (IsIn-with (negation l) X D b).0 (without-IsIn (negation l) D l d) (IsIn-with (negation l) X D b).1
        ]),
        (λ i. elim (union-IsIn (without l C) (without (negation l) D) (negation l) (subst (λ (x : Clause). IsIn (negation l) x) e i)) [
          | inl c ↦ both C (IsIn-with l X C a).0 (IsIn-with l X C a).1 (without-IsIn l C (negation l) c)
          | inr d ↦ self (negation l) (without-other (negation l) D (negation l) d)
        ]),
      )

  resolved : (C D : Clause) → IsIn C X → IsIn l C → IsIn D X → IsIn (negation l) D → IsTautology (resolvent l C D) ⊎ IsIn (resolvent l C D) (resolvents_on l X)
  resolved C D a b c d = resolve_all-in l (with_literal l X) (with_literal (negation l) X) C D (IsIn-in_with l X C a b) (IsIn-in_with (negation l) X D c d)

  -- by the negation of the literal
  by_negation : Resolves X (resolvents_on l X) (negation l)
  by_negation = record {
    resolvent_of = λ C D a b c d. (
      resolvent l D C,
      resolved D C c (subst (λ (k : Literal). IsIn k D) (negation-negation l) d) a b,
      λ k i. elim (union-IsIn (without l D) (without (negation l) C) k i) [
        | inl y ↦ inr (without-IsIn l D k y, subst (λ (j : Literal). literal_eq k j ≡ false) (sym (negation-negation l)) (without-other l D k y))
        | inr z ↦ inl (without-IsIn (negation l) C k z)
      ],
    );
    free = λ D m i. (free D m).0 (subst (λ (k : Literal). IsIn k D) (negation-negation l) i);
  }

  by_literal : Resolves X (resolvents_on l X) l
  by_literal = record {
    resolvent_of = λ C D a b c d. (
      resolvent l C D,
      resolved C D a b c d,
      λ k i. elim (union-IsIn (without l C) (without (negation l) D) k i) [
        | inl y ↦ inl (without-IsIn l C k y)
        | inr z ↦ inr (without-IsIn (negation l) D k z, without-other (negation l) D k z)
      ],
    );
    free = λ D m i. (free D m).1 i;
  }

  -- the first literal to go, whose negation is the outer sign
  resolves : (m : Literal) → (m ≡ negation l) ⊎ (m ≡ l) → Resolves X (resolvents_on l X) m
  resolves m (inl e) = subst (λ (k : Literal). Resolves X (resolvents_on l X) k) (sym e) by_negation
  resolves m (inr e) = subst (λ (k : Literal). Resolves X (resolvents_on l X) k) (sym e) by_literal

  free_of : (m : Literal) → (m ≡ negation l) ⊎ (m ≡ l) → (U : Clause) → IsIn U (resolvents_on l X) → IsIn m U → ⊥
  free_of m (inl e) U u i = (free U u).1 (subst (λ (k : Literal). IsIn k U) e i)
  free_of m (inr e) U u i = (free U u).0 (subst (λ (k : Literal). IsIn k U) e i)

  exists : (m : Literal) → (m ≡ negation l) ⊎ (m ≡ l) → is_existential P m.var ≡ true
  exists m (inl e) = subst (λ (k : Literal). is_existential P k.var ≡ true) (sym e) q
  exists m (inr e) = subst (λ (k : Literal). is_existential P k.var ≡ true) (sym e) q

  -- the clauses are those of before with the resolvents
  module _ (Y : Matrix) (a : SameClauses Y (resolvents_on l X ++ X)) (m : Literal) (g : (m ≡ negation l) ⊎ (m ≡ l)) where
    from : (D : Clause) → IsIn D Y → IsIn D (resolvents_on l X) ⊎ IsIn D X
    from D i = IsIn-append D (resolvents_on l X) X (IsIn-alike Y (resolvents_on l X ++ X) a D i)

    pub first-goes : AllOuter P (negation m) X → (C : Clause) → IsIn C Y → IsIn m C → (Z : Matrix) → ((D : Clause) → IsIn D (without_literal m Y) → IsIn D Z) → ((D : Clause) → IsIn D Z → IsIn D Y) → ExistsPivot P Z C m
    first-goes o C i j Z f h = eliminated-pivot P X (resolvents_on l X) Z C m (exists m g) o (resolves m g)
        (elim (from C i) [ inl u ↦ absurd (free_of m g C u j) | inr x ↦ x ]) j
        (λ D u. f D (IsIn-in_without m Y D (IsIn-alike (resolvents_on l X ++ X) Y (alike-sym Y (resolvents_on l X ++ X) a) D (IsIn-append_left D (resolvents_on l X) X u)) (free_of m g D u)))
        (λ D z. elim (from D (h D z)) [ inl u ↦ inr u | inr x ↦ inl x ])

    pub second-goes : (n : Literal) → n ≡ negation m → (C : Clause) → IsIn C (without_literal m Y) → IsIn n C → (Z : Matrix) → ((D : Clause) → IsIn D Z → IsIn D (without_literal m Y)) → ExistsPivot P Z C n
    second-goes n e C i j Z h = pure-pivot P Z C n j (subst (λ (k : Literal). is_existential P k.var ≡ true) (sym e) (exists m g))
        (λ D z k. (IsIn-without_literal m Y D (h D z)).1 (subst (λ (x : Literal). IsIn x D) (ap negation e ∙ negation-negation m) k))

    -- what is left
    rest : (n : Literal) → n ≡ negation m → without_literal n (without_literal m X) ≡ others_on l X
    rest n e = elim g [
      | inl f ↦ let d : n ≡ l = e ∙ (ap negation f ∙ negation-negation l) in
          ap (λ (k : Literal). without_literal k (without_literal m X)) d ∙ (ap (λ (k : Literal). without_literal l (without_literal k X)) f ∙ without_literal-swap l (negation l) X)
      | inr f ↦ let d : n ≡ negation l = e ∙ ap negation f in
          ap (λ (k : Literal). without_literal k (without_literal m X)) d ∙ ap (λ (k : Literal). without_literal (negation l) (without_literal k X)) f
    ]

    other-sign : (n : Literal) → n ≡ negation m → (n ≡ negation l) ⊎ (n ≡ l)
    other-sign n e = elim g [ inl f ↦ inr (e ∙ (ap negation f ∙ negation-negation l)) | inr f ↦ inl (e ∙ ap negation f) ]

    neither : (n : Literal) → n ≡ negation m → without_literal n (without_literal m (resolvents_on l X)) ≡ resolvents_on l X
    neither n e =
        let V = resolvents_on l X in
        let x : without_literal m V ≡ V = without_literal-none m V (λ (D, i, j). free_of m g D i j) in
        ap (without_literal n) x ∙ without_literal-none n V (λ (D, i, j). free_of n (other-sign n e) D i j)

    pub eliminated-rest : (n : Literal) → n ≡ negation m → SameClauses (others_on l X ++ resolvents_on l X) (without_literal n (without_literal m Y))
    eliminated-rest n e =
        let V = resolvents_on l X in
        let W = without_literal n (without_literal m (V ++ X)) in
        let w : W ≡ V ++ others_on l X = ap (without_literal n) (without-append m V X) ∙ (without-append n (without_literal m V) (without_literal m X) ∙ (ap (λ (Z : Matrix). Z ++ without_literal n (without_literal m X)) (neither n e) ∙ ap (λ (Z : Matrix). V ++ Z) (rest n e))) in
        alike-trans (others_on l X ++ V) W (without_literal n (without_literal m Y))
        (subst (λ (Z : Matrix). SameClauses (others_on l X ++ V) Z) (sym w) (alike-append_swap (others_on l X) V))
        (without-same n (without_literal m (V ++ X)) (without_literal m Y) (without-same m (V ++ X) Y (alike-sym Y (V ++ X) a)))
