-- The reversals of a run, step by step.
use Rattle.std.proofs.Common.{◌≡◌, true, false, List, [], ◌∷◌, ◌++◌, Option, Some, None, map, inl, inr, refl, sym, ap, ◌∙◌, subst, append-nil, append_assoc}
use Rattle.q_logic.specs.Prelude.{Literal, negation, Clause, Matrix, Prefix, PrenexFormula, standard, formula_of, is_bound, Implied, ProofStep, add, delete, drop_literal, fresh, remove_variable, one_less, IsWarranted, Valid, after, ValidSteps, AreAlike}
use Rattle.q_logic.specs.Reversals.{Reversal, IsExtended, Reversed, Reversals}
use Rattle.q_logic.proofs.Common.{implied-within, forall_pivot-within, outers-same, alike_swapped, alike_through, alike_valid, alike_after, existential-is_bound, SameClauses, IsIn-alike, alike-sym, valid_more}
use Rattle.q_logic.proofs.ClauseCounts.{one_less-same}
use Rattle.q_logic.proofs.AlikeFormulas.{less-within}
use Rattle.q_herbrand.specs.declared.reversal.Reversal.{Reversal as Entry}
use Rattle.q_herbrand.specs.Entries.{entry_of, entries_of}
use Rattle.q_refutation.specs.Refutations.{MayBeMade, AreMade}
use Rattle.q_refutation.proofs.FirstEmpty.{alike_may}
use Rattle.q_herbrand.specs.Trails.{Trailed, HasGrownBy, HasMade, HasNoted}
use Rattle.q_herbrand.proofs.MadeSteps.{made_more, valid-all_made}

-- The entry of an addition.
pub warranted-pivot : (P : Prefix) (X : Matrix) (C : Clause) (p : Option Literal) (l : Literal) → IsWarranted P X C p →
    (Implied X C → ⊥) → p ≡ Some l → is_bound P l.var ≡ true
warranted-pivot P X C p l (inl i) n e = absurd (n i)
warranted-pivot P X C p l (inr (k, f, v)) n e =
    let z : k ≡ l = same k l (sym f ∙ e) in
    subst (λ (j : Literal). is_bound P j.var ≡ true) z (existential-is_bound P k.var v.existential_pivot)
  where
    same : (k l : Literal) → Some k ≡ Some l → k ≡ l
    same k l e = cc

pub warranted-first : (P : Prefix) (X : Matrix) (C : Clause) (p : Option Literal) → IsWarranted P X C p →
    (Implied X C → ⊥) → p ≡ None → ⊥
warranted-first P X C p (inl i) n e = n i
warranted-first P X C p (inr (k, f, v)) n e = none (sym e ∙ f)
  where
    none : None ≡ Some k → ⊥
    none z = cc

-- Over formulas that are alike, steps have the same reversals.
module _ (P : Prefix) (X Y : Matrix) (s : SameClauses X Y) where
  same_reversed : (t : ProofStep) (rs : List Reversal) → Reversed (formula_of P X) t rs → Reversed (formula_of P Y) t rs
  same_reversed (add p C) rs (inl e) = inl (implied-within X Y C (IsIn-alike X Y s) e.0, e.1)
  same_reversed (add p C) rs (inr (n, (l, os, f, o, g))) =
      inr ((λ i. n (implied-within Y X C (IsIn-alike Y X (alike-sym X Y s)) i)), (l, os, f, outers-same P X Y (negation l) os s o, g))
  same_reversed (delete p C) rs e = e
  same_reversed (drop_literal l C) rs (inl (v, (os, o, e))) = inl (
    forall_pivot-within P (one_less C X) (one_less C Y) C l (less-within X Y s C) (less-within Y X (alike-sym X Y s) C) v,
    (os, outers-same P (one_less C X) (one_less C Y) (negation l) os (one_less-same C X Y s) o, e),
  )
  same_reversed (drop_literal l C) rs (inr (n, p, e)) =
      inr ((λ v. n (forall_pivot-within P (one_less C Y) (one_less C X) C l (less-within Y X (alike-sym X Y s) C) (less-within X Y s C) v)), p, e)
  same_reversed (fresh v w) rs e = e
  same_reversed (remove_variable v) rs e = e

  same_extended : (t : ProofStep) → IsExtended (formula_of P X) t → IsExtended (formula_of P Y) t
  same_extended (add p C) x = x
  same_extended (delete p C) x = x
  same_extended (drop_literal l C) x =
      ((λ v. x.0 (forall_pivot-within P (one_less C Y) (one_less C X) C l (less-within Y X (alike-sym X Y s) C) (less-within X Y s C) v)), x.1)
  same_extended (fresh v w) x = x
  same_extended (remove_variable v) x = x

pub alike_reversed : (F G : PrenexFormula) (t : ProofStep) (rs : List Reversal) → AreAlike F G → Reversed F t rs →
    Reversed G t rs
alike_reversed F G t rs a e =
    subst (λ (P : Prefix). Reversed (formula_of P G.matrix) t rs) a.prefix
    (same_reversed F.prefix F.matrix G.matrix a.clauses t rs e)

pub alike_extended : (F G : PrenexFormula) (t : ProofStep) → AreAlike F G → IsExtended F t → IsExtended G t
alike_extended F G t a x =
    subst (λ (P : Prefix). IsExtended (formula_of P G.matrix) t) a.prefix
    (same_extended F.prefix F.matrix G.matrix a.clauses t x)

reversals_more : (F : PrenexFormula) (ss : List ProofStep) (E : PrenexFormula) (t : ProofStep)
    (rs es : List Reversal) → AreMade false standard F ss E → Reversals F ss rs → Reversed E t es →
    Reversals F (ss ++ t ∷ []) (rs ++ es)
reversals_more F [] E t rs es v u e = (
  es,
  [],
  subst (λ (G : PrenexFormula). Reversed G t es) (sym v) e,
  refl,
  ap (λ (ws : List Reversal). ws ++ es) u ∙ sym (append-nil es),
)
reversals_more F (u ∷ ss) E t rs es v (fs, rest, f, r, q) e = (
  fs,
  rest ++ es,
  f,
  reversals_more (after F u) ss E t rest es v.1 r e,
  ap (λ (ws : List Reversal). ws ++ es) q ∙ append_assoc fs rest es,
)

pub noted-begun : (F : PrenexFormula) (t : Trailed) → AreAlike F t.formula → t.reversals ≡ [] → HasNoted F [] t
noted-begun F t a e = record { last = F; steps = refl; alike = a; reversals = e }

pub noted-more : (F : PrenexFormula) (ss : List ProofStep) (t u : Trailed) (p : ProofStep) → HasNoted F ss t →
    Valid standard t.formula p → AreAlike (after t.formula p) u.formula →
    HasGrownBy t.formula p t.reversals u.reversals → HasNoted F (ss ++ p ∷ []) u
noted-more F ss t u p h v a (es, r, e) = record {
  last = after h.last p;
  steps = valid_more standard F ss h.last p h.steps
      (alike_valid standard t.formula h.last p (alike_swapped h.last t.formula h.alike) v);
  alike = alike_through (after h.last p) (after t.formula p) u.formula (alike_after h.last t.formula p h.alike) a;
  reversals = subst (Reversals F (ss ++ p ∷ [])) (sym e)
      (reversals_more F ss h.last p t.reversals es (valid-all_made F ss h.last h.steps) h.reversals
      (alike_reversed t.formula h.last p es (alike_swapped h.last t.formula h.alike) r));
}

pub map_last : (xs : List Entry) (x : Entry) → map entry_of (xs ++ x ∷ []) ≡ map entry_of xs ++ entry_of x ∷ []
map_last [] x = refl
map_last (y ∷ xs) x = ap (λ (rs : List Reversal). entry_of y ∷ rs) (map_last xs x)

pub made-begun : (F : PrenexFormula) (t : Trailed) → AreAlike F t.formula → t.reversals ≡ [] → HasMade F [] t
made-begun F t a e = record { last = F; steps = refl; alike = a; reversals = e }

step-made : (F : PrenexFormula) (ss : List ProofStep) (t u : Trailed) (p : ProofStep) → HasMade F ss t →
    MayBeMade false standard t.formula p → AreAlike (after t.formula p) u.formula →
    HasGrownBy t.formula p t.reversals u.reversals → HasMade F (ss ++ p ∷ []) u
step-made F ss t u p h v a (es, r, e) = record {
  last = after h.last p;
  steps = made_more F ss h.last p h.steps
      (alike_may standard t.formula h.last p (alike_swapped h.last t.formula h.alike) v);
  alike = alike_through (after h.last p) (after t.formula p) u.formula (alike_after h.last t.formula p h.alike) a;
  reversals = subst (Reversals F (ss ++ p ∷ [])) (sym e)
      (reversals_more F ss h.last p t.reversals es h.steps h.reversals
      (alike_reversed t.formula h.last p es (alike_swapped h.last t.formula h.alike) r));
}

-- The same of the parts of a trail.
pub made-by : (F : PrenexFormula) (ss : List ProofStep) (t u : Trailed) (course : PrenexFormula) (old : List Entry)
    (p : ProofStep) (r : Option Entry) → record { formula = course; reversals = map entry_of old } ≡ t →
    HasMade F ss t → MayBeMade false standard t.formula p →
    AreAlike (after course p) u.formula × Reversed course p (entries_of r) →
    u.reversals ≡ map entry_of old ++ entries_of r → HasMade F (ss ++ p ∷ []) u
made-by F ss t u course old p r e h v a q =
    step-made F ss t u p h v (subst (λ (w : Trailed). AreAlike (after w.formula p) u.formula) e a.0) (
      entries_of r,
      subst (λ (w : Trailed). Reversed w.formula p (entries_of r)) e a.1,
      q ∙ ap (λ (w : Trailed). w.reversals ++ entries_of r) e,
    )
