-- Formulas with the same blocks and clauses have the same valid steps, and are the same behind them.
use Rattle.std.proofs.Common.{◌≡◌, ℕ, Bool, cond, not, ◌&&◌, List, [], ◌∷◌, ◌++◌, inl, inr, refl, sym, ap₂, ◌∙◌, subst, Option}
use Rattle.q_logic.specs.declared.limits.Limits.{Limits}
use Rattle.q_logic.specs.Prelude.{Literal, negation, literal_eq, Clause, Matrix, Prefix, PrenexFormula, IsFormula, Distinct, blocks, SameBlocks, Implied, outer, ExistsPivot, ForallPivot, without, Reached, SameFormula, AreAlike, copies, ValidSteps, formula_of}
use Rattle.q_logic.specs.Steps.{ProofStep, add, delete, drop_literal, fresh, remove_variable, Valid, after, Within, IsWarranted, IsDroppable, IsFresh, IsWrong, Cause}
use Rattle.q_logic.proofs.AlikeFormulas.{alike_valid, alike_wrong, alike_after}
use Rattle.q_logic.proofs.Blocks.{Same-sym}
use Rattle.q_logic.proofs.Justified.{Valid-justified}
use Rattle.q_logic.proofs.Soundness.{after-formula}
use Rattle.q_same_steps.proofs.SameBlocks.{Blocks-sym, existential-same, bound-same, universal-same, outer-same, insert-same, removed-same}

module _ (P Q : Prefix) (s : SameBlocks (blocks P) (blocks Q)) where
  outer-clause : (m : Literal) (D : Clause) → outer P m D ≡ outer Q m D
  outer-clause m [] = refl
  outer-clause m (k ∷ D) =
      ap₂ (λ (o : Bool) (E : Clause). cond (not (literal_eq k m) && o) (k ∷ E) E) (outer-same P Q k.var m.var s) (outer-clause m D)

  within : (C : Clause) → Within P C → Within Q C
  within C w k i = sym (bound-same P Q k.var s) ∙ w k i

  exists_pivot : (X : Matrix) (C : Clause) (l : Literal) → ExistsPivot P X C l → ExistsPivot Q X C l
  exists_pivot X C l h = record {
    existential_pivot = sym (existential-same P Q l.var s) ∙ h.existential_pivot;
    in_clause = h.in_clause;
    implied = λ D m n. subst (λ (E : Clause). Implied X (C ++ E)) (outer-clause (negation l) D) (h.implied D m n);
  }

  forall_pivot : (X : Matrix) (C : Clause) (l : Literal) → ForallPivot P X C l → ForallPivot Q X C l
  forall_pivot X C l h = record {
    universal_pivot = sym (universal-same P Q l.var s) ∙ h.universal_pivot;
    in_clause = h.in_clause;
    not_negated = h.not_negated;
    implied = λ D m n. subst (λ (E : Clause). Implied X (without l C ++ E)) (outer-clause (negation l) D) (h.implied D m n);
  }

  reached : (X : Matrix) (C : Clause) (l : Literal) (D : Clause) → Reached P X C l D → Reached Q X C l D
  reached X C l D Reached.first = Reached.first
  reached X C l D (Reached.next {D = B} E k a b c d m n r) =
      Reached.next E k a b (sym (existential-same P Q k.var s) ∙ c) (sym (outer-same P Q k.var l.var s) ∙ d) m n (reached X C l B r)

  warranted : (X : Matrix) (C : Clause) (p : Option Literal) → IsWarranted P X C p → IsWarranted Q X C p
  warranted X C p (inl i) = inl i
  warranted X C p (inr (l, e, h)) = inr (l, e, exists_pivot X C l h)

  is_fresh : (m : Limits) (v w : ℕ) → IsFresh m P v w → IsFresh m Q v w
  is_fresh m v w h = record {
    absent = sym (bound-same P Q v s) ∙ h.absent;
    positive = h.positive;
    within = h.within;
    behind = sym (existential-same P Q w s) ∙ h.behind;
  }

droppable : (P Q : Prefix) (X : Matrix) (C : Clause) (l : Literal) → SameBlocks (blocks P) (blocks Q) → IsDroppable P X C l → IsDroppable Q X C l
droppable P Q X C l s (inl h) = inl (forall_pivot P Q s X C l h)
droppable P Q X C l s (inr h) = inr (record {
  universal_literal = sym (universal-same P Q l.var s) ∙ h.universal_literal;
  in_clause = h.in_clause;
  no_negation = λ D r. h.no_negation D (reached Q P (Blocks-sym (blocks P) (blocks Q) s) X C l D r);
})

valid-blocks : (m : Limits) (P Q : Prefix) (X : Matrix) (t : ProofStep) → SameBlocks (blocks P) (blocks Q) →
    Valid m (formula_of P X) t → Valid m (formula_of Q X) t
valid-blocks m P Q X (add p C) s v = (within P Q s C v.0, warranted P Q s X C p v.1, v.2)
valid-blocks m P Q X (delete p C) s v = (within P Q s C v.0, v.1, warranted P Q s _ C p v.2)
valid-blocks m P Q X (drop_literal l C) s v = (within P Q s C v.0, v.1, droppable P Q _ C l s v.2)
valid-blocks m P Q X (fresh v w) s h = is_fresh P Q s m v w h
valid-blocks m P Q X (remove_variable v) s h = (sym (bound-same P Q v s) ∙ h.0, h.1)

wrong-blocks : (m : Limits) (P Q : Prefix) (X : Matrix) (t : ProofStep) (n : ℕ) → SameBlocks (blocks P) (blocks Q) →
    IsWrong m (formula_of P X) t n → IsWrong m (formula_of Q X) t n
wrong-blocks m P Q X t n s w = go t w
  where
    back : SameBlocks (blocks Q) (blocks P)
    back = Blocks-sym (blocks P) (blocks Q) s

    go : (t : ProofStep) → IsWrong m (formula_of P X) t n → IsWrong m (formula_of Q X) t n
    go (add p C) (inl w) = inl (w.0, λ v. w.1 (within Q P back C v))
    go (add p C) (inr (inl w)) = inr (inl (w.0, λ v. w.1 (warranted Q P back X C p v)))
    go (add p C) (inr (inr w)) = inr (inr w)
    go (delete p C) (inl w) = inl (w.0, λ v. w.1 (within Q P back C v))
    go (delete p C) (inr (inl w)) = inr (inl w)
    go (delete p C) (inr (inr w)) = inr (inr (w.0, λ v. w.1 (warranted Q P back _ C p v)))
    go (drop_literal l C) (inl w) = inl (w.0, λ v. w.1 (within Q P back C v))
    go (drop_literal l C) (inr (inl w)) = inr (inl w)
    go (drop_literal l C) (inr (inr w)) = inr (inr (w.0, λ v. w.1 (droppable Q P _ C l back v)))
    go (fresh v w) h = (h.0, λ k. h.1 (is_fresh Q P back m v w k))
    go (remove_variable v) (inl w) = inl (w.0, sym (bound-same P Q v s) ∙ w.1)
    go (remove_variable v) (inr w) = inr w

-- first the clauses, then the blocks
abbrev middle : (F G : PrenexFormula) → PrenexFormula
middle F G = formula_of F.prefix G.matrix

to_middle : (F G : PrenexFormula) → SameFormula F G → AreAlike F (middle F G)
to_middle F G s = record { prefix = refl; clauses = s.same_clauses }

pub same-valid : (m : Limits) (F G : PrenexFormula) (t : ProofStep) → SameFormula F G → Valid m F t → Valid m G t
same-valid m F G t s v =
    valid-blocks m F.prefix G.prefix G.matrix t s.same_blocks (alike_valid m F (middle F G) t (to_middle F G s) v)

pub same-wrong : (m : Limits) (F G : PrenexFormula) (t : ProofStep) (n : ℕ) → SameFormula F G → IsWrong m F t n → IsWrong m G t n
same-wrong m F G t n s w =
    wrong-blocks m F.prefix G.prefix G.matrix t n s.same_blocks (alike_wrong m F (middle F G) t n (to_middle F G s) w)

pub same-cause : (m : Limits) (F G : PrenexFormula) (t : ProofStep) (n : ℕ) → SameFormula F G → Cause m F t n → Cause m G t n
same-cause m F G t n s c = record {
  applies = same-wrong m F G t n s c.applies;
  least = λ k h w. c.least k h (same-wrong m G F t k (Same-sym F G s) w);
}

pub same-after : (m : Limits) (F G : PrenexFormula) (t : ProofStep) → Distinct F.prefix → Distinct G.prefix → SameFormula F G →
    Valid m F t → SameFormula (after F t) (after G t)
same-after m F G t d e s v = record { same_blocks = go t v; same_clauses = clauses t }
  where
    clauses : (t : ProofStep) (D : Clause) → copies D (after F t).matrix ≡ copies D (after G t).matrix
    clauses (add p C) = (alike_after F (middle F G) (add p C) (to_middle F G s)).clauses
    clauses (delete p C) = (alike_after F (middle F G) (delete p C) (to_middle F G s)).clauses
    clauses (drop_literal l C) = (alike_after F (middle F G) (drop_literal l C) (to_middle F G s)).clauses
    clauses (fresh v w) = s.same_clauses
    clauses (remove_variable v) = s.same_clauses

    go : (t : ProofStep) → Valid m F t → SameBlocks (blocks (after F t).prefix) (blocks (after G t).prefix)
    go (add p C) v = s.same_blocks
    go (delete p C) v = s.same_blocks
    go (drop_literal l C) v = s.same_blocks
    go (fresh v w) h = insert-same w v F.prefix G.prefix d e h.behind s.same_blocks
    go (remove_variable v) h = removed-same v F.prefix G.prefix d e s.same_blocks

pub same-steps : (m : Limits) (F G E : PrenexFormula) (ss : List ProofStep) → IsFormula F → IsFormula G → SameFormula F G →
    ValidSteps m F ss E → (L : PrenexFormula) × ValidSteps m G ss L × SameFormula E L
same-steps m F G E [] f g s e = (G, refl, subst (λ (H : PrenexFormula). SameFormula H G) e s)
same-steps m F G E (t ∷ ss) f g s (v, r) =
    let w : Valid m G t = same-valid m F G t s v in
    let i = same-steps m (after F t) (after G t) E ss (after-formula F t f (Valid-justified m F t v)) (after-formula G t g (Valid-justified m G t w))
    (same-after m F G t f.distinct g.distinct s v) r in
    (i.0, (w, i.1), i.2)
