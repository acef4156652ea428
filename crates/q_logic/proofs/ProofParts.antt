-- Each valid step has a proof part that shows it.
use Rattle.std.proofs.Common.{◌≡◌, ℕ, zero, suc, ◌+◌, Bool, true, false, List, [], ◌∷◌, ◌++◌, map, inl, inr, arith, refl, sym, ap, ◌∙◌, subst, Option, Some, None}
use Rattle.q_logic.specs.declared.limits.Limits.{Limits}
use Rattle.q_logic.specs.Prelude.{Literal, negation, Clause, Prefix, IsIn, Slots, slot, live, outer, without, Implied, has, ProofStep, add, delete, drop_literal, fresh, remove_variable, Valid, one_less, IsWarranted, IsDroppable, Chained, NumberedFormula, plain, beside, HintGroup, ProofPart, numbers_with, Resolved, Shows, ShowsDrop, HintedValid}
use Rattle.q_logic.proofs.NumberedClauses.{live-slot}
use Rattle.q_logic.specs.declared.proof_part.ProofKind.TheVariants.{Nothing, Pivot, Reach}
use Rattle.q_logic.specs.declared.proof_part.ProofKind.TheVariants.{Implied as ByHints}
use Rattle.q_logic.proofs.AlikeFormulas.{warranted-within, droppable-within}
use Rattle.q_logic.proofs.HintChains.{implied-chained, live-number}
use Rattle.q_logic.proofs.HintedRuns.{forward, backward}
use Rattle.q_logic.proofs.ClauseLemmas.{has-IsIn}

-- groups for the clauses that hold m, numbered from n on
pub record Grouped (P : Prefix) (N M : Slots) (base : Clause) (m : Literal) (n : ℕ) : Type 0 where
  pub groups : List HintGroup
  pub targets : map (λ g. g.target) groups ≡ numbers_with m n M
  pub each : (g : HintGroup) → IsIn g groups → (h : ℕ) × (D : Clause) × (g.target ≡ n + h) × (slot M h ≡ Some D) × Chained N (base ++ outer P m D) g.hints

module _ (P : Prefix) (N : Slots) (base : Clause) (m : Literal) where
  later : (M : Slots) (o : Option Clause) (n : ℕ) (g : HintGroup) →
      ((h : ℕ) × (D : Clause) × (g.target ≡ (n + 1) + h) × (slot M h ≡ Some D) × Chained N (base ++ outer P m D) g.hints) →
      (h : ℕ) × (D : Clause) × (g.target ≡ n + h) × (slot (o ∷ M) h ≡ Some D) × Chained N (base ++ outer P m D) g.hints
  later M o n g (h, D, e, f, c) = (suc h, D, e ∙ (omega arith), f, c)

  grouped : (M : Slots) (n : ℕ) → ((h : ℕ) (D : Clause) → slot M h ≡ Some D → IsIn m D → (hs : List ℕ) × Chained N (base ++ outer P m D) hs) → Grouped P N M base m n
  grouped [] n f = record { groups = []; targets = refl; each = λ g i. elim i [ ] }
  grouped (None ∷ M) n f =
      let r = grouped M (n + 1) (λ h D e i. f (suc h) D e i) in
      record { groups = r.groups; targets = r.targets; each = λ g i. later M None n g (r.each g i) }
  grouped (Some C ∷ M) n f = go (has m C) refl (grouped M (n + 1) (λ h D e i. f (suc h) D e i))
    where
      go : (b : Bool) → has m C ≡ b → Grouped P N M base m (n + 1) → Grouped P N (Some C ∷ M) base m n
      go false q r = record { groups = r.groups; targets = rw q r.targets; each = λ g i. later M (Some C) n g (r.each g i) }
      go true q r =
          let hs = f zero C refl (has-IsIn m C q) in
          record {
            groups = record { target = n; hints = hs.0 } ∷ r.groups;
            targets = rw q (ap (λ (xs : List ℕ). n ∷ xs) r.targets);
            each = λ g i. elim i [
              | inl e ↦ (zero, C, ap (λ (x : HintGroup). x.target) e ∙ (omega arith), refl, subst (λ (x : HintGroup). Chained N (base ++ outer P m C) x.hints) (sym e) hs.1)
              | inr j ↦ later M (Some C) n g (r.each g j)
            ];
          }

  pub implied-resolved : ((D : Clause) → IsIn D (live N) → IsIn m D → Implied (live N) (base ++ outer P m D)) → (gs : List HintGroup) × Resolved P N base m gs
  implied-resolved f =
      let r = grouped N 0 (λ h D e i. implied-chained N (base ++ outer P m D) (f D (live-slot N h D e) i)) in
      (r.groups, record { targets = r.targets; each = λ g i D e. at_target r g i D e })
    where
      at_target : (r : Grouped P N N base m 0) (g : HintGroup) → IsIn g r.groups → (D : Clause) → slot N g.target ≡ Some D → Chained N (base ++ outer P m D) g.hints
      at_target r g i D e =
          let x = r.each g i in
          let q : g.target ≡ x.0 = x.2 ∙ (omega arith) in
          let same : x.1 ≡ D = let a = rw q at e in let b = x.3 in cc in
          subst (λ (E : Clause). Chained N (base ++ outer P m E) g.hints) same x.4

pub warranted-shown : (P : Prefix) (N : Slots) (C : Clause) (p : Option Literal) (n : ℕ) → IsWarranted P (live N) C p → (t : ProofPart) × (t.number ≡ n) × Shows P N C p t
warranted-shown P N C p n (inl i) =
    let r = implied-chained N C i in
    (record { kind = ByHints; number = n; groups = record { target = 0; hints = r.0 } ∷ [] }, refl, inl (refl, (r.0, refl, r.1)))
warranted-shown P N C p n (inr (l, e, h)) =
    let r = implied-resolved P N C (negation l) h.implied in
    (record { kind = Pivot; number = n; groups = r.0 }, refl, inr (refl, (l, e, h.existential_pivot, h.in_clause, r.1)))

pub droppable-shown : (P : Prefix) (N : Slots) (C : Clause) (l : Literal) (n : ℕ) → IsDroppable P (live N) C l → (t : ProofPart) × (t.number ≡ n) × ShowsDrop P N C l t
droppable-shown P N C l n (inl h) =
    let r = implied-resolved P N (without l C) (negation l) h.implied in
    (record { kind = Pivot; number = n; groups = r.0 }, refl, inl (refl, (h.universal_pivot, h.in_clause, h.not_negated, r.1)))
droppable-shown P N C l n (inr h) = (record { kind = Reach; number = n; groups = [] }, refl, inr (refl, h))

pub valid-hinted : (m : Limits) (F : NumberedFormula) (s : ProofStep) → Valid m (plain F) s → (t : ProofPart) × HintedValid m F s t
valid-hinted m F (add p C) v =
    let r = warranted-shown F.prefix F.slots C p 0 v.1 in (r.0, (v.0, r.2, v.2))
valid-hinted m F (delete p C) v =
    let h = live-number F.slots C v.1 in
    let r = warranted-shown F.prefix (beside h.0 F) C p h.0
    (warranted-within F.prefix (one_less C (live F.slots)) (live (beside h.0 F)) C p (backward F.slots h.0 C h.1) (forward F.slots h.0 C h.1) v.2) in
    (r.0, (v.0, rw r.1 h.1, rw r.1 r.2))
valid-hinted m F (drop_literal l C) v =
    let h = live-number F.slots C v.1 in
    let r = droppable-shown F.prefix (beside h.0 F) C l h.0
    (droppable-within F.prefix (one_less C (live F.slots)) (live (beside h.0 F)) C l (backward F.slots h.0 C h.1) (forward F.slots h.0 C h.1) v.2) in
    (r.0, (v.0, rw r.1 h.1, rw r.1 r.2))
valid-hinted m F (fresh v w) h = (record { kind = Nothing; number = 0; groups = [] }, (h, refl))
valid-hinted m F (remove_variable v) h = (record { kind = Nothing; number = 0; groups = [] }, (h.0, h.1, refl))
