-- From a plan to the change of its target.
use Rattle.std.proofs.Common.{◌≡◌, ◌≤◌, ◌+◌, ◌++◌, ◌⊎◌, ℕ, true, List, [], ◌∷◌, length, inl, inr, arith, refl, sym, ap, ◌∙◌, subst, length-append}
use Rattle.q_logic.specs.declared.rule_bounds.Bounds.{Bounds}
use Rattle.q_logic.specs.Prelude.{Literal, negation, Matrix, Prefix, PrenexFormula, IsIn, positive, is_bound, ExistsPivot, standard, IsInLimits, greatest, size_of, Slots, slot, live, formula_of, clauses_at, literals_in, with_literal, AllOuter, resolve_all}
use Rattle.q_logic.specs.Targets as theory
use Rattle.q_logic.proofs.Common.{negation-negation, SameClauses, alike-refl, alike-trans, alike-append, size-alike, existential-is_bound, same-sizes}
use Rattle.q_kernel.specs.Prelude.{Seen, slots, formula_in, SameView, HasSweepBytes, Applies}
use Rattle.q_kernel.proofs.KernelRuns.{led-through}
use Rattle.q_kernel.proofs.SlotLists.{size-parts}
use Rattle.q_rule.specs.Becoming.{IsChanged}
use Rattle.q_eliminate.specs.declared.plan.Plan.{Plan}
use Rattle.q_eliminate.specs.declared.sides.Sides.{Sides}
use Rattle.q_eliminate.specs.Growing.{CanGrow, HasGrown, MayGoBy, MayGoByLater, HasLost}
use Rattle.q_eliminate.specs.Plans.{IsSplit, IsPlanOf, HasRoomFor, resolvents_on, others_on}
use Rattle.q_eliminate.specs.Sides.{AreIdsOf, AreSidesOf, AreParents}
use Rattle.q_eliminate.proofs.EliminateConditions.{apply-may}
use Rattle.q_eliminate.proofs.EliminationSteps.{first-goes, second-goes, eliminated-rest}
use Rattle.q_eliminate.proofs.GainCounts.{literals-append}
use Rattle.q_logic.proofs.MeasureFalls.{size-append}
use Rattle.q_eliminate.proofs.VariableClauses.{sides-size, sides-resolvents}

module _ (B : Bounds) (k : Seen) (x : ℕ) (p : Plan) (s : Sides) (a : Applies B k (theory.eliminate x)) (h : IsPlanOf k (positive x) p) (d : AreSidesOf k (positive x) s) where
  split : IsSplit k.prefix (live (slots k)) (positive x)
  split = (apply-may B k x a).split

  pub plan-bound : is_bound k.prefix x ≡ true
  plan-bound = existential-is_bound k.prefix x a.fits.existential

  pub plan-parents : AreParents (slots k) (positive x) s.positive.items
  plan-parents c m = let r = d.positive.held c m in record { clause = r.0; there = r.1; held = r.2; plain = λ n. split.no_tautology r.0 (Rattle.q_logic.proofs.NumberedClauses.live-slot (slots k) c r.0 r.1) (inl r.2) (positive x, r.2, n) }

  pub plan-others : AreParents (slots k) (negation (positive x)) s.negative.items
  plan-others c m = let r = d.negative.held c m in record {
    clause = r.0;
    there = r.1;
    held = r.2;
    plain = λ n. split.no_tautology r.0 (Rattle.q_logic.proofs.NumberedClauses.live-slot (slots k) c r.0 r.1) (inr r.2) (positive x, subst (λ (j : Literal). IsIn j r.0) (negation-negation (positive x)) n, r.2);
  }

  pub plan-size : p.size ≡ size_of (clauses_at (slots k) s.positive.items) + size_of (clauses_at (slots k) s.negative.items)
  plan-size = h.size ∙ sym (sides-size k (positive x) s.positive.items s.negative.items d.positive d.negative)

  same : SameClauses (resolve_all (positive x) (clauses_at (slots k) s.positive.items) (clauses_at (slots k) s.negative.items)) (resolvents_on (positive x) (live (slots k)))
  same = sides-resolvents k (positive x) s.positive.items s.negative.items d.positive d.negative

  pub plan-few : (p.gain.clauses ≤ 33554432) × (p.gain.lits ≤ 134217728)
  plan-few =
      let X = live (slots k) in
      let e = length-append (others_on (positive x) X) (resolvents_on (positive x) X) in
      let f = literals-append (others_on (positive x) X) (resolvents_on (positive x) X) in
      let l1 = a.in_limits.clauses in let l2 = a.in_limits.lits in
      let c = h.clauses in let n = h.lits in (omega arith, omega arith)

  pub plan-room : IsInLimits standard (formula_in k) → HasRoomFor k p → CanGrow k (resolve_all (positive x) (clauses_at (slots k) s.positive.items) (clauses_at (slots k) s.negative.items))
  plan-room b r =
      let W = resolve_all (positive x) (clauses_at (slots k) s.positive.items) (clauses_at (slots k) s.negative.items) in
      let e = same-sizes W (resolvents_on (positive x) (live (slots k))) same in
      let e0 = e.0 in let e1 = e.1 in
      let c = h.clauses in let n = h.lits in
      let f = plan-few in let f0 = f.0 in let f1 = f.1 in
      let r0 = r.words in let r1 = r.ids in let r2 = r.bytes in
      let z = size-parts W in
      let l = length-append W (live (slots k)) in let t = literals-append W (live (slots k)) in
      let b0 = b.clauses in let b1 = b.lits in
      record { words = omega arith; ids = omega arith; bytes = omega arith; limits = record { clauses = omega arith; lits = omega arith } }

  -- After the resolvents have come.
  module _ (n : Seen) (g : HasGrown k n (resolve_all (positive x) (clauses_at (slots k) s.positive.items) (clauses_at (slots k) s.negative.items))) where
    grown : SameClauses (live (slots n)) (resolvents_on (positive x) (live (slots k)) ++ live (slots k))
    grown =
        let W = resolve_all (positive x) (clauses_at (slots k) s.positive.items) (clauses_at (slots k) s.negative.items) in
        alike-trans (live (slots n)) (W ++ live (slots k)) (resolvents_on (positive x) (live (slots k)) ++ live (slots k)) g.clauses
        (alike-append W (resolvents_on (positive x) (live (slots k))) (live (slots k)) (live (slots k)) same (alike-refl (live (slots k))))

    sign : (negation p.outer ≡ negation (positive x)) ⊎ (negation p.outer ≡ positive x)
    sign = elim h.sign [ inl e ↦ inl (ap negation e) | inr e ↦ inr (ap negation e ∙ negation-negation (positive x)) ]

    pub plan-first : MayGoBy n (negation p.outer)
    plan-first C i j Z f z = subst (λ (P : Prefix). ExistsPivot P Z C (negation p.outer)) (sym g.prefix)
        (first-goes k.prefix (live (slots k)) (positive x) split a.fits.existential (live (slots n)) grown (negation p.outer) sign
        (subst (λ (m : Literal). AllOuter k.prefix m (live (slots k))) (sym (negation-negation p.outer)) h.outer) C i j Z f z)

    pub plan-second : MayGoByLater n p.outer
    plan-second C i j Z z = subst (λ (P : Prefix). ExistsPivot P Z C p.outer) (sym g.prefix)
        (second-goes k.prefix (live (slots k)) (positive x) split a.fits.existential (live (slots n)) grown (negation p.outer) sign p.outer (sym (negation-negation p.outer)) C i j Z z)

    pub plan-sweep : HasRoomFor k p → HasSweepBytes n
    plan-sweep r =
        let e = size-alike (live (slots n)) (resolvents_on (positive x) (live (slots k)) ++ live (slots k)) grown in
        let t = size-append (resolvents_on (positive x) (live (slots k))) (live (slots k)) in
        let z = size-parts (resolvents_on (positive x) (live (slots k))) in
        let y = size-alike (resolve_all (positive x) (clauses_at (slots k) s.positive.items) (clauses_at (slots k) s.negative.items)) (resolvents_on (positive x) (live (slots k))) same in
        let c = h.clauses in let l = h.lits in
        let q = ap length g.prefix in
        let w = r.bytes in let b = g.bytes in omega arith

    pub plan-changed : (m : Seen) → HasLost n m p.outer → IsChanged k m (theory.eliminate x)
    plan-changed m o =
        let E = others_on (positive x) (live (slots k)) ++ resolvents_on (positive x) (live (slots k)) in
        let pre : m.prefix ≡ k.prefix = o.prefix ∙ g.prefix in
        let c : SameClauses E (live (slots m)) = subst (λ (X : Matrix). SameClauses E X) (sym o.clauses)
        (eliminated-rest k.prefix (live (slots k)) (positive x) split a.fits.existential (live (slots n)) grown (negation p.outer) sign p.outer (sym (negation-negation p.outer))) in
        let e = same-sizes E (live (slots m)) c in
        let e0 = e.0 in let e1 = e.1 in
        let l0 = a.in_limits.clauses in let l1 = a.in_limits.lits in
        record {
          led = led-through k n m g.led o.led;
          alike = record { prefix = sym pre; clauses = c };
          limits = record {
            vars = subst (λ (P : Prefix). greatest P ≤ 16777215) (sym pre) a.in_limits.vars;
            clauses = omega arith;
            lits = omega arith;
          };
          bytes = o.bytes;
        }

-- A plan depends on what is seen alone.
pub plan-view : (a b : Seen) (l : Literal) (p : Plan) → SameView a b → IsPlanOf a l p → IsPlanOf b l p
plan-view a b l p v h =
    let e : live (slots a) ≡ live (slots b) = sym (ap (λ (F : PrenexFormula). F.matrix) v.formula) in
    record {
      sign = h.sign;
      outer = subst (λ (P : Prefix). AllOuter P p.outer (live (slots b))) (sym v.prefix) (subst (λ (X : Matrix). AllOuter a.prefix p.outer X) e h.outer);
      size = h.size ∙ ap (λ (X : Matrix). size_of (with_literal l X ++ with_literal (negation l) X)) e;
      clauses = h.clauses ∙ ap (λ (X : Matrix). length (resolvents_on l X)) e;
      lits = h.lits ∙ ap (λ (X : Matrix). literals_in (resolvents_on l X)) e;
    }

at-view : (a b : Seen) (ids : List ℕ) → SameView a b → clauses_at (slots b) ids ≡ clauses_at (slots a) ids
at-view a b [] v = refl
at-view a b (c ∷ ids) v = ap (λ o. Rattle.q_logic.specs.Numbered.put_first o (clauses_at (slots b) ids)) (v.clauses c) ∙ ap (Rattle.q_logic.specs.Numbered.put_first (slot (slots a) c)) (at-view a b ids v)

ids-view : (a b : Seen) (l : Literal) (ids : List ℕ) → SameView a b → AreIdsOf a l ids → AreIdsOf b l ids
ids-view a b l ids v h =
    let e : live (slots a) ≡ live (slots b) = sym (ap (λ (F : PrenexFormula). F.matrix) v.formula) in
    record {
      held = λ c m. let r = h.held c m in (r.0, v.clauses c ∙ r.1, r.2);
      clauses = subst (λ (X : Matrix). SameClauses (clauses_at (slots b) ids) (with_literal l X)) e (subst (λ (Y : Matrix). SameClauses Y (with_literal l (live (slots a)))) (sym (at-view a b ids v)) h.clauses);
    }

pub sides-view : (a b : Seen) (l : Literal) (s : Sides) → SameView a b → AreSidesOf a l s → AreSidesOf b l s
sides-view a b l s v h = record { positive = ids-view a b l s.positive.items v h.positive; negative = ids-view a b (negation l) s.negative.items v h.negative }
