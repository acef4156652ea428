use Rattle.std.proofs.Common.{◌≡◌, ◌∙◌, ℕ, sym, refl, subst, true≢false, inl, inr, Some}
use Rattle.std.proofs.lemmas.Option.{same_Some}
use Rattle.q_logic.specs.declared.rule_bounds.Bounds.{Bounds}
use Rattle.q_logic.specs.Prelude.{Literal, Clause, IsIn, slot, Fits}
use Rattle.q_logic.specs.Targets as theory
use Rattle.q_kernel.specs.Prelude.{Seen, slots}
use Rattle.q_reduce.specs.declared.target.Target.{Target}
use Rattle.q_reduce.specs.declared.target.Target.TheVariants.{Tautology, Unit, Cut, Pure}
use Rattle.q_reduce.specs.Targets.{target_of}
use Rattle.q_reduce.specs.Searches.{IsCutOf}
use Rattle.q_logic.proofs.Common.{taken-cases, taken-all}
use Rattle.q_rule.proofs.RuleSearch.{found-one, found-none}
use Rattle.q_reduce.proofs.find.find_cut.Goals as goal

pub returns-then-branch-clause-found : goal.returns-then-branch-clause-found
returns-then-branch-clause-found c = found-one target_of c.args.kernel.now (IsCutOf c.args.c) (Cut c.args.c c.l-item.result) refl (λ B. (c.in_ok-fits.ensures.fits B).0 c.if-branch.true)

pub loop-l-preserved : goal.loop-l-preserved
loop-l-preserved c = record {
  none = λ k m B f. elim (taken-cases c.lits-l-items.result.now c.loop-l.l-index c.l-item.result k c.loop-l-test.true c.l-item.is m) [
    | inl a ↦ c.loop-l.invariant.none k a B f
    | inr e ↦
        let s = c.args.kernel.now in
        let g = subst (λ (x : Literal). Fits B s.prefix (slots s) (theory.cut c.args.c x)) e f in
        true≢false (sym ((c.in_ok-fits.ensures.fits B).1 g) ∙ c.if-branch.false)
  ];
  fit = c.fits.ensures.fit;
}

pub returns-clause-found : goal.returns-clause-found
returns-clause-found c =
    let s = c.args.kernel.now in
    let C = c.lits-l-items.result.now in
    found-none target_of s (IsCutOf c.args.c) (none s c.args.c C c.lits-l-items.ensures.clause
    (λ l m B f. c.loop-l.invariant.none l (subst (λ (xs : Clause). IsIn l xs) (sym (taken-all C c.loop-l.l-index c.loop-l-test.false)) m) B f))
  where
    none : (k : Seen) (c : ℕ) (C : Clause) → slot (slots k) c ≡ Some C → ((l : Literal) → IsIn l C → (B : Bounds) → Fits B k.prefix (slots k) (theory.cut c l) → ⊥) → (t : Target) → IsCutOf c t → (B : Bounds) → Fits B k.prefix (slots k) (target_of t) → ⊥
    none k c C e h (Tautology d) q B f = q
    none k c C e h (Unit d) q B f = q
    none k c C e h (Cut d l) q B f =
        let g : Fits B k.prefix (slots k) (theory.cut c l) = subst (λ (x : ℕ). Fits B k.prefix (slots k) (theory.cut x l)) q f in
        h l (subst (λ (D : Clause). IsIn l D) (same_Some g.0 C (sym g.1 ∙ e)) g.2.in_clause) B g
    none k c C e h (Pure l) q B f = q
