use Rattle.std.proofs.Common.{◌≡◌, ◌∷◌, true, false, inl, inr, sym, subst}
use Rattle.q_logic.specs.Prelude.{Literal, Clause, IsIn}
use Rattle.q_logic.proofs.Common.{item-in, taken-cases, taken-all, test-false}
use Rattle.q_miter.specs.Miters.{gate_definitions, has_part}
use Rattle.q_encode.specs.Translations.{bare}
use Rattle.q_encode.proofs.GateParts.{none-begins, opposed-needless, part-needless, not-needless}
use Rattle.q_encode.proofs.needless.is_needless.Goals as goal

pub returns-then-is_tautology : goal.returns-then-is_tautology
returns-then-is_tautology c =
    opposed-needless c.args.clause.now (has_part (gate_definitions c.args.top (bare c.args.aig.now)) c.args.clause.now)
    (c.is_tautology.ensures.0 c.if-is_tautology.true)

pub returns-then-has_definition : goal.returns-then-has_definition
returns-then-has_definition c =
    part-needless _ (has_part (gate_definitions c.args.top (bare c.args.aig.now)) c.args.clause.now)
    (c.has_definition.ensures.part c.if-has_definition.true
    (item-in c.args.clause.now c.loop-lit.lit-index c.lit-item.result c.loop-lit-test.true c.lit-item.is))

pub loop-lit-preserved : goal.loop-lit-preserved
loop-lit-preserved c k m R i a = elim (taken-cases c.args.clause.now c.loop-lit.lit-index c.lit-item.result k c.loop-lit-test.true c.lit-item.is m) [
  | inl n ↦ c.loop-lit.invariant k n R i a
  | inr e ↦
      let t : c.has_definition.result ≡ true =
      c.has_definition.ensures.none R (subst (λ (j : Literal). IsIn (j ∷ R) (gate_definitions c.args.top (bare c.args.aig.now))) e i) a in
      let f : c.has_definition.result ≡ false = c.if-has_definition.false in cc
]

pub returns : goal.returns
returns c =
    not-needless c.args.clause.now (has_part (gate_definitions c.args.top (bare c.args.aig.now)) c.args.clause.now)
    (test-false c.is_tautology.result c.is_tautology.ensures c.if-is_tautology.false)
    (none-begins c.args.top c.args.aig.now c.args.clause.now
    (λ k m R i a. c.loop-lit.invariant k
    (subst (λ (C : Clause). IsIn k C) (sym (taken-all c.args.clause.now c.loop-lit.lit-index c.loop-lit-test.false)) m) R i a))
