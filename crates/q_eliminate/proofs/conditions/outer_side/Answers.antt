use Rattle.std.proofs.Common.{◌∙◌, sym, inl, inr, true≢false}
use Rattle.q_logic.specs.Prelude.{negation}
use Rattle.q_eliminate.proofs.VariableClauses.{live-ids, sign-first, sign-second, outer-test}
use Rattle.q_eliminate.proofs.conditions.outer_side.Goals as goal

pub are_outer-requires-clause-live : goal.are_outer-requires-clause-live
are_outer-requires-clause-live c = live-ids c.args.kernel.now c.args.lit c.args.ids.now c.requires.ids

pub are_outer-requires-else-are_outer-clause-live : goal.are_outer-requires-else-are_outer-clause-live
are_outer-requires-else-are_outer-clause-live c = live-ids c.args.kernel.now (negation c.args.lit) c.args.others.now c.requires.others

pub returns-then-are_outer : goal.returns-then-are_outer
returns-then-are_outer c = record {
  some = sign-first c.args.kernel.now c.args.lit c.args.ids.now c.var.result c.requires.ids c.var.ensures.value (c.are_outer.ensures.0 c.if-are_outer.true);
  none = λ e. absurd (cc);
}

pub returns-then-are_outer-2 : goal.returns-then-are_outer-2
returns-then-are_outer-2 c = record {
  some = sign-second c.args.kernel.now c.args.lit c.negated.result c.args.others.now c.var-else-are_outer.result c.requires.others c.negated.ensures c.var-else-are_outer.ensures.value (c.are_outer-else-are_outer.ensures.0 c.if-are_outer-2.true);
  none = λ e. absurd (cc);
}

pub returns-else-are_outer-2 : goal.returns-else-are_outer-2
returns-else-are_outer-2 c = record {
  some = λ m e. absurd (cc);
  none = λ e o. elim o [
    | inl a ↦ true≢false (sym (c.are_outer.ensures.1 (outer-test c.args.kernel.now c.args.lit c.args.ids.now c.var.result c.requires.ids c.var.ensures.value a)) ∙ c.if-are_outer.false)
    | inr a ↦ true≢false (sym (c.are_outer-else-are_outer.ensures.1 (outer-test c.args.kernel.now (negation c.args.lit) c.args.others.now c.var-else-are_outer.result c.requires.others c.var-else-are_outer.ensures.value a)) ∙ c.if-are_outer-2.false)
  ];
}
