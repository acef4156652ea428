use Rattle.std.proofs.Common.{◌∙◌, sym}
use Rattle.std.proofs.lemmas.Option.{same_Some}
use Rattle.q_logic.proofs.Common.{test-false}
use Rattle.q_logic.proofs.HintChains.{live-number}
use Rattle.q_kernel.specs.Prelude.{slots, HoldsLiteral}
use Rattle.q_kernel.proofs.ForLoops.{holder-turn, each-came, All-more}
use Rattle.q_expand.proofs.OtherClauses.{IsOther}
use Rattle.q_expand.proofs.changing.find_clause.Goals as goal

pub lits-requires : goal.lits-requires
lits-requires c = let h : HoldsLiteral c.args.kernel.now c.in-Some.id c.args.lit = holder-turn _ _ _ c.holders-id-items.ensures.hold c.into_iter-id-iterator.ensures.into_iter_gives c.loop-id.yielded_by c.in-Some.ensures.steps in (h.0, h.1)

pub loop-id-preserved : goal.loop-id-preserved
loop-id-preserved c =
    All-more (IsOther (slots c.args.kernel.now) c.args.clause.now) c.loop-id.yielded c.in-Some.id c.loop-id.invariant
    (record { other = λ f. test-false c.is_same.result c.is_same.ensures c.if-is_same.false (same_Some c.lits.result.now c.args.clause.now (sym c.lits.ensures.clause ∙ f)) })

pub returns-clause-none : goal.returns-clause-none
returns-clause-none c e m =
    let s = live-number (slots c.args.kernel.now) c.args.clause.now m in
    let o : IsOther (slots c.args.kernel.now) c.args.clause.now s.0 = each-came _ (IsOther (slots c.args.kernel.now) c.args.clause.now) _ c.holders-id-items.ensures.all c.into_iter-id-iterator.ensures.into_iter_gives c.loop-id.yielded_by c.in-None.ensures.steps.0 c.loop-id.invariant s.0 (c.args.clause.now, s.1, c.requires) in
    o.other s.1
