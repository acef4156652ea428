use Rattle.std.proofs.Common.{◌≡◌, ◌<◌, ◌∙◌, sym, subst, ap, arith, length}
use Rattle.std.proofs.lemmas.Bool.Decides.{nat_tests}
use Rattle.q_logic.specs.Prelude.{IsBelow, ArePairs}
use Rattle.q_logic.specs.StepForms.{arranged}
use Rattle.q_logic.proofs.ClauseSets.{clause_of-ordered}
use Rattle.q_logic.proofs.StepForms.{first-held, arranged-cons, whole-take}
use Rattle.q_logic.proofs.steps.arrange.Goals as goal

pub bring_forward-requires : goal.bring_forward-requires
bring_forward-requires c =
    let ls = c.into_vec-row.result.items in
    let some : 0 < length ls = grind (arith, nat_tests) in
    let clause = c.deref_mut.ensures.value ∙ c.sort_clause.ensures in
    record {
      held = first-held ls c.deref_mut.result.now c.index-first.result.now some c.index-first.ensures clause;
      ordered = subst (ArePairs IsBelow) (sym clause) (clause_of-ordered ls);
    }

pub returns : goal.returns
returns c =
    let ls = c.into_vec-row.result.items in
    let some : 0 < length ls = grind (arith, nat_tests) in
    let clause = c.deref_mut.ensures.value ∙ c.sort_clause.ensures in
    let arranged_is = arranged-cons ls c.deref_mut.result.now c.index-first.result.now some c.index-first.ensures clause in
    let kept : length c.bring_forward.new.clause ≡ length c.sort_clause.new.lits.items = omega (arith, ap length c.deref_mut.ensures.value) in
    c.from_vec-2.ensures ∙ (whole-take _ _ _ c.sort_clause.new.lits.ok.0 kept ∙ (c.bring_forward.ensures ∙ (arranged_is ∙ ap arranged c.into_vec-row.ensures)))
