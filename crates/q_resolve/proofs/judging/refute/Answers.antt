use Rattle.std.proofs.Common.{◌∙◌, sym, subst}
use Rattle.q_logic.specs.Prelude.{Distinct}
use Rattle.q_logic.proofs.Exchanged.{exchanged-distinct}
use Rattle.q_resolve.proofs.judging.refute.Goals as goal

pub judge-requires-clause-distinct : goal.judge-requires-clause-distinct
judge-requires-clause-distinct c =
    let e = c.in_ok-prefix.ensures in
    let p = c.prefix.ensures.value in
    let v = c.deref.ensures.value in
    subst Distinct (sym (rw p at (v ∙ e))) (exchanged-distinct c.args.formula.now.prefix c.prefix.ensures.proper.formula.distinct)
