use Rattle.std.proofs.Common.{sym, subst, arith}
use Rattle.q_logic.proofs.Common.{ok_then}
use Rattle.q_check.specs.Annotations.{Annotating}
use Rattle.q_run_show.specs.Readings.{AreNamed}
use Rattle.q_run_show.proofs.ShownSteps.{sets-out}
use Rattle.q_run_show.proofs.scribe.annotator_of.Goals as goal

pub returns-clause-under_way : goal.returns-clause-under_way
returns-clause-under_way c =
    ok_then c.start.result c.start.ensures.started (λ a e. sets-out c.args.formula.now a e (omega (arith, c.if-clauses-ge-MOST.false, c.clauses.ensures.value)))

pub returns-clause-named : goal.returns-clause-named
returns-clause-named c =
    ok_then c.start.result c.start.ensures.started (λ a e. subst (λ (x : Annotating). AreNamed x.formula.prefix) (sym e) c.clauses.ensures.proper.ranges)
