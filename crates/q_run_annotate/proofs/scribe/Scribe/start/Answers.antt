use Rattle.std.proofs.Common.{arith, refl}
use Rattle.q_run_annotate.proofs.scribe.Scribe.start.Goals as goal

pub returns-in-Ok : goal.returns-in-Ok
returns-in-Ok c =
    record {
      annotator = c.in-Ok.ensures.started;
      few = omega (arith, c.if-clauses-ge-MOST.false, c.clauses.ensures.value);
      part = refl;
      text = c.in_ok-text.ensures;
      written = refl;
    }
