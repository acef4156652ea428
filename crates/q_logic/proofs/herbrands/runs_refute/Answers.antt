use Rattle.q_logic.proofs.Justified.{Run-justified}
use Rattle.q_logic.proofs.ForthRuns.{run-carries, run-lawful}
use Rattle.q_logic.proofs.herbrands.runs_refute.Goals as goal

pub returns : goal.returns
returns c =
    record {
      herbrand = λ F G ss rs c f r. run-carries F ss G rs c f (Run-justified F ss G r);
      lawful = λ F G ss rs c f r. run-lawful F ss G rs c f (Run-justified F ss G r);
    }
