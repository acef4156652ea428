use Rattle.q_logic.proofs.Justified.{Run-justified}
use Rattle.q_logic.proofs.Soundness.{rebuilt-skolem, rebuilt-lawful}
use Rattle.q_logic.proofs.laws.runs_rebuild.Goals as goal

pub returns : goal.returns
returns c =
    record {
      skolem = λ F G ss us c f r. rebuilt-skolem F ss G us c f (Run-justified F ss G r);
      lawful = λ F G ss us c f r. rebuilt-lawful F ss G us c f (Run-justified F ss G r);
    }
