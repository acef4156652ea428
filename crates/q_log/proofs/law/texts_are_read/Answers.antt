use Rattle.q_log.proofs.LogRoundTrip.{steps-reread}
use Rattle.q_log.proofs.law.texts_are_read.Goals as goal

pub returns : goal.returns
returns c = steps-reread
