use Rattle.q_app.proofs.VerifiedFiles.{verified}
use Rattle.q_app.proofs.laws.simplified_is_verified.Goals as goal

pub returns : goal.returns
returns c = verified c.texts_are_read.ensures
