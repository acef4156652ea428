use Rattle.q_app.proofs.ThreeCommands as law
use Rattle.q_app.proofs.laws.headline.Goals as goal

pub returns : goal.returns
returns c = law.headline c.texts_are_read.ensures
