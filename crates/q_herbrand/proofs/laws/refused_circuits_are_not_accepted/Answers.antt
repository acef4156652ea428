use Rattle.q_herbrand.proofs.AcceptedCircuits.{refused-not_accepted}
use Rattle.q_herbrand.proofs.laws.refused_circuits_are_not_accepted.Goals as goal

pub returns : goal.returns
returns c = refused-not_accepted
