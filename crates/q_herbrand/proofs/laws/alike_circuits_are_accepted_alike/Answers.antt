use Rattle.q_herbrand.proofs.AcceptedCircuits.{accepted-alike}
use Rattle.q_herbrand.proofs.laws.alike_circuits_are_accepted_alike.Goals as goal

pub returns : goal.returns
returns c G a b inputs names trees h = accepted-alike a b inputs names trees G h
