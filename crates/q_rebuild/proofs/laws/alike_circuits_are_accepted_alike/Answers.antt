use Rattle.q_rebuild.proofs.AlikeAccepted.{accepted-alike}
use Rattle.q_rebuild.proofs.laws.alike_circuits_are_accepted_alike.Goals as goal

pub returns : goal.returns
returns c = λ G x y i n t a. accepted-alike x y i n t G a
