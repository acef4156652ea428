use Rattle.q_encode.proofs.GivenCircuits.{given-decided}
use Rattle.q_encode.proofs.laws.miters_decide_given_circuits.Goals as goal

pub returns : goal.returns
returns c side F given X G f l m g = given-decided side F given X G f l m g
