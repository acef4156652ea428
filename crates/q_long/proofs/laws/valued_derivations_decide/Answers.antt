use Rattle.q_long.proofs.Finishing.{ended-skolem, ended-herbrand}
use Rattle.q_long.proofs.laws.valued_derivations_decide.Goals as goal

pub returns : goal.returns
returns c = record { skolem = ended-skolem; herbrand = ended-herbrand }
