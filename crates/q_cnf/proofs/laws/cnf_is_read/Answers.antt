use Rattle.q_cnf.proofs.ReadCnf.{cnf-read}
use Rattle.q_cnf.proofs.laws.cnf_is_read.Goals as goal

pub returns : goal.returns
returns c = cnf-read
