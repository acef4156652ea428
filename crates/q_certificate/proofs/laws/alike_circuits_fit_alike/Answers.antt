use Rattle.q_certificate.proofs.AlikeFit.{fits-alike}
use Rattle.q_certificate.proofs.laws.alike_circuits_fit_alike.Goals as goal

pub returns : goal.returns
returns c = λ P x y i n t a. fits-alike x y i n t P a
