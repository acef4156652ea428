use Rattle.q_refutation.proofs.SharedRefuting.{shares-refute, refutes-shared, numbers-add}
use Rattle.q_refutation.proofs.shared.shares_make_refutations.Goals as goal

pub returns : goal.returns
returns c = record {
  exact = λ js m F ss d. ((λ h. shares-refute js m 0 F ss d h), (λ r j i. refutes-shared j m 0 F ss r));
  counts = numbers-add;
}
