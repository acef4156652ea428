use Rattle.q_shares.proofs.SharedRuns.{shares-run, run-share, counts-sum}
use Rattle.q_shares.proofs.laws.shares_make_runs.Goals as goal

pub returns : goal.returns
returns c = record {
  exact = λ js F G ss d. ((λ h. shares-run js F G ss d h), (λ r j i. run-share j F G ss r));
  counts = λ js ss d. counts-sum js 0 ss d;
}
