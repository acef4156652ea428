use Rattle.q_shares.proofs.HintedSharedRuns.{hinted-shares-run, hinted-run-share}
use Rattle.q_shares.proofs.laws.hinted_shares_make_runs.Goals as goal

pub returns : goal.returns
returns c js F G hs d = ((λ a. hinted-shares-run js F G hs d a), (λ r j i. hinted-run-share j F G hs r))
