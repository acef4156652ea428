use Rattle.q_shares.specs.Shares.{first_dealt}
use Rattle.q_shares.proofs.SharedRuns.{all-dealt}
use Rattle.q_run_annotate.proofs.JoinedExists.{can-be-joined}
use Rattle.q_run_annotate.proofs.JoinedParts.{joined-parts, parts-counted, single-annotation}
use Rattle.q_run_annotate.proofs.law.joined_parts_are_hinted_logs.Goals as goal

pub returns-clause-joined : goal.returns-clause-joined
returns-clause-joined c = λ n ks log F G texts text h x y. joined-parts (first_dealt 1000 n n) (all-dealt 1000 n h) ks log F G texts text x y

pub returns-clause-counts : goal.returns-clause-counts
returns-clause-counts c = λ n ks log F G texts es h x e. parts-counted (first_dealt 1000 n n) (all-dealt 1000 n h) ks log F G texts es x e

pub returns-clause-single : goal.returns-clause-single
returns-clause-single c = λ log F G text h u. single-annotation log F G text h u

pub returns-clause-there : goal.returns-clause-there
returns-clause-there c = λ n ks log F G texts h x. can-be-joined (first_dealt 1000 n n) (all-dealt 1000 n h) ks log F G texts x
