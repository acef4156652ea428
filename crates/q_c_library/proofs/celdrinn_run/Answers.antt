use Rattle.std.proofs.Common.{inl, inr}
use Rattle.q_c_library.proofs.MoveLists.{unlisted}
use Rattle.q_c_library.proofs.celdrinn_run.Goals as goal

pub returns : goal.returns
returns c = unlisted _ _ _ _ (λ h. inr (inl h)) c.celdrinn_run_listed.ensures
