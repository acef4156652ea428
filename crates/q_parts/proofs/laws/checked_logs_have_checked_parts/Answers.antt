use Rattle.q_parts.proofs.CheckedParts.{checks-rest}
use Rattle.q_parts.proofs.laws.checked_logs_have_checked_parts.Goals as goal

pub returns : goal.returns
returns c = checks-rest
