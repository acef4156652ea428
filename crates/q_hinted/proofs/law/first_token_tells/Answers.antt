use Rattle.q_hinted.proofs.Profiles.{plain-read, no-steps, parts-read}
use Rattle.q_hinted.proofs.law.first_token_tells.Goals as goal

pub returns-clause-plain : goal.returns-clause-plain
returns-clause-plain c = plain-read

pub returns-clause-apart : goal.returns-clause-apart
returns-clause-apart c = no-steps

pub returns-clause-parts : goal.returns-clause-parts
returns-clause-parts c = parts-read
