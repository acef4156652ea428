use Rattle.q_run_annotate.proofs.AnnotatedLog.{accepted, counted}
use Rattle.q_run_annotate.proofs.law.annotated_is_verified.Goals as goal

pub returns-clause-verified : goal.returns-clause-verified
returns-clause-verified c = accepted

pub returns-clause-count : goal.returns-clause-count
returns-clause-count c = counted
