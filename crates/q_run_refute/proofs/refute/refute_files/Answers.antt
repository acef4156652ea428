use Rattle.q_run_refute.proofs.RefuteFiles.{reading-status, writing-status}
use Rattle.q_run_refute.proofs.refute.refute_files.Goals as goal

pub returns-clause-read_fault : goal.returns-clause-read_fault
returns-clause-read_fault g c = λ e. c.refute_in_order-refuted.ensures.read_fault (reading-status c.refute_in_order-refuted.result e)

pub returns-clause-read_fault_at : goal.returns-clause-read_fault_at
returns-clause-read_fault_at g c = λ e. c.refute_in_order-refuted.ensures.read_fault_at (reading-status c.refute_in_order-refuted.result e)

pub returns-clause-write_fault : goal.returns-clause-write_fault
returns-clause-write_fault g c = λ e. c.refute_in_order-refuted.ensures.write_fault (writing-status c.refute_in_order-refuted.result e)
