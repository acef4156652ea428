use Rattle.std.proofs.Common.{inl, inr}
use Rattle.std.proofs.lemmas.Option.{IfSome_then}
use Rattle.q_io.proofs.FaultCounts.{rose_later}
use Rattle.q_command.proofs.FaultTurns.{at_once}
use Rattle.q_command.proofs.FilePieces.{err_of}
use Rattle.q_command.proofs.checking.read_ends.Goals as goal

pub returns-in-Err-clause-fault_at : goal.returns-in-Err-clause-fault_at
returns-in-Err-clause-fault_at g c = λ e. inl (at_once (g.F.Files.held c.args.files.now), c.in-Err.ensures.fault (err_of _ _ e))

pub returns-in-Err-read_operand-clause-fault_at : goal.returns-in-Err-read_operand-clause-fault_at
returns-in-Err-read_operand-clause-fault_at g c = λ e.
    inr (inl (
      IfSome_then (g.F.Files.held c.args.files.now) c.in-Ok.ensures.formula (λ disk f. (c.in-Ok.formula, f)),
      rose_later _ _ _ (c.in-Ok.ensures.only_reads.later.read c.args.names.output.now) (c.in-Err-read_operand.ensures.fault (err_of _ _ e)),
    ))
