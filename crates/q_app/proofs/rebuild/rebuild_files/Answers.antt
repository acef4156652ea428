use Rattle.std.proofs.Common.{◌∙◌, inl, ap, [], ◌∷◌, Err}
use Rattle.q_io.proofs.FaultCounts.{rose_later}
use Rattle.q_command.specs.Checks.{input_turn, output_turn, log_turn}
use Rattle.q_command.proofs.FaultTurns.{three-at}
use Rattle.q_command.proofs.FilePieces.{at_same}
use Rattle.q_app.specs.Commands.{five_of}
use Rattle.q_app.specs.Rebuilds.{skolem_turn, three_read}
use Rattle.q_app.proofs.RebuildFiles.{circuits-not_write, circuits-reading, failed, joined, unverified-reading, verified-files}
use Rattle.q_app.proofs.rebuild.rebuild_files.Goals as goal

pub returns-in-Ok-carry_back-clause-rebuilds : goal.returns-in-Ok-carry_back-clause-rebuilds
returns-in-Ok-carry_back-clause-rebuilds g c =
    let carried = at_same _ _ _ c.in-Ok.ensures.only_reads.same c.in-Ok-carry_back.ensures.carried in
    let puts = at_same _ _ _ (c.in-Ok-carry_back.ensures.only_reads.same ∙ c.in-Ok.ensures.only_reads.same) c.write_certificate.ensures.puts in
    joined (g.F.Files.held c.args.files.now) _ c.args.names.input.now c.args.names.output.now c.args.names.log.now c.args.names.skolem.now c.args.names.cert.now c.in-Ok.checked c.in-Ok-carry_back.made c.write_certificate.result c.in-Ok.ensures.passes carried puts

pub returns-in-Ok-carry_back-clause-read_fault : goal.returns-in-Ok-carry_back-clause-read_fault
returns-in-Ok-carry_back-clause-read_fault g c = λ f. absurd (c.write_certificate.ensures.writing f)

pub returns-in-Err-clause-read_fault_at : goal.returns-in-Err-clause-read_fault_at
returns-in-Err-clause-read_fault_at g c = λ f.
    let n = three_read (five_of c.args.names) in
    three-at g.F.Files.read_faults (input_turn n) (output_turn n) (log_turn n) (skolem_turn (five_of c.args.names) ∷ []) (g.F.Files.held c.args.files.now) (g.F.Files.held c.verify.new.files) c.args.files.now c.verify.new.files
    (c.in-Err.ensures.fault_at (ap Err (unverified-reading c.in-Err.why f)))

pub returns-in-Ok-carry_back-clause-read_fault_at : goal.returns-in-Ok-carry_back-clause-read_fault_at
returns-in-Ok-carry_back-clause-read_fault_at g c = λ f. absurd (c.write_certificate.ensures.writing f)

pub returns-in-Ok-carry_back-clause-write_fault : goal.returns-in-Ok-carry_back-clause-write_fault
returns-in-Ok-carry_back-clause-write_fault g c = λ e.
    rose_later (g.F.Files.write_faults c.args.files.now c.args.names.cert.now) (g.F.Files.write_faults c.verify.new.files c.args.names.cert.now) (g.F.Files.write_faults c.write_certificate.new.files c.args.names.cert.now) (c.in-Ok.ensures.only_reads.later.write c.args.names.cert.now)
    (rose_later (g.F.Files.write_faults c.verify.new.files c.args.names.cert.now) (g.F.Files.write_faults c.carry_back.new.files c.args.names.cert.now) (g.F.Files.write_faults c.write_certificate.new.files c.args.names.cert.now) (c.in-Ok-carry_back.ensures.only_reads.later.write c.args.names.cert.now) (c.write_certificate.ensures.cause e))

pub returns-clause-read_fault : goal.returns-clause-read_fault
returns-clause-read_fault g c =
    circuits-reading c.in-Err-carry_back.outcome c.in-Err-carry_back.ensures.of_circuits
    (λ e. rose_later (g.F.Files.read_faults c.args.files.now c.args.names.skolem.now) (g.F.Files.read_faults c.verify.new.files c.args.names.skolem.now) (g.F.Files.read_faults c.carry_back.new.files c.args.names.skolem.now) (c.in-Ok.ensures.only_reads.later.read c.args.names.skolem.now) (c.in-Err-carry_back.ensures.fault (ap Err e)))

pub returns-clause-read_fault_at : goal.returns-clause-read_fault_at
returns-clause-read_fault_at g c =
    circuits-reading c.in-Err-carry_back.outcome c.in-Err-carry_back.ensures.of_circuits
    (λ e. inl (
      verified-files (g.F.Files.held c.args.files.now) c.args.names.input.now c.args.names.output.now c.args.names.log.now c.in-Ok.checked c.in-Ok.ensures.passes,
      rose_later (g.F.Files.read_faults c.args.files.now c.args.names.skolem.now) (g.F.Files.read_faults c.verify.new.files c.args.names.skolem.now) (g.F.Files.read_faults c.carry_back.new.files c.args.names.skolem.now) (c.in-Ok.ensures.only_reads.later.read c.args.names.skolem.now) (c.in-Err-carry_back.ensures.fault (ap Err e)),
    ))

pub returns-clause-write_fault : goal.returns-clause-write_fault
returns-clause-write_fault g c = λ e. absurd (circuits-not_write c.in-Err-carry_back.outcome c.in-Err-carry_back.ensures.of_circuits e)

pub returns-clause-rebuilds : goal.returns-clause-rebuilds
returns-clause-rebuilds g c =
    failed (g.F.Files.held c.args.files.now) (g.F.Files.held c.carry_back.new.files) c.args.names.input.now c.args.names.output.now c.args.names.log.now c.args.names.skolem.now c.args.names.cert.now c.in-Ok.checked c.in-Err-carry_back.outcome
    (c.in-Err-carry_back.ensures.only_reads.same ∙ c.in-Ok.ensures.only_reads.same) c.in-Ok.ensures.passes
    (at_same _ _ _ c.in-Ok.ensures.only_reads.same c.in-Err-carry_back.ensures.refused)
