use Rattle.std.proofs.Common.{◌∙◌, inl, ap, [], ◌∷◌, refl, sym, subst, false, true, Err, IfSome}
use Rattle.q_io.proofs.FaultCounts.{rose_later}
use Rattle.q_command.specs.Checks.{input_turn, output_turn, log_turn}
use Rattle.q_command.proofs.FaultTurns.{three-at}
use Rattle.q_command.proofs.FilePieces.{at_same}
use Rattle.q_command.specs.declared.audit.Keep.{Keep}
use Rattle.q_run_refute.specs.Refutes.{FaultsReading, Refutes, files_of, herbrand_turn, three_read}
use Rattle.q_run_refute.specs.declared.refuted.Refuted.{Refuted}
use Rattle.q_run_refute.proofs.RefuteFiles.{unreversed-joined, circuits-joined, written-joined, circuits-reading, circuits-not_write, unreversed-not_reading, unreversed-not_writing, unverified-reading, plain-joined}
use Rattle.q_run_refute.proofs.refute.refute_in_order.Goals as goal

abbrev keep : Keep
keep = record { undo = false; steps = true }

pub returns-in-Err-reverse-clause-refutes : goal.returns-in-Err-reverse-clause-refutes
returns-in-Err-reverse-clause-refutes g c =
    subst (λ (r : Refuted). IfSome (g.F.Files.held c.args.files.now)
    (λ disk. Refutes r (files_of c.args.names) disk (g.F.Files.held c.verify.new.files))) (sym c.not_reversed.ensures)
    (unreversed-joined keep refl (files_of c.args.names) c.in-Ok.checked c.in-Ok.ensures.kept
    (g.F.Files.held c.args.files.now) (g.F.Files.held c.verify.new.files) c.in-Err-reverse.error
    c.in-Err-reverse.ensures.refused c.in-Ok.ensures.only_reads.same c.in-Ok.ensures.passes)

pub returns-in-Err-reverse-clause-read_fault : goal.returns-in-Err-reverse-clause-read_fault
returns-in-Err-reverse-clause-read_fault g c = λ f.
    absurd (unreversed-not_reading c.in-Err-reverse.error (subst FaultsReading c.not_reversed.ensures f))

pub returns-in-Err-clause-read_fault_at : goal.returns-in-Err-clause-read_fault_at
returns-in-Err-clause-read_fault_at g c = λ f.
    let n = three_read (files_of c.args.names) in
    three-at g.F.Files.read_faults (input_turn n) (output_turn n) (log_turn n) (herbrand_turn (files_of c.args.names) ∷ []) (g.F.Files.held c.args.files.now) (g.F.Files.held c.verify.new.files) c.args.files.now c.verify.new.files
    (c.in-Err.ensures.fault_at (ap Err (unverified-reading c.in-Err.why f)))

pub returns-in-Err-reverse-clause-read_fault_at : goal.returns-in-Err-reverse-clause-read_fault_at
returns-in-Err-reverse-clause-read_fault_at g c = λ f.
    absurd (unreversed-not_reading c.in-Err-reverse.error (subst FaultsReading c.not_reversed.ensures f))

pub returns-in-Err-reverse-clause-write_fault : goal.returns-in-Err-reverse-clause-write_fault
returns-in-Err-reverse-clause-write_fault g c = λ e.
    absurd (unreversed-not_writing c.in-Err-reverse.error (sym c.not_reversed.ensures ∙ e))

pub returns-in-Ok-carry_back-clause-refutes : goal.returns-in-Ok-carry_back-clause-refutes
returns-in-Ok-carry_back-clause-refutes g c =
    let same = c.in-Ok.ensures.only_reads.same in
    let carried = at_same _ _ _ same c.in-Ok-carry_back.ensures.carried in
    let puts = at_same _ _ _ (c.in-Ok-carry_back.ensures.only_reads.same ∙ same) c.write_certificate.ensures.puts in
    written-joined keep refl (files_of c.args.names) c.in-Ok.checked c.in-Ok.ensures.kept c.in-Ok-reverse.reversals
    c.in-Ok-reverse.ensures.reversals (g.F.Files.held c.args.files.now) (g.F.Files.held c.write_certificate.new.files)
    c.in-Ok-carry_back.made c.write_certificate.result c.in-Ok.ensures.passes carried puts

pub returns-in-Ok-carry_back-clause-read_fault : goal.returns-in-Ok-carry_back-clause-read_fault
returns-in-Ok-carry_back-clause-read_fault g c = λ f. absurd (c.write_certificate.ensures.writing f)

pub returns-in-Ok-carry_back-clause-read_fault_at : goal.returns-in-Ok-carry_back-clause-read_fault_at
returns-in-Ok-carry_back-clause-read_fault_at g c = λ f. absurd (c.write_certificate.ensures.writing f)

pub returns-in-Ok-carry_back-clause-write_fault : goal.returns-in-Ok-carry_back-clause-write_fault
returns-in-Ok-carry_back-clause-write_fault g c = λ e.
    rose_later (g.F.Files.write_faults c.args.files.now c.args.names.cert.now)
    (g.F.Files.write_faults c.verify.new.files c.args.names.cert.now)
    (g.F.Files.write_faults c.write_certificate.new.files c.args.names.cert.now)
    (c.in-Ok.ensures.only_reads.later.write c.args.names.cert.now)
    (rose_later (g.F.Files.write_faults c.verify.new.files c.args.names.cert.now)
    (g.F.Files.write_faults c.carry_back.new.files c.args.names.cert.now)
    (g.F.Files.write_faults c.write_certificate.new.files c.args.names.cert.now)
    (c.in-Ok-carry_back.ensures.only_reads.later.write c.args.names.cert.now) (c.write_certificate.ensures.cause e))

pub returns-clause-refutes : goal.returns-clause-refutes
returns-clause-refutes g c =
    let same = c.in-Ok.ensures.only_reads.same in
    circuits-joined keep refl (files_of c.args.names) c.in-Ok.checked c.in-Ok.ensures.kept c.in-Ok-reverse.reversals
    c.in-Ok-reverse.ensures.reversals (g.F.Files.held c.args.files.now) (g.F.Files.held c.carry_back.new.files)
    c.in-Err-carry_back.outcome c.in-Err-carry_back.ensures.of_circuits
    (c.in-Err-carry_back.ensures.only_reads.same ∙ same) c.in-Ok.ensures.passes
    (at_same _ _ _ same c.in-Err-carry_back.ensures.refused)

pub returns-clause-read_fault : goal.returns-clause-read_fault
returns-clause-read_fault g c =
    circuits-reading c.in-Err-carry_back.outcome c.in-Err-carry_back.ensures.of_circuits
    (λ e. rose_later (g.F.Files.read_faults c.args.files.now c.args.names.herbrand.now)
    (g.F.Files.read_faults c.verify.new.files c.args.names.herbrand.now)
    (g.F.Files.read_faults c.carry_back.new.files c.args.names.herbrand.now)
    (c.in-Ok.ensures.only_reads.later.read c.args.names.herbrand.now)
    (c.in-Err-carry_back.ensures.fault (ap Err e)))

pub returns-clause-read_fault_at : goal.returns-clause-read_fault_at
returns-clause-read_fault_at g c =
    circuits-reading c.in-Err-carry_back.outcome c.in-Err-carry_back.ensures.of_circuits
    (λ e. inl (
      plain-joined keep refl (files_of c.args.names) c.in-Ok.checked c.in-Ok.ensures.kept c.in-Ok-reverse.reversals c.in-Ok-reverse.ensures.reversals (g.F.Files.held c.args.files.now) c.in-Ok.ensures.passes,
      rose_later (g.F.Files.read_faults c.args.files.now c.args.names.herbrand.now)
          (g.F.Files.read_faults c.verify.new.files c.args.names.herbrand.now)
          (g.F.Files.read_faults c.carry_back.new.files c.args.names.herbrand.now)
          (c.in-Ok.ensures.only_reads.later.read c.args.names.herbrand.now)
          (c.in-Err-carry_back.ensures.fault (ap Err e)),
    ))

pub returns-clause-write_fault : goal.returns-clause-write_fault
returns-clause-write_fault g c = λ e.
    absurd (circuits-not_write c.in-Err-carry_back.outcome c.in-Err-carry_back.ensures.of_circuits e)
