use Rattle.std.proofs.Common.{inl, inr, [], ◌∷◌}
use Rattle.std.proofs.lemmas.Option.{IfSome_then}
use Rattle.q_io.specs.Files.{bytes_at}
use Rattle.q_io.proofs.FaultCounts.{rose_later}
use Rattle.q_command.specs.Parts.{share_of}
use Rattle.q_command.specs.Checks.{input_turn, output_turn, log_turn}
use Rattle.q_command.specs.Names.{three_of}
use Rattle.q_command.proofs.FaultTurns.{two-at}
use Rattle.q_command.proofs.FilePieces.{at_same, err_of}
use Rattle.q_command.proofs.LogEnd.{early-parts, files_counted, files_share, held-first}
use Rattle.q_command.proofs.checking.count_steps.Goals as goal

pub returns-in-Ok-check_part_of_log-clause-verified : goal.returns-in-Ok-check_part_of_log-clause-verified
returns-in-Ok-check_part_of_log-clause-verified g c =
    let held = held-first c.in-Ok.ends.from c.in-Ok-new.origin c.in-Ok-new.ensures in
    files_counted (share_of c.args.part) (g.F.Files.held c.args.files.now) (λ disk. bytes_at disk c.args.names.input.now) (λ disk. bytes_at disk c.args.names.output.now) (λ disk. bytes_at disk c.args.names.log.now)
    _ c.in-Ok.ends c.in-Ok-check_part_of_log.passed c.in-Ok.ensures.formulas (at_same _ _ _ c.in-Ok.ensures.only_reads.same (c.in-Ok-check_part_of_log.ensures.taken c.in-Ok.ends.from held))

pub returns-clause-checks : goal.returns-clause-checks
returns-clause-checks g c =
    let held = held-first c.in-Ok.ends.from c.in-Ok-new.origin c.in-Ok-new.ensures in
    files_share (share_of c.args.part) (g.F.Files.held c.args.files.now) (λ disk. bytes_at disk c.args.names.input.now) (λ disk. bytes_at disk c.args.names.output.now) (λ disk. bytes_at disk c.args.names.log.now)
    c.in-Err-check_part_of_log.outcome c.in-Ok.ends c.in-Ok.ensures.formulas (at_same _ _ _ c.in-Ok.ensures.only_reads.same (c.in-Err-check_part_of_log.ensures.says c.in-Ok.ends.from held))

pub returns-in-Err-clause-fault_at : goal.returns-in-Err-clause-fault_at
returns-in-Err-clause-fault_at g c = λ e.
    let n = three_of c.args.names in
    two-at g.F.Files.read_faults (input_turn n) (output_turn n) (log_turn n ∷ []) (g.F.Files.held c.args.files.now) (g.F.Files.held c.read_ends.new.files) c.args.files.now c.read_ends.new.files (c.in-Err.ensures.fault_at (err_of _ _ e))

pub returns-clause-fault_at : goal.returns-clause-fault_at
returns-clause-fault_at g c = λ e.
    inr (inr (inl (
      IfSome_then (g.F.Files.held c.args.files.now) c.in-Ok.ensures.formulas (λ disk a. ((c.in-Ok.ends.from, a.is_input), (c.in-Ok.ends.to, a.is_output))),
      rose_later _ _ _ (c.in-Ok.ensures.only_reads.later.read c.args.names.log.now) (c.in-Err-check_part_of_log.ensures.fault (err_of _ _ e)),
    )))
