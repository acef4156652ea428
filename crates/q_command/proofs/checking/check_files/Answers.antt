use Rattle.std.proofs.Common.{inl, inr, [], ◌∷◌}
use Rattle.std.proofs.lemmas.Option.{IfSome_then}
use Rattle.q_logic.proofs.Common.{ok_then}
use Rattle.q_io.specs.Files.{bytes_at}
use Rattle.q_io.proofs.FaultCounts.{rose_later}
use Rattle.q_command.specs.Checks.{LeadsBack}
use Rattle.q_command.specs.Taken.{AreRun}
use Rattle.q_command.specs.declared.checking.Checked.{Checked}
use Rattle.q_command.specs.Checks.{input_turn, output_turn, log_turn}
use Rattle.q_command.specs.Names.{three_of}
use Rattle.q_command.proofs.FaultTurns.{two-at}
use Rattle.q_command.proofs.FilePieces.{at_same, err_of}
use Rattle.q_command.proofs.LogEnd.{ends-as, files_pass, files_say, held-first}
use Rattle.q_command.proofs.checking.check_files.Goals as goal

pub returns-in-Ok-check_log-clause-passes : goal.returns-in-Ok-check_log-clause-passes
returns-in-Ok-check_log-clause-passes g c =
    let held = held-first c.in-Ok.ends.from c.in-Ok-new.origin c.in-Ok-new.ensures in
    let log = at_same _ _ _ c.in-Ok.ensures.only_reads.same (c.in-Ok-check_log.ensures.taken c.in-Ok.ends.from held) in
    ok_then c.with_ends.result c.with_ends.ensures.checked
    (λ x w. files_pass (g.F.Files.held c.args.files.now) (λ disk. bytes_at disk c.args.names.input.now) (λ disk. bytes_at disk c.args.names.output.now) (λ disk. bytes_at disk c.args.names.log.now)
    c.args.keep c.in-Ok.ends c.in-Ok-check_log.passed x (c.in-Ok-check_log.ensures.held c.in-Ok.ends.from held) w c.in-Ok.ensures.formulas log)

pub returns-in-Ok-check_log-clause-run : goal.returns-in-Ok-check_log-clause-run
returns-in-Ok-check_log-clause-run g c =
    let held = held-first c.in-Ok.ends.from c.in-Ok-new.origin c.in-Ok-new.ensures in
    ok_then c.with_ends.result c.with_ends.ensures.checked
    (λ x w. ends-as (λ (y : Checked). LeadsBack c.args.keep.undo y.from y.to y.undo) c.in-Ok.ends.from c.in-Ok.ends.to c.in-Ok-check_log.passed x (c.in-Ok-check_log.ensures.held c.in-Ok.ends.from held) w (c.in-Ok-check_log.ensures.run c.in-Ok.ends.from held))

pub returns-in-Ok-check_log-clause-kept : goal.returns-in-Ok-check_log-clause-kept
returns-in-Ok-check_log-clause-kept g c =
    let held = held-first c.in-Ok.ends.from c.in-Ok-new.origin c.in-Ok-new.ensures in
    ok_then c.with_ends.result c.with_ends.ensures.checked
    (λ x w. ends-as (λ (y : Checked). AreRun c.args.keep.steps y.from y.to y.taken.items) c.in-Ok.ends.from c.in-Ok.ends.to c.in-Ok-check_log.passed x (c.in-Ok-check_log.ensures.held c.in-Ok.ends.from held) w (c.in-Ok-check_log.ensures.kept c.in-Ok.ends.from held))

pub returns-in-Err-check_log-clause-checks : goal.returns-in-Err-check_log-clause-checks
returns-in-Err-check_log-clause-checks g c =
    let held = held-first c.in-Ok.ends.from c.in-Ok-new.origin c.in-Ok-new.ensures in
    files_say (g.F.Files.held c.args.files.now) (λ disk. bytes_at disk c.args.names.input.now) (λ disk. bytes_at disk c.args.names.output.now) (λ disk. bytes_at disk c.args.names.log.now)
    c.in-Err-check_log.outcome c.in-Ok.ends c.in-Ok.ensures.formulas (at_same _ _ _ c.in-Ok.ensures.only_reads.same (c.in-Err-check_log.ensures.says c.in-Ok.ends.from held))

pub returns-in-Err-clause-fault_at : goal.returns-in-Err-clause-fault_at
returns-in-Err-clause-fault_at g c = λ e.
    let n = three_of c.args.names in
    two-at g.F.Files.read_faults (input_turn n) (output_turn n) (log_turn n ∷ []) (g.F.Files.held c.args.files.now) (g.F.Files.held c.read_ends.new.files) c.args.files.now c.read_ends.new.files (c.in-Err.ensures.fault_at (err_of _ _ e))

pub returns-in-Err-check_log-clause-fault_at : goal.returns-in-Err-check_log-clause-fault_at
returns-in-Err-check_log-clause-fault_at g c = λ e.
    inr (inr (inl (
      IfSome_then (g.F.Files.held c.args.files.now) c.in-Ok.ensures.formulas (λ disk a. ((c.in-Ok.ends.from, a.is_input), (c.in-Ok.ends.to, a.is_output))),
      rose_later _ _ _ (c.in-Ok.ensures.only_reads.later.read c.args.names.log.now) (c.in-Err-check_log.ensures.fault (err_of _ _ e)),
    )))
