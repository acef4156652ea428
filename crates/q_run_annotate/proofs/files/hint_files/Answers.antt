use Rattle.std.proofs.Common.{inl, inr, [], ◌∷◌}
use Rattle.std.proofs.lemmas.Option.{IfSome_then}
use Rattle.q_io.proofs.FaultCounts.{rose_later}
use Rattle.q_command.specs.Checks.{input_turn, output_turn, log_turn}
use Rattle.q_command.proofs.FaultTurns.{two-at}
use Rattle.q_command.proofs.FilePieces.{if_some_2, at_same, err_goes, err_of, ok_goes}
use Rattle.q_io.specs.Files.{bytes_at}
use Rattle.q_command.specs.Parts.{share_of}
use Rattle.q_run_annotate.proofs.AnnotateOutcome.{between_ends, early_checks, log_checks}
use Rattle.q_run_annotate.specs.AnnotatedParts.{LogRefusesShared}
use Rattle.q_run_annotate.specs.Annotates.{files_of, three_read}
use Rattle.q_run_annotate.proofs.files.hint_files.Goals as goal

pub returns-in-Err-clause-refused : goal.returns-in-Err-clause-refused
returns-in-Err-clause-refused g c =
    IfSome_then (g.F.Files.held c.args.files.now) c.in-Err.ensures.checks (λ disk h. early_checks (λ x F G. LogRefusesShared (share_of c.args.part) x F G (bytes_at disk c.args.names.log.now)) c.in-Err.outcome _ _ _ c.in-Err.ensures.early h)

pub returns-clause-annotated : goal.returns-clause-annotated
returns-clause-annotated g c =
    ok_goes _ c.read_log.result (g.F.Files.held c.args.files.now) c.read_log.ensures.annotation
    (λ t h. between_ends (share_of c.args.part) (g.F.Files.held c.args.files.now) (files_of c.args.names) c.in-Ok.ends t.steps t.text.items c.in-Ok.ensures.formulas (at_same _ _ _ c.in-Ok.ensures.only_reads.same h))

pub returns-clause-refused : goal.returns-clause-refused
returns-clause-refused g c =
    err_goes _ c.read_log.result (g.F.Files.held c.args.files.now) c.read_log.ensures.refused
    (λ w h. if_some_2 (g.F.Files.held c.args.files.now) c.in-Ok.ensures.formulas (at_same _ _ _ c.in-Ok.ensures.only_reads.same h)
    (λ disk f r. log_checks (share_of c.args.part) w _ _ _ c.in-Ok.ends f r))

pub returns-in-Err-clause-fault_at : goal.returns-in-Err-clause-fault_at
returns-in-Err-clause-fault_at g c = λ e.
    let n = three_read (files_of c.args.names) in
    two-at g.F.Files.read_faults (input_turn n) (output_turn n) (log_turn n ∷ []) (g.F.Files.held c.args.files.now) (g.F.Files.held c.read_ends.new.files) c.args.files.now c.read_ends.new.files (c.in-Err.ensures.fault_at (err_of _ _ e))

pub returns-clause-fault_at : goal.returns-clause-fault_at
returns-clause-fault_at g c = λ e.
    inr (inr (inl (
      IfSome_then (g.F.Files.held c.args.files.now) c.in-Ok.ensures.formulas (λ disk a. ((c.in-Ok.ends.from, a.is_input), (c.in-Ok.ends.to, a.is_output))),
      rose_later _ _ _ (c.in-Ok.ensures.only_reads.later.read c.args.names.log.now) (c.read_log.ensures.fault e),
    )))
