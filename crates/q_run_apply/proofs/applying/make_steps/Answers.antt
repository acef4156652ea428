use Rattle.std.proofs.Common.{◌∙◌, inl, inr, sym, ap, Err}
use Rattle.std.proofs.lemmas.Option.{IfSome_then}
use Rattle.q_io.proofs.FaultCounts.{rose_later}
use Rattle.q_command.proofs.FaultTurns.{at_once}
use Rattle.q_command.proofs.FilePieces.{if_some_2, at_same, err-is, err_goes, ok_goes}
use Rattle.q_run_apply.specs.Applications.{files_of}
use Rattle.q_run_apply.proofs.ApplyOutcome.{input-fault, input-refused, made-of, refused-of}
use Rattle.q_run_apply.proofs.applying.make_steps.Goals as goal

pub returns-in-Ok-clause-made : goal.returns-in-Ok-clause-made
returns-in-Ok-clause-made g c =
    ok_goes _ c.make_log.result (g.F.Files.held c.args.files.now) c.make_log.ensures.made
    (λ m h. if_some_2 (g.F.Files.held c.args.files.now) c.in-Ok.ensures.formula (at_same _ _ _ c.in-Ok.ensures.only_reads.same h)
    (λ disk f k. made-of (files_of c.args.names) disk c.in-Ok.formula m f k))

pub returns-in-Ok-clause-refused : goal.returns-in-Ok-clause-refused
returns-in-Ok-clause-refused g c =
    err_goes _ c.make_log.result (g.F.Files.held c.args.files.now) c.make_log.ensures.refused
    (λ w h. if_some_2 (g.F.Files.held c.args.files.now) c.in-Ok.ensures.formula (at_same _ _ _ c.in-Ok.ensures.only_reads.same h)
    (λ disk f k. refused-of w (files_of c.args.names) disk c.in-Ok.formula f k))

pub returns-in-Err-clause-refused : goal.returns-in-Err-clause-refused
returns-in-Err-clause-refused g c =
    IfSome_then (g.F.Files.held c.args.files.now) c.in-Err.ensures.refused
    (λ disk r. input-refused c.in-Err.error c.refused_input.result (files_of c.args.names) disk c.refused_input.ensures.is r)

pub returns-in-Err-clause-fault : goal.returns-in-Err-clause-fault
returns-in-Err-clause-fault g c = λ e. inl (c.in-Err.ensures.fault (ap Err (input-fault c.in-Err.error (sym c.refused_input.ensures.is ∙ err-is _ _ e))))

pub returns-in-Ok-clause-fault_at : goal.returns-in-Ok-clause-fault_at
returns-in-Ok-clause-fault_at g c = λ e.
    inr (inl (
      IfSome_then (g.F.Files.held c.args.files.now) c.in-Ok.ensures.formula (λ disk f. (c.in-Ok.formula, f)),
      rose_later _ _ _ (c.in-Ok.ensures.only_reads.later.read c.args.names.log.now) (c.make_log.ensures.fault e),
    ))

pub returns-in-Err-clause-fault_at : goal.returns-in-Err-clause-fault_at
returns-in-Err-clause-fault_at g c = λ e.
    inl (at_once (g.F.Files.held c.args.files.now), c.in-Err.ensures.fault (ap Err (input-fault c.in-Err.error (sym c.refused_input.ensures.is ∙ err-is _ _ e))))
