use Rattle.std.proofs.Common.{inl, ap, sym, ◌∙◌, Err}
use Rattle.std.proofs.lemmas.Option.{IfSome_then}
use Rattle.q_command.proofs.FaultTurns.{at_once}
use Rattle.q_command.proofs.FilePieces.{if_some_2, at_same, err-is}
use Rattle.q_command.specs.Parts.{share_of}
use Rattle.q_run_show.specs.Shows.{files_of}
use Rattle.q_run_show.proofs.ShowOutcome.{input-fault, is-shown, no-input}
use Rattle.q_run_show.proofs.files.hint_files.Goals as goal

pub returns-in-Err-clause-refused : goal.returns-in-Err-clause-refused
returns-in-Err-clause-refused g c =
    IfSome_then (g.F.Files.held c.args.files.now) c.in-Err.ensures.refused
    (λ disk r. no-input (share_of c.args.part) c.in-Err.error c.refused_input.result (files_of c.args.names) c.args.binary disk c.refused_input.ensures r)

pub returns-in-Err-clause-fault : goal.returns-in-Err-clause-fault
returns-in-Err-clause-fault g c = λ e.
    inl (c.in-Err.ensures.fault (ap Err (input-fault c.in-Err.error (sym c.refused_input.ensures ∙ err-is _ _ e))))

pub returns-in-Err-clause-fault_at : goal.returns-in-Err-clause-fault_at
returns-in-Err-clause-fault_at g c = λ e.
    inl (at_once (g.F.Files.held c.args.files.now), c.in-Err.ensures.fault (ap Err (input-fault c.in-Err.error (sym c.refused_input.ensures ∙ err-is _ _ e))))

pub returns-in-Shown-clause-shown : goal.returns-in-Shown-clause-shown
returns-in-Shown-clause-shown g c =
    if_some_2 (g.F.Files.held c.args.files.now) c.in-Ok.ensures.formula (at_same _ _ _ c.in-Ok.ensures.only_reads.same c.in-Shown.ensures.says)
    (λ disk f h. is-shown (share_of c.args.part) (files_of c.args.names) c.args.binary disk c.in-Ok.formula c.in-Shown.hinted.steps c.in-Shown.hinted.text.items f h)
