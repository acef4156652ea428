use Rattle.std.proofs.lemmas.Option.{IfSome_then}
use Rattle.q_run_apply.specs.Applications.{files_of}
use Rattle.q_run_apply.proofs.ApplyOutcome.{reached-of}
use Rattle.q_run_apply.proofs.applying.reach.Goals as goal

pub returns-in-Ok-formula_behind-clause-reached : goal.returns-in-Ok-formula_behind-clause-reached
returns-in-Ok-formula_behind-clause-reached g c =
    IfSome_then (g.F.Files.held c.args.files.now) c.in-Ok.ensures.made
    (λ disk h. reached-of (files_of c.args.names) disk c.in-Ok.made c.in-Ok-formula_behind.reached c.in-Ok-formula_behind.ensures.reaches h)
