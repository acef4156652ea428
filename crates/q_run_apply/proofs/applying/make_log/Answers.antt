use Rattle.std.proofs.lemmas.Option.{IfSome_then}
use Rattle.q_command.proofs.FilePieces.{err_goes, if_some, ok_goes}
use Rattle.q_run_apply.proofs.applying.make_log.Goals as goal

pub returns-in-Ok-start-clause-made : goal.returns-in-Ok-start-clause-made
returns-in-Ok-start-clause-made g c =
    ok_goes _ c.read_log.result (g.F.Files.held c.args.files.now) c.read_log.ensures.made
    (λ m h. IfSome_then (g.F.Files.held c.args.files.now) h (λ disk k. k c.args.formula c.in-Ok-start.ensures.started))

pub returns-in-Ok-start-clause-refused : goal.returns-in-Ok-start-clause-refused
returns-in-Ok-start-clause-refused g c =
    err_goes _ c.read_log.result (g.F.Files.held c.args.files.now) c.read_log.ensures.refused
    (λ w h. IfSome_then (g.F.Files.held c.args.files.now) h (λ disk k. k c.args.formula c.in-Ok-start.ensures.started))

pub returns-clause-refused : goal.returns-clause-refused
returns-clause-refused g c = if_some (g.F.Files.held c.args.files.now) (λ disk. tt)
