use Rattle.std.proofs.lemmas.Option.{IfSome_then}
use Rattle.q_io.specs.Files.{bytes_at}
use Rattle.q_command.specs.Parts.{share_of}
use Rattle.q_command.proofs.CheckLaws.{verified-truths}
use Rattle.q_command.proofs.WholeShares.{whole-checks}
use Rattle.q_command.proofs.checking.check.Goals as goal

pub returns-clause-checks : goal.returns-clause-checks
returns-clause-checks g c =
    IfSome_then (g.F.Files.held c.args.files.now) c.check_part.ensures.checks
    (λ disk h. whole-checks (share_of c.whole.result) c.whole.ensures c.check_part.result (bytes_at disk c.args.names.input.now) (bytes_at disk c.args.names.output.now) (bytes_at disk c.args.names.log.now) h)

pub returns-clause-truth : goal.returns-clause-truth
returns-clause-truth g c =
    verified-truths c.check_part.result (g.F.Files.held c.args.files.now) (λ disk. bytes_at disk c.args.names.input.now) (λ disk. bytes_at disk c.args.names.output.now) (λ disk. bytes_at disk c.args.names.log.now)
    (IfSome_then (g.F.Files.held c.args.files.now) c.check_part.ensures.checks
    (λ disk h. whole-checks (share_of c.whole.result) c.whole.ensures c.check_part.result (bytes_at disk c.args.names.input.now) (bytes_at disk c.args.names.output.now) (bytes_at disk c.args.names.log.now) h))
