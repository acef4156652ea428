use Rattle.q_command.specs.Parts.{share_of}
use Rattle.q_run_disprove.specs.Disproofs.{files_of}
use Rattle.q_run_disprove.proofs.DisproveOutcome.{whole-disproves}
use Rattle.q_run_disprove.proofs.disproving.disprove_files.Goals as goal

pub returns-clause-disproves : goal.returns-clause-disproves
returns-clause-disproves g c =
    whole-disproves (share_of c.whole.result) c.whole.ensures c.disprove_shared.result (files_of c.args.names) c.args.binary
    (g.F.Files.held c.args.files.now) (g.F.Files.held c.disprove_shared.new.files) c.disprove_shared.ensures.held c.disprove_shared.ensures.says
