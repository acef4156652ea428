use Rattle.std.proofs.Common.{◌≡◌, true}
use Rattle.q_log.specs.Grammar.{is_whole}
use Rattle.q_log.proofs.PlainVariables.{whole_form}
use Rattle.q_log.proofs.builder.StepBuilder.end.Goals as goal

pub new-requires-2 : goal.new-requires-2
new-requires-2 c =
    let whole : is_whole c.args.begun.kind c.args.self.now.lits ≡ true = cc in
    rw c.replace-lits.ensures.value (whole_form c.args.begun.kind c.args.self.now.lits c.requires whole)
