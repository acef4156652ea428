use Rattle.std.proofs.Common.{◌∙◌}
use Rattle.q_command.proofs.PutLines.{said-same}
use Rattle.q_app.proofs.rebuilt.Rebuilt.say.Goals as goal

pub returns : goal.returns
returns g c =
    said-same c.as_bytes.result.now _ c.status.result _ c.put.result _ _ (c.as_bytes.ensures.value ∙ (c.as_str.ensures.value ∙ c.line.ensures)) c.status.ensures c.put.ensures
