use Rattle.std.proofs.Common.{◌<◌, length, subst}
use Rattle.q_logic.proofs.HitNodes.{length-inputs}
use Rattle.q_validate.proofs.node.NodePosition.down.Goals as goal

pub give-requires : goal.give-requires
give-requires c = subst (λ n. length c.args.self.now.path < n) (length-inputs c.args.self.now.certificate.inputs) c.requires
