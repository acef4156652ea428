use Rattle.std.proofs.Common.{◌∙◌, sym}
use Rattle.q_logic.proofs.HintGroups.{part-length}
use Rattle.q_logic.proofs.proof_part.Proof.groups.Goals as goal

pub returns-in_default : goal.returns-in_default
returns-in_default c =
    let l = part-length c.self.inside.kind c.self.inside.number c.self.inside.groups.items c.self.inside.hints.items c.args.self.now c.self.view_is c.in_default.not-Implied in
    c.len.ensures ∙ c.self.inside.groups.ok.0 ∙ sym l
