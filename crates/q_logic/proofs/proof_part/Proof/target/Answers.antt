use Rattle.std.proofs.Common.{◌<◌, length, ap, arith}
use Rattle.std.proofs.lemmas.Grind.{common_steps}
use Rattle.q_logic.specs.Prelude.{HintGroup}
use Rattle.q_logic.proofs.HintGroups.{part-length, part-at}
use Rattle.q_logic.proofs.proof_part.Proof.target.Goals as goal

pub index-requires : goal.index-requires
index-requires c =
    let l = part-length c.self.inside.kind c.self.inside.number c.self.inside.groups.items c.self.inside.hints.items c.args.self.now c.self.view_is c.in_default.not-Implied in
    let v = c.self.inside.groups.ok.0 in
    rw (v, ← l) c.requires

pub returns-in_default : goal.returns-in_default
returns-in_default c =
    let l = part-length c.self.inside.kind c.self.inside.number c.self.inside.groups.items c.self.inside.hints.items c.args.self.now c.self.view_is c.in_default.not-Implied in
    let h : c.args.at < length c.self.inside.groups.items = rw (← l) c.requires in
    let p = ap (λ (g : HintGroup). g.target) (part-at c.self.inside.kind c.self.inside.number c.self.inside.groups.items c.self.inside.hints.items c.args.self.now c.self.view_is c.args.at c.in_default.not-Implied h) in
    let e = c.index.ensures in
    grind (arith, common_steps, p)
