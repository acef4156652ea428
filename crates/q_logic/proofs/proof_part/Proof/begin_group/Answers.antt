use Rattle.std.proofs.Common.{◌≡◌, ◌∙◌, length}
use Rattle.q_logic.specs.declared.proof_part.GroupStart.{GroupStart}
use Rattle.q_logic.proofs.HintGroups.{starts-push, part-group}
use Rattle.q_logic.proofs.proof_part.Proof.begin_group.Goals as goal

pub invariant_of-self-2 : goal.invariant_of-self-2
invariant_of-self-2 c =
    let g : GroupStart = record { target = c.args.target; start = c.len-start.result } in
    let n : c.len-start.result ≡ length c.self.inside.hints.items = c.len-start.ensures ∙ c.self.inside.hints.ok.0 in
    let e = c.in_ok-push.ensures.items in
    rw e (starts-push 0 c.self.inside.groups.items g _ n c.self.invariant)

pub returns-clause-ok : goal.returns-clause-ok
returns-clause-ok c =
    let g : GroupStart = record { target = c.args.target; start = c.len-start.result } in
    let n : c.len-start.result ≡ length c.self.inside.hints.items = c.len-start.ensures ∙ c.self.inside.hints.ok.0 in
    let e = c.in_ok-push.ensures.items in
    rw e (part-group c.self.inside.kind c.self.inside.number c.self.inside.groups.items c.self.inside.hints.items c.args.self.now c.self.view_is g c.requires n)
