use Rattle.std.proofs.Common.{◌≡◌, ◌<◌, ◌∙◌, length, ap, refl}
use Rattle.q_logic.specs.Prelude.{HintGroup}
use Rattle.q_logic.proofs.HintGroups.{part-length, part-at}
use Rattle.q_logic.proofs.proof_part.Proof.hints.Goals as goal

pub bounds-start-requires : goal.bounds-start-requires
bounds-start-requires c =
    let l = part-length c.self.inside.kind c.self.inside.number c.self.inside.groups.items c.self.inside.hints.items c.args.self.now c.self.view_is c.in_default.not-Implied in
    let n : c.len.result ≡ length c.self.inside.hints.items = c.len.ensures ∙ c.self.inside.hints.ok.0 in
    record { starts = rw (c.deref-in_default.ensures.value, n) c.self.invariant; at = rw (c.deref-in_default.ensures.value, ← l) c.requires }

pub returns-in_default : goal.returns-in_default
returns-in_default c =
    let l = part-length c.self.inside.kind c.self.inside.number c.self.inside.groups.items c.self.inside.hints.items c.args.self.now c.self.view_is c.in_default.not-Implied in
    let h : c.args.at < length c.self.inside.groups.items = rw (← l) c.requires in
    let p = ap (λ (g : HintGroup). g.hints) (part-at c.self.inside.kind c.self.inside.number c.self.inside.groups.items c.self.inside.hints.items c.args.self.now c.self.view_is c.args.at c.in_default.not-Implied h) in
    let n : c.len.result ≡ length c.self.inside.hints.items = c.len.ensures ∙ c.self.inside.hints.ok.0 in
    rw (p, c.bounds-start.ensures.start, c.bounds-start.ensures.end, c.deref-in_default.ensures.value, c.deref-in_default-2.ensures.value, n) refl
