use Rattle.std.proofs.Common.{◌<◌, ◌⊎◌, sym, ◌∙◌, subst, arith, List, ℕ, length}
use Rattle.q_arena.specs.Prelude.{Has}
use Rattle.q_kernel.specs.Uses.{Groups, group_of}
use Rattle.q_kernel.proofs.VariableGroups.{tagged-taken, tagged-put, taken-gone, idle-there, head-small}
use Rattle.q_kernel.proofs.uses.Uses.occur.Goals as goal

pub push_front-requires-clause-fresh : goal.push_front-requires-clause-fresh
push_front-requires-clause-fresh c =
    let one_of = subst (λ (g : Groups). Has g.idle c.args.var ⊎ Has (group_of g c.args.quant) c.args.var) (sym c.self.view_is) c.requires in
    let there = idle-there c.self.inside.rings c.args.quant c.args.var c.self.invariant one_of (sym c.owner.ensures ∙ c.if-owner-eq0.true) in
    taken-gone c.self.inside.rings c.remove.new.self 0 c.args.var c.self.invariant (omega arith) c.remove.ensures.lists c.distinct.ensures.apart c.distinct.ensures.one there

pub invariant_of-self : goal.invariant_of-self
invariant_of-self c =
    let one_of = subst (λ (g : Groups). Has g.idle c.args.var ⊎ Has (group_of g c.args.quant) c.args.var) (sym c.self.view_is) c.requires in
    let there = idle-there c.self.inside.rings c.args.quant c.args.var c.self.invariant one_of (sym c.owner.ensures ∙ c.if-owner-eq0.true) in
    let fresh = taken-gone c.self.inside.rings c.remove.new.self 0 c.args.var c.self.invariant (omega arith) c.remove.ensures.lists c.distinct.ensures.apart c.distinct.ensures.one there in
    let room : c.args.var < length c.remove.new.self.owners = subst (λ (os : List ℕ). c.args.var < length os) (sym c.remove.ensures.owners) (c.distinct.ensures.below 0 c.args.var there) in
    tagged-put c.remove.new.self c.push_front.new.self c.head_of-head.result c.args.var
    (tagged-taken c.self.inside.rings c.remove.new.self 0 c.args.var c.self.invariant (omega arith) c.remove.ensures.lists c.remove.ensures.owners)
    (omega (arith, head-small c.args.quant, c.head_of-head.ensures)) fresh room c.push_front.ensures.lists c.push_front.ensures.owners (omega (arith, c.ranges.var))
