use Rattle.std.proofs.Common.{ap, ◌∙◌, arith, length, get_or, ◌<◌}
use Rattle.q_arena.specs.declared.rings.Link.{Link}
use Rattle.q_arena.proofs.ArenaView.{count-is, length-lists}
use Rattle.q_arena.proofs.rings.Rings.count.Goals as goal

pub returns : goal.returns
returns c =
    let p = c.self.inside.places.items in
    let h = c.self.inside.heads.items in
    let n = length-lists p h in
    let head : c.args.head < length h = omega (arith, n, rw (← c.self.view_is) at c.requires) in
    let e = c.look.ensures ∙ ap (λ (d : Link). get_or h c.args.head d) c.self.invariant.blank_heads in
    rw (← c.self.view_is) (ap (λ (k : Link). k.tag) e ∙ count-is p h c.self.invariant.sound c.args.head head)
