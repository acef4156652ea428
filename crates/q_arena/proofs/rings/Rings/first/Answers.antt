use Rattle.std.proofs.Common.{ap, ◌∙◌, ◌+◌, arith, sym, length, get_or, ◌<◌, Some, None}
use Rattle.std.specs.Prelude.{if◌then◌else◌, nat_lt, bit_xor}
use Rattle.q_arena.specs.declared.rings.Link.{Link}
use Rattle.q_arena.specs.Nodes.{base}
use Rattle.q_arena.proofs.ArenaView.{first-is, length-lists}
use Rattle.q_arena.proofs.rings.Rings.first.Goals as goal

pub overflow_cast-head : goal.overflow_cast-head
overflow_cast-head c =
    let n = length-lists c.self.inside.places.items c.self.inside.heads.items in
    omega (arith, n, rw (← c.self.view_is) at c.requires, c.self.invariant.sound.few_heads)

pub overflow_add-head : goal.overflow_add-head
overflow_add-head c =
    let n = length-lists c.self.inside.places.items c.self.inside.heads.items in
    omega (arith, n, rw (← c.self.view_is) at c.requires, c.self.invariant.sound.few_heads)

pub returns : goal.returns
returns c =
    let p = c.self.inside.places.items in
    let h = c.self.inside.heads.items in
    let n = length-lists p h in
    let head : c.args.head < length h = omega (arith, n, rw (← c.self.view_is) at c.requires) in
    let e = c.look.ensures ∙ ap (λ (d : Link). get_or h c.args.head d) c.self.invariant.blank_heads in
    let seen = λ (k : Link). if nat_lt (bit_xor k.next (base + c.args.head)) base then Some (bit_xor k.next (base + c.args.head)) else None in
    rw (← c.self.view_is) (c.place_of.ensures ∙ ap seen e ∙ sym (first-is p h c.self.invariant.sound c.args.head head))
