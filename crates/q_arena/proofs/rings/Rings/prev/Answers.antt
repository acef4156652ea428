use Rattle.std.proofs.Common.{ap, ◌∙◌, sym, subst, get_or, Some, None}
use Rattle.std.specs.Prelude.{if◌then◌else◌, nat_lt}
use Rattle.q_arena.specs.declared.rings.Link.{Link}
use Rattle.q_arena.specs.Nodes.{base}
use Rattle.q_arena.specs.Rings.{Has}
use Rattle.q_arena.specs.Chains.{Chains, list_at}
use Rattle.q_arena.proofs.ListPredecessor.{preceding-is}
use Rattle.q_arena.proofs.rings.Rings.prev.Goals as goal

pub returns : goal.returns
returns c = λ l has.
    let p = c.self.inside.places.items in
    let h = subst (λ (v : Chains). Has (list_at v l) c.args.place) (sym c.self.view_is) has in
    let e = c.look.ensures ∙ ap (λ (d : Link). get_or p c.args.place d) c.self.invariant.blank_places in
    rw (← c.self.view_is) (c.place_of.ensures ∙ ap (λ (k : Link). if nat_lt k.prev base then Some k.prev else None) e ∙ sym (preceding-is p c.self.inside.heads.items c.self.invariant.sound l c.args.place h))
