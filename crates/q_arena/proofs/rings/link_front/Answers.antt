use Rattle.std.proofs.Common.{◌≡◌, ◌∙◌, ◌+◌, ◌≤◌, arith, ap, length}
use Rattle.q_arena.specs.Nodes.{node_at, base}
use Rattle.q_arena.specs.Rings.{rings_of}
use Rattle.q_arena.proofs.ArenaView.{length-set'}
use Rattle.q_arena.proofs.RingLemmas.{tag-kept, AreRings-with}
use Rattle.q_arena.proofs.HeldLinks.{joined, joined-is, front-steps}
use Rattle.q_arena.proofs.SoundRings.{IsOn-first, count-fits}
use Rattle.q_arena.proofs.rings.link_front.Goals as goal

pub overflow_add-ahead : goal.overflow_add-ahead
overflow_add-ahead c =
    let fits = count-fits c.args.places.now.items c.args.heads.now.items c.requires.sound c.args.head c.requires.head c.args.place c.requires.place c.requires.fresh in
    let e : c.head_link-link.result.tag ≡ (node_at c.args.places.now.items c.args.heads.now.items (base + c.args.head)).tag = ap (λ k. k.tag) (c.head_link-link.ensures c.args.places.now.items) in
    omega arith

pub returns-clause-lists : goal.returns-clause-lists
returns-clause-lists c =
    let p = c.args.places.now.items in
    let h = c.args.heads.now.items in
    let s = node_at p h in
    let own = base + c.args.head in
    let few : length p ≤ base = c.requires.sound.few_places in
    let q = c.store.new.row.items in
    let r = c.set_prev-last.new.places.items in
    let g = c.store-2.new.row.items in
    let t = joined s own c.args.place in
    let u = joined t c.args.place (s own).next in
    let tagged = front-steps p h c.args.head c.requires.head few q r g c.args.place c.head_link-link.result c.place_link-seen.result c.set_prev-last.result c.turned.result c.requires.place
    (c.head_link-link.ensures p) (c.place_link-seen.ensures h) c.store.ensures.items (c.set_prev-last.ensures.put h) c.turned.ensures c.store-2.ensures.items in
    record {
      rings = AreRings-with s t u (node_at r g) base (length p) (length h) (rings_of s base) c.args.head c.args.place
          c.requires.sound.rings few c.requires.head c.requires.place c.requires.fresh
          (joined-is s own c.args.place) (joined-is t c.args.place (s own).next) tagged;
      places = c.set_prev-last.ensures.places ∙ ap length c.store.ensures.items ∙ length-set' p c.args.place _;
      heads = ap length c.store-2.ensures.items ∙ length-set' h c.args.head _;
      tags = λ i ib. tag-kept u (node_at r g) base c.args.head _ i tagged ib;
    }

pub set_prev-last-requires-clause-at : goal.set_prev-last-requires-clause-at
set_prev-last-requires-clause-at c =
    let p = c.args.places.now.items in
    let long : length c.store.new.row.items ≡ length p = ap length c.store.ensures.items ∙ length-set' p c.args.place _ in
    rw (long, c.head_link-link.ensures p) (IsOn-first p c.args.heads.now.items c.requires.sound c.args.head c.requires.head)
