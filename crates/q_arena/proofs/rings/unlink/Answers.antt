use Rattle.std.proofs.Common.{◌≡◌, ◌∙◌, ◌+◌, ◌-◌, ◌≤◌, arith, ap, length}
use Rattle.q_arena.specs.Nodes.{node_at, base}
use Rattle.q_arena.specs.Rings.{rings_of}
use Rattle.q_arena.proofs.ArenaView.{length-set'}
use Rattle.q_arena.proofs.RingLemmas.{tag-kept, AreRings-without}
use Rattle.q_arena.proofs.HeldLinks.{joined, joined-is, out-steps}
use Rattle.q_arena.proofs.SoundRings.{IsOn-before, IsOn-after, place-below, count-positive}
use Rattle.q_arena.proofs.rings.unlink.Goals as goal

pub overflow_sub-counted : goal.overflow_sub-counted
overflow_sub-counted c = count-positive c.args.places.now.items c.args.heads.now.items c.requires.sound c.args.head c.requires.head c.args.place c.requires.there c.head_link-link.result.tag (ap (λ k. k.tag) (c.head_link-link.ensures c.args.places.now.items))

pub returns-clause-lists : goal.returns-clause-lists
returns-clause-lists c =
    let p = c.args.places.now.items in
    let h = c.args.heads.now.items in
    let s = node_at p h in
    let n = c.head_link-link.result.tag - 1 in
    let few : length p ≤ base = c.requires.sound.few_places in
    let q = c.set_next-ahead.new.places.items in
    let r = c.set_prev-last.new.places.items in
    let g = c.store.new.row.items in
    let t = joined s (s c.args.place).prev (s c.args.place).next in
    let same = ap (λ k. k.tag) (c.head_link-link.ensures p) in
    let positive = count-positive p h c.requires.sound c.args.head c.requires.head c.args.place c.requires.there c.head_link-link.result.tag same in
    let count : (s (base + c.args.head)).tag ≡ n + 1 = rw (← c.head_link-link.ensures p) (omega arith) in
    let tagged = out-steps p h c.args.head c.requires.head few q r g n c.args.place c.head_link-link.result c.place_link-seen.result c.set_next-ahead.result c.set_prev-last.result c.turned.result
    (c.head_link-link.ensures p) (c.place_link-seen.ensures h) (c.set_next-ahead.ensures.put h) (c.set_prev-last.ensures.put h) c.turned.ensures c.store.ensures.items in
    record {
      rings = AreRings-without s t (node_at r g) base (length p) (length h) (rings_of s base) c.args.head c.args.place n
          c.requires.sound.rings few c.requires.head c.requires.there
          (joined-is s (s c.args.place).prev (s c.args.place).next) count tagged;
      places = c.set_prev-last.ensures.places ∙ c.set_next-ahead.ensures.places;
      heads = ap length c.store.ensures.items ∙ length-set' h c.args.head _;
      tags = λ i ib. tag-kept t (node_at r g) base c.args.head _ i tagged ib;
    }

pub place_link-seen-requires-clause-at : goal.place_link-seen-requires-clause-at
place_link-seen-requires-clause-at c = place-below c.args.places.now.items c.args.heads.now.items c.requires.sound c.args.head c.requires.head c.args.place c.requires.there

pub set_next-ahead-requires-clause-at : goal.set_next-ahead-requires-clause-at
set_next-ahead-requires-clause-at c =
    let h = c.args.heads.now.items in
    rw (c.place_link-seen.ensures h) (IsOn-before c.args.places.now.items h c.requires.sound c.args.head c.requires.head c.args.place c.requires.there)

pub set_prev-last-requires-clause-at : goal.set_prev-last-requires-clause-at
set_prev-last-requires-clause-at c =
    let h = c.args.heads.now.items in
    rw (c.set_next-ahead.ensures.places, c.place_link-seen.ensures h) (IsOn-after c.args.places.now.items h c.requires.sound c.args.head c.requires.head c.args.place c.requires.there)
