use Rattle.std.proofs.Common.{◌<◌, length, get_or, false, refl, ◌∙◌, arith, add-one, length-set}
use Rattle.q_expand.proofs.ClauseMarks.{id_room, unnoted-more, unnoted-all}
use Rattle.q_expand.proofs.ids.unmark.Goals as goal

pub loop-id-init : goal.loop-id-init
loop-id-init c = record { len = refl; marked = λ l m. (c.requires l).0 m }

pub index_mut-requires : goal.index_mut-requires
index_mut-requires c =
    let id = get_or c.args.ids.now c.loop-id.id-index 0 in
    let room : id < length c.args.marks.now.items = id_room c.args.marks.now.items c.args.ids.now c.loop-id.id-index id c.loop-id-test.true refl c.requires in
    let same = c.loop-id.invariant.len in
    omega (arith, room, same, c.loop-id.marks.ok.0)

pub loop-id-preserved : goal.loop-id-preserved
loop-id-preserved c =
    let id = get_or c.args.ids.now c.loop-id.id-index 0 in
    let room : id < length c.args.marks.now.items = id_room c.args.marks.now.items c.args.ids.now c.loop-id.id-index id c.loop-id-test.true refl c.requires in
    let same = c.loop-id.invariant.len in
    let here : id < length c.loop-id.marks.items = omega (arith, room, same) in
    record {
      len = length-set c.loop-id.marks.items id false ∙ same;
      marked = rw add-one (unnoted-more c.loop-id.marks.items c.args.ids.now c.loop-id.id-index id c.loop-id-test.true refl here c.loop-id.invariant.marked);
    }

pub returns : goal.returns
returns c = unnoted-all c.loop-id.marks.items c.args.ids.now c.loop-id.id-index c.loop-id-test.false c.loop-id.invariant.marked
