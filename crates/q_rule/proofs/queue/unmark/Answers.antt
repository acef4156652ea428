use Rattle.std.proofs.Common.{◌<◌, length, false, refl, ◌∙◌, arith, add-one, length-set}
use Rattle.q_logic.specs.Prelude.{pack}
use Rattle.q_rule.proofs.MarkChanges.{item_room, unmarked-more, unmarked-all}
use Rattle.q_rule.proofs.queue.unmark.Goals as goal

pub loop-lit-init : goal.loop-lit-init
loop-lit-init c = record { len = refl; none = refl; marked = λ l m. (c.requires l).0 m }

pub set-requires : goal.set-requires
set-requires c =
    let room : pack c.lit-item.result < length c.args.marks.now.items = item_room c.args.marks.now.items c.args.lits.now c.loop-lit.lit-index c.lit-item.result c.loop-lit-test.true c.lit-item.is c.requires in
    let same = c.loop-lit.invariant.len in
    omega (arith, room, same, c.index.ensures)

pub loop-lit-preserved : goal.loop-lit-preserved
loop-lit-preserved c =
    let room : pack c.lit-item.result < length c.args.marks.now.items = item_room c.args.marks.now.items c.args.lits.now c.loop-lit.lit-index c.lit-item.result c.loop-lit-test.true c.lit-item.is c.requires in
    let same = c.loop-lit.invariant.len in
    let here : pack c.lit-item.result < length c.loop-lit.marks.items = omega (arith, room, same) in
    rw (c.set.ensures.items, c.index.ensures) (record {
      len = length-set c.loop-lit.marks.items (pack c.lit-item.result) false ∙ same;
      none = c.set.ensures.none ∙ c.loop-lit.invariant.none;
      marked = rw add-one (unmarked-more c.loop-lit.marks.items c.args.lits.now c.loop-lit.lit-index c.lit-item.result c.loop-lit-test.true c.lit-item.is here c.loop-lit.invariant.marked);
    })

pub returns-clause-marks : goal.returns-clause-marks
returns-clause-marks c = unmarked-all c.loop-lit.marks.items c.args.lits.now c.loop-lit.lit-index c.loop-lit-test.false c.loop-lit.invariant.marked
