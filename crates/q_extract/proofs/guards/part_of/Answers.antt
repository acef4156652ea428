use Rattle.std.proofs.Common.{◌≡◌, ◌<◌, length, Some, arith, sym, ap, ◌∙◌}
use Rattle.q_extract.specs.Saying.{said_in}
use Rattle.q_extract.specs.Merges.{merge_circuits}
use Rattle.q_extract.proofs.Merged.{circuits-length, alike-plain, alike-merged}
use Rattle.q_extract.proofs.guards.part_of.Goals as goal

pub node-value-requires : goal.node-value-requires
node-value-requires c =
    let ms = c.args.drops.now.merges.items in
    let e : said_in c.args.drops.now.said c.args.guard c.args.lit.var ≡ Some c.in-Some.merge = ap (said_in c.args.drops.now.said c.args.guard) (sym c.var.ensures.value) ∙ sym c.get.ensures ∙ c.in-Some.is in
    let lt : c.in-Some.merge < length ms = c.requires.drops.said c.args.guard c.args.lit.var c.in-Some.merge e in
    let s : length c.args.nodes.now ≡ length (merge_circuits ms) = c.requires.nodes.size in
    let n : length (merge_circuits ms) ≡ length ms = circuits-length ms in
    omega arith

pub returns-in-None : goal.returns-in-None
returns-in-None c =
    alike-plain c.args.aig.now c.args.tables.now.inputs.items c.args.tables.now.circuits.items (merge_circuits c.args.drops.now.merges.items) (said_in c.args.drops.now.said c.args.guard) c.args.lit c.literal.result
    (ap (said_in c.args.drops.now.said c.args.guard) (sym c.var.ensures.value) ∙ sym c.get.ensures ∙ c.in-None.is) c.requires.inputs c.requires.circuits c.literal.ensures

pub returns-in_ok-part-in-Some : goal.returns-in_ok-part-in-Some
returns-in_ok-part-in-Some c =
    let e : said_in c.args.drops.now.said c.args.guard c.args.lit.var ≡ Some c.in-Some.merge = ap (said_in c.args.drops.now.said c.args.guard) (sym c.var.ensures.value) ∙ sym c.get.ensures ∙ c.in-Some.is in
    alike-merged c.args.aig.now c.choose.new.aig c.args.tables.now.inputs.items c.args.tables.now.circuits.items c.args.drops.now.merges.items (said_in c.args.drops.now.said c.args.guard) c.args.nodes.now c.args.lit c.positive.result c.in-Some.merge c.literal-own.result c.node-value.result c.negate.result c.in_ok-part-in-Some.part
    e (c.requires.drops.said c.args.guard c.args.lit.var c.in-Some.merge e) c.positive.ensures c.literal-own.ensures c.requires.nodes c.node-value.ensures c.negate.ensures c.in_ok-part-in-Some.ensures
