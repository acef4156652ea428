use Rattle.std.proofs.Common.{◌≡◌, ◌<◌, length, Bool, Some, arith, sym, ap, ◌∙◌, subst}
use Rattle.q_certificate.specs.Prelude.{IsRaised}
use Rattle.q_extract.specs.Saying.{said_in}
use Rattle.q_extract.specs.Merges.{merge_circuits}
use Rattle.q_extract.proofs.Merged.{circuits-length, giving-plain, giving-merged}
use Rattle.q_extract.proofs.building.give.Goals as goal

pub node-requires : goal.node-requires
node-requires c =
    let ms = c.args.drops.now.merges.items in
    let e : said_in c.args.drops.now.said c.args.fall.guard c.args.fall.lit.var ≡ Some c.in-Some.merge = ap (said_in c.args.drops.now.said c.args.fall.guard) (sym c.var.ensures.value) ∙ sym c.get.ensures ∙ c.in-Some.is in
    let lt : c.in-Some.merge < length ms = c.requires.drops.said c.args.fall.guard c.args.fall.lit.var c.in-Some.merge e in
    let s : length c.args.nodes.now ≡ length (merge_circuits ms) = c.requires.nodes.size in
    let n : length (merge_circuits ms) ≡ length ms = circuits-length ms in
    omega arith

pub returns-in_ok-made-in-None : goal.returns-in_ok-made-in-None
returns-in_ok-made-in-None c =
    giving-plain c.args.aig.now c.raise.new.aig (merge_circuits c.args.drops.now.merges.items) (said_in c.args.drops.now.said c.args.fall.guard) c.args.fall.lit c.args.every c.args.behind c.in_ok-made-in-None.made
    (ap (said_in c.args.drops.now.said c.args.fall.guard) (sym c.var.ensures.value) ∙ sym c.get.ensures ∙ c.in-None.is)
    (subst (λ (n : Bool). IsRaised c.args.aig.now c.raise.new.aig n c.args.behind c.args.every c.in_ok-made-in-None.made) c.negative.ensures c.in_ok-made-in-None.ensures.raised)

pub returns-in_ok-made-in-Some : goal.returns-in_ok-made-in-Some
returns-in_ok-made-in-Some c =
    let e : said_in c.args.drops.now.said c.args.fall.guard c.args.fall.lit.var ≡ Some c.in-Some.merge = ap (said_in c.args.drops.now.said c.args.fall.guard) (sym c.var.ensures.value) ∙ sym c.get.ensures ∙ c.in-Some.is in
    giving-merged c.args.aig.now c.choose.new.aig c.args.drops.now.merges.items (said_in c.args.drops.now.said c.args.fall.guard) c.args.nodes.now c.args.fall.lit c.in-Some.merge c.node.result c.args.every c.args.behind c.in_ok-made-in-Some.made
    e (c.requires.drops.said c.args.fall.guard c.args.fall.lit.var c.in-Some.merge e) c.requires.nodes c.node.ensures c.in_ok-made-in-Some.ensures
