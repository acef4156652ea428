use Rattle.std.proofs.Common.{◌≡◌, ◌+◌, length, ap, ◌∙◌, Some, None, arith}
use Rattle.std.proofs.lemmas.List.{length_push}
use Rattle.q_certificate.specs.Prelude.{look_at, IsRaised}
use Rattle.q_herbrand.specs.Slots.{IsRenewed}
use Rattle.q_herbrand.proofs.InputReplacements.{renewed-literals, taken-added}
use Rattle.q_herbrand.proofs.entries.take_added.Goals as goal

pub all_of-requires-clause-circuits : goal.all_of-requires-clause-circuits
all_of-requires-clause-circuits c =
    renewed-literals c.args.aig.now c.renew.new.aig c.args.tables.now.circuits.items c.renew.new.circuits.items
    c.args.slots.now c.renew.new.slots c.var-in-Some.result c.in_ok-lit-in-Some.lit c.requires.circuits
    c.in_ok-lit-in-Some.ensures

pub returns-in_ok-to-in-Some-clause-taken : goal.returns-in_ok-to-in-Some-clause-taken
returns-in_ok-to-in-Some-clause-taken c =
    let s : look_at c.args.slots.now.current.items c.args.pivot.var ≡ Some c.in-Some.before =
    rw (c.var.ensures.value) at c.in-Some.ensures in
    let new : IsRenewed c.args.aig.now c.renew.new.aig c.args.tables.now.circuits.items c.renew.new.circuits.items
    c.args.slots.now c.renew.new.slots c.args.pivot.var c.in_ok-lit-in-Some.lit =
    rw (c.var-in-Some.ensures.value) at c.in_ok-lit-in-Some.ensures in
    let ra : IsRaised c.all_of.new.aig c.raise.new.aig c.args.pivot.negative c.in_ok-lit-in-Some.lit
    c.in_ok-all-in-Some.all c.in_ok-to-in-Some.to = rw (c.negative.ensures) at c.in_ok-to-in-Some.ensures.raised in
    taken-added c.args.aig.now c.renew.new.aig c.all_of.new.aig c.raise.new.aig c.args.tables.now.inputs.items
    c.args.tables.now.circuits.items c.renew.new.circuits.items c.args.slots.now c.renew.new.slots
    c.fill.new.slots c.args.pivot c.args.outer.now c.in-Some.before c.in_ok-lit-in-Some.lit c.in_ok-all-in-Some.all
    c.in_ok-to-in-Some.to c.inputs.ensures.net c.requires s new c.in_ok-all-in-Some.ensures ra
    c.in_ok-to-in-Some.ensures.folded (ap (λ v. v.items) c.fill.ensures.current)
    (ap (λ v. v.items) c.fill.ensures.owners)
    c.fill.ensures.definitions

pub fill-requires : goal.fill-requires
fill-requires c =
    let s : look_at c.args.slots.now.current.items c.args.pivot.var ≡ Some c.in-Some.before =
    rw (c.var.ensures.value) at c.in-Some.ensures in
    let there = c.requires.current.there c.args.pivot.var c.in-Some.before s in
    let more : length c.renew.new.slots.definitions.items ≡ length c.args.slots.now.definitions.items + 1 =
    ap length c.in_ok-lit-in-Some.ensures.definitions ∙ length_push c.args.slots.now.definitions.items None in
    omega arith
