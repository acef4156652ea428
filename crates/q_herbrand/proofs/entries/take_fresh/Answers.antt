use Rattle.std.proofs.Common.{ap}
use Rattle.q_herbrand.proofs.InputReplacements.{taken-fresh}
use Rattle.q_herbrand.proofs.entries.take_fresh.Goals as goal

pub returns-in_ok-_lit-in-Some-clause-taken : goal.returns-in_ok-_lit-in-Some-clause-taken
returns-in_ok-_lit-in-Some-clause-taken c =
    taken-fresh c.args.aig.now c.renew.new.aig c.args.tables.now.inputs.items c.args.tables.now.circuits.items
    c.renew.new.circuits.items c.args.slots.now c.renew.new.slots c.fill.new.slots c.args.var
    c.in-Some.before c.in_ok-_lit-in-Some._lit c.constant.result c.inputs.ensures.net c.requires c.in-Some.ensures
    c.in_ok-_lit-in-Some.ensures c.constant.ensures.node c.constant.ensures.value
    (ap (λ v. v.items) c.fill.ensures.current) (ap (λ v. v.items) c.fill.ensures.owners)
    c.fill.ensures.definitions
