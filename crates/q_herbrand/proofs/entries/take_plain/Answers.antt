use Rattle.std.proofs.Common.{[]}
use Rattle.q_certificate.proofs.LiteralRows.{literals-kept}
use Rattle.q_herbrand.proofs.FalseLiterals.{carried-plain}
use Rattle.q_herbrand.proofs.entries.take_plain.Goals as goal

pub lower-requires-clause-circuits : goal.lower-requires-clause-circuits
lower-requires-clause-circuits c = (c.in_ok-lower_all.ensures [] (λ x l e. absurd (cc))).literals

pub lower-requires-clause-q : goal.lower-requires-clause-q
lower-requires-clause-q c = ((c.in_ok-lower_all.ensures [] (λ x l e. absurd (cc))).grown.kept c.in_ok-q.q
    c.in_ok-q.ensures.there).0

pub returns-clause-carried : goal.returns-clause-carried
returns-clause-carried c =
    let n = c.in_ok-q.ensures in
    let li = literals-kept c.args.aig.now c.none_of.new.aig c.args.tables.now.inputs.items n.grown.kept
    c.requires.inputs in
    let s = c.in_ok-lower_all.ensures c.args.tables.now.inputs.items li in
    carried-plain c.args.aig.now c.none_of.new.aig c.lower_all.new.aig c.lower.new.aig
    c.args.tables.now.inputs.items c.args.tables.now.circuits.items c.lower_all.new.circuits.items
    c.lower.new.circuits.items c.args.pivot c.args.same.now c.args.inner.now c.in_ok-q.q c.requires.inputs
    c.requires.circuits n s
    (c.in_ok-lower.ensures c.args.tables.now.inputs.items
    (literals-kept c.none_of.new.aig c.lower_all.new.aig c.args.tables.now.inputs.items s.grown.kept li))
