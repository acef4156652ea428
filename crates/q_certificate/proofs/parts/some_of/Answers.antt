use Rattle.std.proofs.Common.{◌≡◌, ◌+◌, ◌++◌, ◌∷◌, [], take, sym, subst}
use Rattle.q_logic.specs.Prelude.{Clause}
use Rattle.q_logic.proofs.Common.{taken}
use Rattle.q_certificate.specs.Growing.{IsSomeOf}
use Rattle.q_certificate.proofs.LiteralRows.{literals-kept, literal-there}
use Rattle.q_certificate.proofs.CircuitParts.{some-more}
use Rattle.q_certificate.proofs.parts.some_of.Goals as goal

pub or-requires-clause-b : goal.or-requires-clause-b
or-requires-clause-b c =
    literal-there c.loop-k.aig c.args.tables.now.inputs.items c.args.tables.now.circuits.items c.k-item.result c.literal-part.result c.literal-part.ensures
    (literals-kept c.args.aig.now c.loop-k.aig c.args.tables.now.inputs.items c.loop-k.invariant.grown.kept c.requires.inputs)
    (literals-kept c.args.aig.now c.loop-k.aig c.args.tables.now.circuits.items c.loop-k.invariant.grown.kept c.requires.circuits)

pub loop-k-preserved : goal.loop-k-preserved
loop-k-preserved c =
    let e : take (c.loop-k.k-index + 1) c.args.clause.now ≡ take c.loop-k.k-index c.args.clause.now ++ c.k-item.result ∷ [] = taken c.args.clause.now c.loop-k.k-index c.k-item.result c.loop-k-test.true c.k-item.is in
    subst (λ (O : Clause). IsSomeOf c.args.aig.now c.or.new.aig c.args.tables.now.inputs.items c.args.tables.now.circuits.items O c.in_ok-some.some) (sym e)
    (some-more c.args.aig.now c.loop-k.aig c.or.new.aig c.args.tables.now.inputs.items c.args.tables.now.circuits.items (take c.loop-k.k-index c.args.clause.now) c.k-item.result c.loop-k.some c.literal-part.result c.in_ok-some.some c.requires.inputs c.requires.circuits c.loop-k.invariant c.literal-part.ensures c.in_ok-some.ensures.disjunction)
