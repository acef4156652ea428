use Rattle.std.proofs.Common.{◌≡◌, ◌+◌, ◌++◌, ◌∷◌, [], take, sym, subst}
use Rattle.q_logic.specs.Prelude.{Clause}
use Rattle.q_logic.proofs.Common.{taken}
use Rattle.q_aig.proofs.Substitutes.{turned-there}
use Rattle.q_certificate.proofs.LiteralRows.{literals-kept, literal-there}
use Rattle.q_herbrand.specs.Parts.{IsNoneOf}
use Rattle.q_herbrand.proofs.FalseLiterals.{none-more}
use Rattle.q_herbrand.proofs.entries.none_of.Goals as goal

pub and-requires-clause-b : goal.and-requires-clause-b
and-requires-clause-b c =
    turned-there c.loop-k.aig c.literal-part.result c.negate.result c.negate.ensures
    (literal-there c.loop-k.aig c.args.tables.now.inputs.items c.args.tables.now.circuits.items c.k-item.result
    c.literal-part.result c.literal-part.ensures
    (literals-kept c.args.aig.now c.loop-k.aig c.args.tables.now.inputs.items c.loop-k.invariant.grown.kept
    c.requires.inputs)
    (literals-kept c.args.aig.now c.loop-k.aig c.args.tables.now.circuits.items c.loop-k.invariant.grown.kept
    c.requires.circuits))

pub loop-k-preserved : goal.loop-k-preserved
loop-k-preserved c =
    let e : take (c.loop-k.k-index + 1) c.args.clause.now ≡ take c.loop-k.k-index
    c.args.clause.now ++ c.k-item.result ∷ [] = taken c.args.clause.now c.loop-k.k-index c.k-item.result
    c.loop-k-test.true c.k-item.is in
    subst (λ (O : Clause). IsNoneOf c.args.aig.now c.and.new.self c.args.tables.now.inputs.items
    c.args.tables.now.circuits.items O c.in_ok-none.none) (sym e)
    (none-more c.args.aig.now c.loop-k.aig c.and.new.self c.args.tables.now.inputs.items
    c.args.tables.now.circuits.items (take c.loop-k.k-index c.args.clause.now) c.k-item.result c.loop-k.none
    c.literal-part.result c.negate.result c.in_ok-none.none c.requires.inputs c.requires.circuits
    c.loop-k.invariant c.literal-part.ensures c.negate.ensures c.in_ok-none.ensures.conjunction)
