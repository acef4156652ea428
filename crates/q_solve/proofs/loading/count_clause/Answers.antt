use Rattle.std.proofs.Common.{[]}
use Rattle.q_logic.specs.Prelude.{nothing}
use Rattle.q_logic.specs.Decisions.{standing}
use Rattle.q_logic.proofs.Common.{item-in}
use Rattle.q_search.specs.Paths.{along, rest_of}
use Rattle.q_solve.proofs.EnteredClauses.{counting-none, counting-more, counting-all}
use Rattle.q_solve.proofs.loading.count_clause.Goals as goal

pub loop-lit-init : goal.loop-lit-init
loop-lit-init c = counting-none (standing (rest_of c.args.prefix.now []) (along c.args.prefix.now [] nothing)) c.args.clause.now c.is_tautology.result c.is_tautology.ensures

pub first_standing-requires-clause-bound : goal.first_standing-requires-clause-bound
first_standing-requires-clause-bound c = c.requires.within c.lit-item.result (item-in c.args.clause.now c.loop-lit.lit-index c.lit-item.result c.loop-lit-test.true c.lit-item.is)

pub loop-lit-preserved : goal.loop-lit-preserved
loop-lit-preserved c =
    counting-more (standing (rest_of c.args.prefix.now []) (along c.args.prefix.now [] nothing)) c.args.clause.now c.loop-lit.count c.with-count.result c.loop-lit.lit-index c.lit-item.result c.first_standing.result
    c.loop-lit.invariant c.loop-lit-test.true c.lit-item.is c.first_standing.ensures c.with-count.ensures

pub returns : goal.returns
returns c =
    counting-all (standing (rest_of c.args.prefix.now []) (along c.args.prefix.now [] nothing)) c.args.clause.now c.loop-lit.count c.loop-lit.lit-index c.loop-lit.invariant c.loop-lit-test.false
