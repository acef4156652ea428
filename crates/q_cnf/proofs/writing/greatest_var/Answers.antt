use Rattle.std.proofs.Common.{arith}
use Rattle.q_cnf.proofs.CnfText.{greatest-more, greatest-all, variables-more, variables-all}
use Rattle.q_cnf.proofs.writing.greatest_var.Goals as goal

pub loop-lit-preserved : goal.loop-lit-preserved
loop-lit-preserved c = record {
  value = greatest-more c.args.clause.now c.loop-lit.lit-index c.loop-lit.greatest _ c.lit-item.result c.loop-lit-test.true c.lit-item.is (omega arith) c.loop-lit.invariant.value;
  variables = variables-more c.args.clause.now c.loop-lit.lit-index c.lit-item.result c.loop-lit-test.true c.lit-item.is (omega arith, omega arith) c.loop-lit.invariant.variables;
}

pub returns-clause-value : goal.returns-clause-value
returns-clause-value c = greatest-all c.args.clause.now c.loop-lit.lit-index c.loop-lit.greatest c.loop-lit-test.false c.loop-lit.invariant.value

pub returns-clause-variables : goal.returns-clause-variables
returns-clause-variables c = variables-all c.args.clause.now c.loop-lit.lit-index c.loop-lit-test.false c.loop-lit.invariant.variables
