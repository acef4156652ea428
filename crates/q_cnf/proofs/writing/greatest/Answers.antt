use Rattle.std.proofs.Common.{arith}
use Rattle.q_cnf.proofs.CnfText.{matrix-more, matrix-all, clauses-more, clauses-all}
use Rattle.q_cnf.proofs.writing.greatest.Goals as goal

pub loop-at-preserved : goal.loop-at-preserved
loop-at-preserved c = record {
  value = matrix-more c.args.clauses.now c.loop-at.at c.loop-at.greatest _ c.clause.result.now c.clause.ensures (omega arith) c.loop-at.invariant.value;
  variables = clauses-more c.args.clauses.now c.loop-at.at c.clause.result.now c.clause.ensures c.greatest_var.ensures.variables c.loop-at.invariant.variables;
}

pub returns-clause-value : goal.returns-clause-value
returns-clause-value c = matrix-all c.args.clauses.now c.loop-at.at c.loop-at.greatest (omega arith) c.loop-at.invariant.value

pub returns-clause-variables : goal.returns-clause-variables
returns-clause-variables c = clauses-all c.args.clauses.now c.loop-at.at (omega arith) c.loop-at.invariant.variables
