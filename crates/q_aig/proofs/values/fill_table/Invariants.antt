use Rattle.q_aig.specs.Values.{IsTableUpto}
use Rattle.q_aig.proofs.values.fill_table.Given as goal

abbrev pub invariant-loop-k : goal.invariant-loop-k
invariant-loop-k l = IsTableUpto l.k l.gates l.values l.table
