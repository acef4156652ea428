use Rattle.std.proofs.Common.{◌≡◌, ◌-◌, ◌++◌}
use Rattle.q_gen.specs.Generated.{block_from}
use Rattle.q_gen.proofs.prefix.put_block.Given as goal

abbrev pub invariant-loop-var : goal.invariant-loop-var
invariant-loop-var l = l.prefix.items ++ block_from l.quant l.var (l.var-end - l.var) ≡ l.initial.prefix.items ++ block_from l.quant l.first l.count
