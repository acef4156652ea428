use Rattle.std.proofs.Common.{◌≡◌, max, drop}
use Rattle.q_dimacs.specs.Writing.{greatest_bound}
use Rattle.q_dimacs.proofs.writer.greatest.Given as goal

abbrev pub invariant-loop-bound : goal.invariant-loop-bound
invariant-loop-bound l = max l.greatest (greatest_bound (drop l.bound-index l.prefix)) ≡ greatest_bound l.prefix
