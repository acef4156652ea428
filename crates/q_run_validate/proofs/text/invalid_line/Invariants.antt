use Rattle.std.proofs.Common.{◌≡◌, ◌++◌, drop}
use Rattle.q_run_validate.specs.ValidatedLines.{literals_end, invalid_line}
use Rattle.q_run_validate.proofs.text.invalid_line.Given as goal

abbrev pub invariant-loop-lit : goal.invariant-loop-lit
invariant-loop-lit l = l.text.items ++ literals_end (drop l.lit-index l.lits) ≡ invalid_line l.lits
