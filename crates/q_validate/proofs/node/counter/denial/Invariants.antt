use Rattle.std.proofs.Common.{◌≡◌, drop}
use Rattle.q_logic.specs.Branches.{denial}
use Rattle.q_validate.proofs.node.counter.denial.Given as goal

abbrev pub invariant-loop-lit : goal.invariant-loop-lit
invariant-loop-lit l = denial l.clause l.var ≡ denial (drop l.lit-index l.clause) l.var
