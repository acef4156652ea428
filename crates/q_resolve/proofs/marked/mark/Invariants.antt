use Rattle.std.proofs.Common.{◌≡◌, take}
use Rattle.q_resolve.proofs.marked.mark.Given as goal

abbrev pub invariant-loop-lit : goal.invariant-loop-lit
invariant-loop-lit l = l.marked ≡ take l.lit-index l.lits
