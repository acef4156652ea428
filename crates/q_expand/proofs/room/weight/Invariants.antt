use Rattle.std.proofs.Common.{◌≡◌, ◌+◌, drop}
use Rattle.q_kernel.specs.Prelude.{slots}
use Rattle.q_expand.specs.Dependents.{tally}
use Rattle.q_expand.proofs.ExpansionBounds.{long}
use Rattle.q_expand.proofs.room.weight.Given as goal

abbrev pub invariant-loop-i : goal.invariant-loop-i
invariant-loop-i l = l.sum + tally long (slots l.kernel) (drop l.i l.dependents.met) ≡ tally long (slots l.kernel) l.dependents.met
