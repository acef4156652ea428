use Rattle.std.proofs.Common.{take}
use Rattle.q_certificate.specs.Growing.{IsSomeOf}
use Rattle.q_certificate.proofs.parts.some_of.Given as goal

abbrev pub invariant-loop-k : goal.invariant-loop-k
invariant-loop-k l = IsSomeOf l.initial.aig l.aig l.tables.inputs.items l.tables.circuits.items (take l.k-index l.clause) l.some
