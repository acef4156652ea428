use Rattle.std.proofs.Common.{take}
use Rattle.q_certificate.specs.Growing.{IsAllOf}
use Rattle.q_certificate.proofs.parts.all_of.Given as goal

abbrev pub invariant-loop-i : goal.invariant-loop-i
invariant-loop-i l = IsAllOf l.initial.aig l.aig l.tables.inputs.items l.tables.circuits.items (take l.i l.outer) l.all
