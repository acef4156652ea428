use Rattle.std.proofs.Common.{take}
use Rattle.q_certificate.specs.Made.{IsNamed}
use Rattle.q_certificate.proofs.making.name_outputs.Given as goal

abbrev pub invariant-loop-bound : goal.invariant-loop-bound
invariant-loop-bound l = IsNamed l.fn.aig l.certificate l.circuits.items (take l.bound-index l.prefix)
