use Rattle.std.proofs.Common.{take}
use Rattle.q_certificate.specs.Made.{IsOpened}
use Rattle.q_certificate.proofs.making.open_inputs.Given as goal

abbrev pub invariant-loop-bound : goal.invariant-loop-bound
invariant-loop-bound l = IsOpened l.aig l.inputs.items (take l.bound-index l.prefix)
