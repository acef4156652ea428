use Rattle.std.proofs.Common.{take}
use Rattle.q_certificate.specs.Tabled.{AreExistentials}
use Rattle.q_certificate.proofs.by_variable.existentials_of.Given as goal

abbrev pub invariant-loop-bound : goal.invariant-loop-bound
invariant-loop-bound l = AreExistentials (take l.bound-index l.prefix) l.table.items
