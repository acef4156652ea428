use Rattle.std.proofs.Common.{◌≡◌, drop, map}
use Rattle.q_logic.specs.Prelude.{Prefix}
use Rattle.q_aig.specs.Prelude.{output_of}
use Rattle.q_certificate.specs.Tabled.{AreExistentials}
use Rattle.q_certificate.specs.Refusals.{first_strange}
use Rattle.q_certificate.proofs.names.first_strange.Given as goal

abbrev pub invariant-loop-i : goal.invariant-loop-i
invariant-loop-i l = (P : Prefix) → AreExistentials P l.table.items → first_strange P (map output_of l.outputs) ≡ first_strange P (map output_of (drop l.i l.outputs))
