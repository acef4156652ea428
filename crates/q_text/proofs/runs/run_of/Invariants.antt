use Rattle.q_text.specs.Pieces.{AreDigits}
use Rattle.q_text.proofs.runs.run_of.Given as goal

abbrev pub invariant-loop-i : goal.invariant-loop-i
invariant-loop-i l = AreDigits l.bytes l.from l.i l.magnitude
