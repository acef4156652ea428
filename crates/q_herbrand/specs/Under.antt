-- Circuits with a circuit in place of each input.
use Rattle.std.specs.Prelude.{ℕ}
use Rattle.q_logic.specs.Prelude.{Circuit, constant, input, inverter, conjunction}

abbrev pub under : (ℕ → Circuit) → Circuit → Circuit
under r (constant b) = constant b
under r (input x) = r x
under r (inverter t) = inverter (under r t)
under r (conjunction s t) = conjunction (under r s) (under r t)

-- negated twice
abbrev pub twice : Circuit → Circuit
twice t = inverter (inverter t)
