use Rattle.std.proofs.Common.{◌≤◌, ℕ, List, Option, length, drop}
use Rattle.q_aig.specs.Prelude.{IsLiteral}
use Rattle.q_certificate.specs.Prelude.{AreLiterals}
use Rattle.q_herbrand.specs.Parts.{AreLowered}
use Rattle.q_herbrand.proofs.entries.lower_all.Given as goal

abbrev pub invariant-loop-i : goal.invariant-loop-i
invariant-loop-i l = record {
  bound : l.i ≤ length l.lits;
  literals : AreLiterals l.aig l.circuits.items;
  there : IsLiteral l.aig l.q;
  done : (ins : List (Option ℕ)) → AreLiterals l.initial.aig ins →
      AreLowered l.initial.aig l.aig ins l.initial.circuits.items l.circuits.items l.q (drop l.i l.lits);
}

abbrev pub decreases-loop-i : goal.decreases-loop-i
decreases-loop-i l = l.i
