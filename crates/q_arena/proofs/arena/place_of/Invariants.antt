use Rattle.std.proofs.Common.{drop}
use Rattle.q_logic.specs.Prelude.{IsIn}
use Rattle.q_arena.proofs.arena.place_of.Given as goal

abbrev pub invariant-loop-at : goal.invariant-loop-at
invariant-loop-at l = IsIn l.lit (drop l.at l.lits)
