use Rattle.std.proofs.Common.{◌≡◌, take}
use Rattle.q_logic.specs.Prelude.{numbered, literals_in}
use Rattle.q_judge.proofs.ledger.Ledger.start.Given as goal

abbrev pub invariant-loop-at : goal.invariant-loop-at
invariant-loop-at l =
    (l.store ≡ numbered (take l.at l.formula.matrix))
    × (l.lits ≡ literals_in (take l.at l.formula.matrix))
