use Rattle.std.proofs.Common.{take}
use Rattle.q_judge.specs.Pivots.{AreGathered}
use Rattle.q_judge.proofs.pivots.gather_outers.Given as goal

abbrev pub invariant-loop-at : goal.invariant-loop-at
invariant-loop-at l = AreGathered l.view.prefix l.view.slots l.question (take l.at-index l.slots) l.outers.tails
