use Rattle.std.proofs.Common.{◌≡◌, take}
use Rattle.q_judge.proofs.OuterClauses.{collected}
use Rattle.q_judge.proofs.undo.collect_outers.Given as goal

abbrev pub invariant-loop-at : goal.invariant-loop-at
invariant-loop-at l = l.outers ≡ collected l.view.prefix l.view.slots l.m (take l.at-index l.slots)
