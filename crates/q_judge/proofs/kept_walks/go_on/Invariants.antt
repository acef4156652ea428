use Rattle.q_prop.specs.Slots.{filled}
use Rattle.q_judge.proofs.KeptWalks.{IsGoingOn}
use Rattle.q_judge.proofs.kept_walks.go_on.Given as goal

abbrev pub invariant-loop-head : goal.invariant-loop-head
invariant-loop-head l = IsGoingOn l.view.prefix (filled l.view.slots) l.clause l.u l.fn.known l.head l.known
