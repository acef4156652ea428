-- Of what kind a guide's proposals are.
use Rattle.q_blocked.specs.declared.target.Target.TheVariants as blocked
use Rattle.q_sched.specs.declared.moves.Move.TheVariants as move
use Rattle.q_sched.specs.declared.guide.Proposal.{Proposal}
use Rattle.q_sched.specs.declared.guide.Proposal.TheVariants.{Take, Done, NoMemory}

-- nothing, or to eliminate a variable
abbrev pub IsElimination : Proposal → Type 0
IsElimination Done = Unit {0}
IsElimination NoMemory = Unit {0}
IsElimination (Take (move.Eliminate t)) = Unit {0}
IsElimination (Take m) = ⊥

-- nothing, or to cover a clause
abbrev pub IsCovering : Proposal → Type 0
IsCovering Done = Unit {0}
IsCovering NoMemory = Unit {0}
IsCovering (Take (move.Block (blocked.Cover c))) = Unit {0}
IsCovering (Take m) = ⊥
