use Rattle.std.proofs.Common.{All}
use Rattle.q_subsume.proofs.SubsumeSearch.{IsSeen}
use Rattle.q_subsume.proofs.find.find_among.Given as goal

abbrev pub invariant-loop-d : goal.invariant-loop-d
invariant-loop-d l = All (λ d. IsSeen l.kernel l.c l.from d) l.yielded
