use Rattle.std.proofs.Common.{◌≡◌, drop}
use Rattle.q_resolve.specs.Tests.{outermost, outermost_from}
use Rattle.q_resolve.proofs.tests.outermost_taken.Given as goal

abbrev pub invariant-loop-k : goal.invariant-loop-k
invariant-loop-k l = outermost_from l.prefix l.marked (drop l.k-index l.parent) l.least ≡ outermost l.prefix l.marked l.parent
