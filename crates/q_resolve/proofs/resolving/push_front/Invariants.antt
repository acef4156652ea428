use Rattle.std.proofs.Common.{◌≡◌, ◌++◌, map, take}
use Rattle.q_resolve.specs.Sides.{sided}
use Rattle.q_resolve.specs.Reduced.{front_of}
use Rattle.q_resolve.proofs.resolving.push_front.Given as goal

abbrev pub invariant-loop-k : goal.invariant-loop-k
invariant-loop-k l = l.row.items ≡ l.fn.row.items ++ map (sided l.owner) (front_of l.prefix l.at (take l.k-index l.parent))
