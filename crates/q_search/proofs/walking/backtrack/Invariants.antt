use Rattle.std.proofs.Common.{length}
use Rattle.q_search.proofs.NodeSteps.{IsTurning}
use Rattle.q_search.proofs.walking.backtrack.Given as goal

abbrev pub invariant-loop-quant : goal.invariant-loop-quant
invariant-loop-quant g l = record {
  turning : IsTurning (g.N.Position.seen l.fn.node) (g.N.Position.seen l.node) l.won;
  kept : g.N.Position.Keeps l.fn.node l.node;
}

abbrev pub decreases-loop-quant : goal.decreases-loop-quant
decreases-loop-quant g l = length (g.N.Position.seen l.node).path
