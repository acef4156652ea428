use Rattle.std.proofs.Common.{[]}
use Rattle.q_search.proofs.NodeSteps.{IsGoing, left_to_do}
use Rattle.q_solve.specs.Places.{walk_of}
use Rattle.q_solve.specs.Waiting.{IsReady}
use Rattle.q_solve.proofs.searching.search.Given as goal

abbrev pub invariant-loop-left : goal.invariant-loop-left
invariant-loop-left l = record {
  going : IsGoing (walk_of (record { formula = l.formula; path = [] })) (walk_of l.node) l.fn.budget l.left;
  ready : IsReady l.circuits (walk_of l.node);
}

abbrev pub decreases-loop-left : goal.decreases-loop-left
decreases-loop-left l = left_to_do (walk_of l.node)
