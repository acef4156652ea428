use Rattle.std.proofs.Common.{◌≡◌, ◌+◌, ◌<◌, ◌≤◌, ◌^◌, take}
use Rattle.q_validate.specs.Words.{path_to}
use Rattle.q_validate.proofs.words.node_at.Given as goal

abbrev pub invariant-loop-value : goal.invariant-loop-value
invariant-loop-value l = record {
  positive : 1 ≤ l.node;
  small : l.node < 2 ^ (l.value-index + 1);
  path : path_to l.node ≡ take l.value-index l.path;
}
