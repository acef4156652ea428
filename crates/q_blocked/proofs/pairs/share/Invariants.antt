use Rattle.std.proofs.Common.{◌≡◌, true, take}
use Rattle.q_rule.proofs.OrderedClauses.{IsLeft}
use Rattle.q_blocked.specs.Walks.{IsParted, IsPartedBeyond}
use Rattle.q_blocked.proofs.pairs.share.Given as goal

abbrev pub invariant-loop-k : goal.invariant-loop-k
invariant-loop-k l = record {
  beyond : IsPartedBeyond l.kernel.prefix l.m l.set (take l.k-index l.first) l.second;
  parted : l.nothing ≡ true → IsParted l.kernel.prefix l.m (take l.k-index l.first) l.second;
  rest : IsLeft l.first l.k-index l.second l.at;
}
