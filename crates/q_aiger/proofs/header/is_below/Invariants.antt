use Rattle.std.proofs.Common.{◌+◌}
use Rattle.q_aiger.specs.Headers.{IsSpare, IsSmall, padded}
use Rattle.q_aiger.proofs.header.is_below.Given as goal

abbrev pub invariant-loop-at : goal.invariant-loop-at
invariant-loop-at l = record {
  small : IsSmall l.spare;
  spare : IsSpare l.spare (padded l.len l.max l.at) (padded l.len l.inputs l.at + padded l.len l.latches l.at + padded l.len l.gates l.at);
}
