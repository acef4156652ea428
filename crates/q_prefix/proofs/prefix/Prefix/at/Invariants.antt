use Rattle.std.proofs.Common.{◌≡◌, slice_get}
use Rattle.q_arena.specs.Prelude.{list_at}
use Rattle.q_prefix.proofs.prefix.Prefix.at.Given as goal

abbrev pub invariant-loop : goal.invariant-loop
invariant-loop l = l.at ≡ slice_get (list_at l.self-inside.order 0) l.counter
