use Rattle.std.proofs.Common.{ℕ, ◌<◌}
use Rattle.q_kernel.specs.Prelude.{slots}
use Rattle.q_reduce.specs.Forests.{place_of, IsLevel, IsEdge}
use Rattle.q_reduce.proofs.forest.Forest.is_right.Given as goal

abbrev pub invariant-loop-index : goal.invariant-loop-index
invariant-loop-index l = (c : ℕ) → c < l.index → IsEdge l.kernel.prefix (slots l.kernel) l.self.block c (place_of l.self.places c) × IsLevel l.self.places (place_of l.self.places c)
