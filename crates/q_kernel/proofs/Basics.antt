-- Numbers, options and lists of ids: what proofs above the kernel take from below it.
pub use Rattle.q_arena.proofs.RingPaths.{Misses-not, Misses-from}
pub use Rattle.q_arena.proofs.RingLemmas.{AreApart-without, length-without}
pub use Rattle.q_arena.proofs.Layouts.{Has-kept}
pub use Rattle.q_arena.proofs.ListNeighbours.{get-has}
