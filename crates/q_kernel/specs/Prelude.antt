-- The words on a kernel, passed on from one place. Declares nothing.
pub use Rattle.q_kernel.specs.Kernels.{slots, Seen, formula_in, HoldsLiteral, IsSound, SameView}
pub use Rattle.q_kernel.specs.Kernels.{HasSweepBytes, KeepsRoom}
pub use Rattle.q_kernel.specs.Changes.{IsLed, IsAdded, IsDeleted, MayAdd, MayDelete, IsDropped}
pub use Rattle.q_kernel.specs.Changes.{MayDrop, MayShrink, IsShrunk, IsFreshened, MayFresh}
pub use Rattle.q_kernel.specs.Taking.{IsReady, Applies, IsTaken}
pub use Rattle.q_kernel.specs.Visits.{holders_of, IsHolder, AreOnce, IsLive}
