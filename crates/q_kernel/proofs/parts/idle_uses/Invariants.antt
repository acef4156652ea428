use Rattle.std.proofs.Common.{◌<◌, take}
use Rattle.q_kernel.proofs.PrefixWalks.{AreIdle}
use Rattle.q_kernel.proofs.parts.idle_uses.Given as goal

abbrev pub invariant-loop-bound : goal.invariant-loop-bound
invariant-loop-bound l = record {
  idle : AreIdle l.uses (take l.bound-index l.bounds);
  room : l.most < l.uses.room;
}
