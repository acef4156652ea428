use Rattle.std.proofs.Common.{arith}
use Rattle.q_kernel.specs.Prelude.{slots}
use Rattle.q_kernel.proofs.SlotLists.{live_in-length}
use Rattle.q_eliminate.proofs.room.reserve.Goals as goal

pub reserve-requires-2 : goal.reserve-requires-2
reserve-requires-2 c = let n = live_in-length (slots c.args.kernel.now) in let h = c.requires.limits.clauses in let g = c.requires.clauses in omega arith
