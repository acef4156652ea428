use Rattle.std.proofs.Common.{◌≤◌, length, arith}
use Rattle.q_logic.specs.Prelude.{live}
use Rattle.q_kernel.specs.Prelude.{slots}
use Rattle.q_kernel.proofs.SlotLists.{live_in-length}
use Rattle.q_rule.proofs.room.reserve_log.Goals as goal

pub reserve-requires : goal.reserve-requires
reserve-requires c =
    let e = live_in-length (slots c.args.kernel.now) in
    let h : length (live (slots c.args.kernel.now)) ≤ 33554432 = c.requires.clauses in
    omega arith
