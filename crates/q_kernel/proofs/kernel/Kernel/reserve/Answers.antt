use Rattle.std.proofs.Common.{arith}
use Rattle.q_kernel.proofs.KeptView.{count-same}
use Rattle.q_kernel.proofs.kernel.Kernel.reserve.Goals as goal

pub reserve_clauses-requires : goal.reserve_clauses-requires
reserve_clauses-requires c =
    let n = count-same c.args.self.now c.make_room.new.self c.make_room.ensures.view in
    omega (arith, c.requires)
