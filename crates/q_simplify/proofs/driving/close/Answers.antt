use Rattle.std.proofs.Common.{arith}
use Rattle.q_simplify.proofs.Decided.{decided-done}
use Rattle.q_simplify.proofs.driving.close.Goals as goal

pub returns-else-size-gt1 : goal.returns-else-size-gt1
returns-else-size-gt1 c = λ B. decided-done B c.args.kernel.now c.requires.ready.swept (omega (arith, c.size.ensures, c.if-size-gt1.false))
