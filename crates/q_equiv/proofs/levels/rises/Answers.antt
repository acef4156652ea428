use Rattle.std.proofs.Common.{◌≢◌, length, arith}
use Rattle.q_equiv.proofs.FallingLevels.{other-falls}
use Rattle.q_equiv.proofs.levels.rises.Goals as goal

pub returns-then-clause-ne2 : goal.returns-then-clause-ne2
returns-then-clause-ne2 c e =
    let n : length c.args.clause.now ≢ 2 = omega (arith, c.if-clause-ne2.true) in
    other-falls c.args.levels.now c.args.clause.now c.requires n
