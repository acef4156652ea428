use Rattle.std.proofs.Common.{◌-◌, length, arith}
use Rattle.q_aiger.proofs.LineCuts.{return-cut, return-none}
use Rattle.q_aiger.proofs.lines.cut_return.Goals as goal
use Rattle.q_aiger.proofs.lines.cut_return.Goals.{else-len-gt0-via-then-len-gt0+else-line-len-eq13, else-len-gt0-via-else-len-gt0}

pub returns-then-line-len-eq13 : goal.returns-then-line-len-eq13
returns-then-line-len-eq13 c = return-cut c.args.line.now (length c.args.line.now - 1) (omega arith) c.if-line-len-eq13.true

pub returns : goal.returns
returns c = return-none c.args.line.now (length c.args.line.now - 1) (λ lt. omega arith) (λ lt e. elim c.else-len-gt0.branch [
  | else-len-gt0-via-then-len-gt0+else-line-len-eq13 w ↦ w.if-line-len-eq13.false e
  | else-len-gt0-via-else-len-gt0 w ↦ absurd (omega (arith, lt))
])
