use Rattle.std.proofs.Common.{◌≡◌, ◌≤◌, ◌+◌, drop, arith}
use Rattle.q_logic.specs.Prelude.{literals_in}
use Rattle.q_encode.proofs.SumBounds.{literals-next}
use Rattle.q_encode.proofs.sums.literals.Goals as goal

pub returns-then-len-most : goal.returns-then-len-most
returns-then-len-most c =
    let m : c.loop-at.total ≤ c.args.most = c.loop-at.invariant.most in
    let v : c.loop-at.total + literals_in (drop c.loop-at.at c.args.formula.now.matrix) ≡ literals_in c.args.formula.now.matrix = c.loop-at.invariant.value in
    let n = literals-next c.args.formula.now.matrix c.loop-at.at c.clause-len.result.now c.clause-len.ensures.value in
    omega arith

pub loop-at-preserved : goal.loop-at-preserved
loop-at-preserved c =
    let m : c.loop-at.total ≤ c.args.most = c.loop-at.invariant.most in
    let v : c.loop-at.total + literals_in (drop c.loop-at.at c.args.formula.now.matrix) ≡ literals_in c.args.formula.now.matrix = c.loop-at.invariant.value in
    let n = literals-next c.args.formula.now.matrix c.loop-at.at c.clause-len.result.now c.clause-len.ensures.value in
    record { most = omega arith; value = omega arith }
