use Rattle.std.proofs.Common.{◌≤◌, arith, subst, length, length-drop, take, drop, ◌++◌}
use Rattle.q_command.proofs.AuditSteps.{whole-rest}
use Rattle.q_run_show.specs.Readings.{Advances, Tells}
use Rattle.q_run_show.proofs.ProofReading.{advances_further, tells_from}
use Rattle.q_run_show.proofs.reading.Reading.take_piece.Goals as goal

pub loop-at-preserved : goal.loop-at-preserved
loop-at-preserved c =
    let rest = whole-rest c.args.piece.now c.loop-at.at in
    let within : c.in-Ok.count ≤ length (drop c.loop-at.at c.args.piece.now) = subst (λ xs. c.in-Ok.count ≤ length xs) rest c.in-Ok.ensures.within.1 in (
      advances_further c.args.self.now c.loop-at.self c.take_some.new.self c.args.piece.now c.loop-at.at c.in-Ok.count c.loop-at.invariant.0
          (subst (λ xs. Advances c.loop-at.self c.take_some.new.self (take c.in-Ok.count xs)) rest c.in-Ok.ensures.ok),
      omega (arith, within, length-drop c.loop-at.at c.args.piece.now, c.loop-at.invariant.1),
    )

pub returns-in-Err-clause-tells : goal.returns-in-Err-clause-tells
returns-in-Err-clause-tells c =
    let rest = whole-rest c.args.piece.now c.loop-at.at in
    tells_from c.args.self.now c.loop-at.self c.args.piece.now c.loop-at.at c.in-Err.ending c.loop-at.invariant.0
    (λ more. subst (λ xs. Tells c.in-Err.ending c.loop-at.self (xs ++ more)) rest (c.in-Err.ensures.tells more))
