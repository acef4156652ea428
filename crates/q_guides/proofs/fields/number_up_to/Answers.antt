use Rattle.std.proofs.Common.{arith}
use Rattle.q_guides.proofs.MoveFields.{overflows}
use Rattle.q_guides.proofs.fields.number_up_to.Goals as goal
use Rattle.q_guides.proofs.fields.number_up_to.Goals.{then-digit-most-via-then-digit-most, then-digit-most-via-else-digit-most+then-value-most}

pub returns-then-digit-most : goal.returns-then-digit-most
returns-then-digit-most c =
    elim c.then-digit-most.branch [
      | then-digit-most-via-then-digit-most w ↦ overflows c.args.most c.loop-byte.value c.loop-byte.byte-index c.args.text.now c.loop-byte-test.true c.loop-byte.invariant.same (omega arith) (omega arith) (omega (arith, c.from-digit.ensures))
      | then-digit-most-via-else-digit-most+then-value-most w ↦ overflows c.args.most c.loop-byte.value c.loop-byte.byte-index c.args.text.now c.loop-byte-test.true c.loop-byte.invariant.same (omega arith) (omega arith) (omega (arith, c.from-digit.ensures))
    ]
