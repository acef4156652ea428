use Rattle.std.proofs.Common.{get_or}
use Rattle.std.proofs.lemmas.List.{get_or_default}
use Rattle.q_solve.proofs.CountChanges.{next-there, next-can, next-shifted}
use Rattle.q_solve.proofs.counts.Counts.shift.Goals as goal

pub shift_one-requires-clause-there : goal.shift_one-requires-clause-there
shift_one-requires-clause-there c =
    let x = get_or c.args.row.now c.loop-at.at-index 0 in
    next-there c.args.self.now c.loop-at.self c.args.row.now c.loop-at.at-index x c.args.from c.args.to c.loop-at-test.true
    (get_or_default c.args.row.now c.loop-at.at-index 0 x c.loop-at-test.true) c.loop-at.invariant c.requires

pub shift_one-requires-clause-can : goal.shift_one-requires-clause-can
shift_one-requires-clause-can c =
    let x = get_or c.args.row.now c.loop-at.at-index 0 in
    next-can c.args.self.now c.loop-at.self c.args.row.now c.loop-at.at-index x c.args.from c.args.to c.loop-at-test.true
    (get_or_default c.args.row.now c.loop-at.at-index 0 x c.loop-at-test.true) c.loop-at.invariant c.requires

pub loop-at-preserved : goal.loop-at-preserved
loop-at-preserved c =
    let x = get_or c.args.row.now c.loop-at.at-index 0 in
    next-shifted c.args.self.now c.loop-at.self c.args.row.now c.loop-at.at-index x c.args.from c.args.to c.loop-at-test.true
    (get_or_default c.args.row.now c.loop-at.at-index 0 x c.loop-at-test.true) c.loop-at.invariant c.shift_one.new.self c.shift_one.ensures
