use Rattle.std.proofs.Common.{arith}
use Rattle.q_prop.specs.Slots.{without}
use Rattle.q_prop.proofs.PlainLemmas.{passed-new, passed-quiet, passed-conflict, passed-end, without-length}
use Rattle.q_prop.proofs.plain.pass.Goals as goal
use Rattle.q_prop.proofs.plain.pass.Goals.{in-New, in-Quiet}

pub returns-in-Conflict : goal.returns-in-Conflict
returns-in-Conflict c =
    let s = without c.args.clauses.now.slots c.args.skip in
    let l = c.loop-at in
    passed-conflict s l.at c.args.trail.now c.args.hints.now.items l.trail l.hints.items c.look.new.hints.items l.grown l.invariant
    (rw c.in-Conflict.is at c.in_ok-look.ensures)

pub loop-at-preserved : goal.loop-at-preserved
loop-at-preserved c =
    let s = without c.args.clauses.now.slots c.args.skip in
    let l = c.loop-at in
    elim c.match-branch-2.branch [
      | in-New w ↦ rw w.grown-is (passed-new s l.at c.args.trail.now c.args.hints.now.items l.trail l.hints.items c.look.new.trail c.look.new.hints.items l.grown c.requires l.invariant
          (rw w.in-New.is at c.in_ok-look.ensures))
      | in-Quiet w ↦ rw w.grown-is (passed-quiet s l.at c.args.trail.now c.args.hints.now.items l.trail l.hints.items c.look.new.trail c.look.new.hints.items l.grown l.invariant
          (rw w.in-Quiet.is at c.in_ok-look.ensures))
    ]

pub returns : goal.returns
returns c =
    let s = without c.args.clauses.now.slots c.args.skip in
    let l = c.loop-at in
    let e = without-length c.args.clauses.now.slots c.args.skip in
    rw c.answer.ensures (passed-end s l.at c.args.trail.now c.args.hints.now.items l.trail l.hints.items l.grown l.invariant (omega arith))
