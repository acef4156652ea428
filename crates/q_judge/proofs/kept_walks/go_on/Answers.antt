use Rattle.std.proofs.Common.{arith}
use Rattle.q_prop.specs.Slots.{filled}
use Rattle.q_prop.proofs.SlotLemmas.{slice_get-there}
use Rattle.q_judge.proofs.KeptWalks.{going-begun, going-more, going-back}
use Rattle.q_judge.proofs.kept_walks.go_on.Goals as goal

pub loop-head-init : goal.loop-head-init
loop-head-init c = rw c.len-begun.ensures (going-begun c.args.view.now.prefix (filled c.args.view.now.slots) c.args.clause.now c.args.u c.args.known.now c.push_inner.new.trail c.requires.shut (rw c.scope.ensures at c.in_ok-push_inner.ensures))

pub returns-then-head-begun-clause-shut : goal.returns-then-head-begun-clause-shut
returns-then-head-begun-clause-shut c =
    let r = going-back c.args.view.now.prefix (filled c.args.view.now.slots) c.args.clause.now c.args.u c.args.known.now c.loop-head.head c.loop-head.known c.loop-head.invariant c.requires.shut in
    rw (c.truncate.ensures, c.len-begun.ensures) r

pub loop-head-preserved : goal.loop-head-preserved
loop-head-preserved c =
    let k = slice_get-there c.loop-head.known c.loop-head.head (omega (arith, c.if-head-len.false, c.len.ensures)) in
    let v = rw c.if-not-branch.false at c.in_ok-visit.ensures k.0 k.1 in
    going-more c.args.view.now.prefix (filled c.args.view.now.slots) c.args.clause.now c.args.u c.args.known.now c.loop-head.head k.0 c.loop-head.known c.visit.new.trail c.loop-head.invariant k.1 v
