use Rattle.std.proofs.Common.{◌≡◌, ◌≤◌, ◌<◌, length, Some, slice_get, refl, ap, subst, inr, arith}
use Rattle.q_logic.proofs.Common.{slice_get-IsIn}
use Rattle.q_expand.specs.Dependents.{Walked}
use Rattle.q_expand.proofs.WholeWalk.{walk-begun, walk-more, walk-ended}
use Rattle.q_expand.proofs.dependents.Dependents.grow.Goals as goal

pub loop-head-init : goal.loop-head-init
loop-head-init c =
    let m = c.in_ok-visit_both.ensures.met c.if-not-branch.false in
    record { walk = walk-begun c.args.kernel.now c.args.u.var c.args.room c.args.u c.clear.new.self c.visit_both.new.self c.requires.sign refl m.0 m.1; within = m.0.within }

pub returns-then-head-len-clause-whole : goal.returns-then-head-len-clause-whole
returns-then-head-len-clause-whole c t =
    let e = ap (λ (w : Walked). length w.vars) c.self.view_is in
    let past : length c.loop-head.self.vars ≤ c.loop-head.head = omega (arith, c.if-head-len.true, c.len.ensures, e) in
    (walk-ended c.args.kernel.now c.args.u.var c.loop-head.head c.loop-head.self c.loop-head.invariant.walk past, c.loop-head.invariant.within)

pub visit_both-requires-in-loop-head : goal.visit_both-requires-in-loop-head
visit_both-requires-in-loop-head c =
    let i = slice_get-IsIn c.loop-head.self.vars c.loop-head.head c.at-next.result (subst (λ (w : Walked). slice_get w.vars c.loop-head.head ≡ Some c.at-next.result) c.self.view_is c.at-next.ensures) in
    record {
      sign = c.requires.sign;
      bound = c.requires.bound;
      room_for = c.requires.room;
      linked = inr (c.loop-head.invariant.walk.dependents.linked c.at-next.result i).1;
      dependents = c.loop-head.invariant.walk.dependents;
      within = c.loop-head.invariant.within;
    }

pub loop-head-preserved : goal.loop-head-preserved
loop-head-preserved c =
    let m = c.in_ok-visit_both-2.ensures.met c.if-not-branch-2.false in
    let e = ap (λ (w : Walked). length w.vars) c.self.view_is in
    let room : c.loop-head.head < length c.loop-head.self.vars = omega (arith, c.if-head-len.false, c.len.ensures, e) in
    let at : slice_get c.loop-head.self.vars c.loop-head.head ≡ Some c.at-next.result = subst (λ (w : Walked). slice_get w.vars c.loop-head.head ≡ Some c.at-next.result) c.self.view_is c.at-next.ensures in
    record {
      walk = walk-more c.args.kernel.now c.args.u.var c.args.room c.loop-head.head c.at-next.result c.loop-head.self c.visit_both-in-loop-head.new.self c.loop-head.invariant.walk room at m.0 m.1;
      within = m.0.within;
    }
