use Rattle.std.proofs.Common.{Option, subst}
use Rattle.q_blocked.specs.Searches.{FindsWithin}
use Rattle.q_blocked.specs.declared.target.Target.{Target}
use Rattle.q_sched.specs.declared.moves.Group.TheVariants as group
use Rattle.q_sched.specs.AlarmViews.{view_alarm}
use Rattle.q_sched.proofs.AlarmTurns.{now-quiet, quiet-begin, quiet-through}
use Rattle.q_sched.proofs.BlockedPlaces.{looks-nothing, looks-whole, none-begun, none-more}
use Rattle.q_sched.proofs.GroupTargets.{found-blocked}
use Rattle.q_sched.proofs.looking.look_for_blocked.Goals as goal

pub loop-first-init : goal.loop-first-init
loop-first-init g c = record {
  right = c.forget.ensures c.args.kernel.now;
  none = none-begun c.args.bounds.now c.args.kernel.now;
  quiet = quiet-begin (view_alarm g.A.Alarm c.args.alarm.now);
}

pub returns-in_default-checked_add-clause-looks : goal.returns-in_default-checked_add-clause-looks
returns-in_default-checked_add-clause-looks g c =
    let B = c.args.bounds.now in
    let k = c.args.kernel.now in
    looks-whole group.Block B k c.map.result c.look_of.result c.look_of.ensures.some c.look_of.ensures.none (found-blocked B k 0 c.in_ok-found.found c.map.result c.map.ensures.cases c.in_ok-found.ensures.finds)

pub loop-first-preserved : goal.loop-first-preserved
loop-first-preserved g c =
    let B = c.args.bounds.now in
    let k = c.args.kernel.now in
    let first = c.in-Some.first in
    let l = view_alarm g.A.Alarm c.loop-first.alarm in
    let r = view_alarm g.A.Alarm c.rings.new.self in
    record {
      right = c.find_within.ensures.right;
      none = none-more B k c.loop-first.from first c.in-Some-checked_add.upto (λ d a b. c.next_live.ensures.least first d c.in-Some.is a b)
          (subst (λ (o : Option Target). FindsWithin B k first c.in-Some-checked_add.upto o) c.in_default-2.is c.in_ok-target.ensures.finds) c.loop-first.invariant.none;
      quiet = quiet-through (view_alarm g.A.Alarm c.args.alarm.now) l r c.loop-first.invariant.quiet
          (now-quiet l r (record { limit = c.rings.ensures.limit; is_plain = c.rings.ensures.is_plain }) c.rings.ensures.asked (c.rings.ensures.silent c.if-rings.false));
    }

pub returns-clause-looks : goal.returns-clause-looks
returns-clause-looks g c =
    looks-nothing c.args.bounds.now c.args.kernel.now c.loop-first.from (λ d a. c.next_live.ensures.none c.in_default.is d a) c.loop-first.invariant.none
