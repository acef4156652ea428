use Rattle.q_sched.proofs.AlarmTurns.{now-quiet, now-rung, quiet-begin, quiet-through, was-asked}
use Rattle.q_sched.specs.AlarmViews.{view_alarm}
use Rattle.std.proofs.lemmas.Result.{on_err_weaker}
use Rattle.q_simplify.proofs.AskedTurns.{a-turn, asked-turn, heeds-turn, no-turn}
use Rattle.q_simplify.proofs.driving.take_turn.Goals as goal

pub returns-then-rings-clause-turn : goal.returns-then-rings-clause-turn
returns-then-rings-clause-turn g c = no-turn _ _

pub returns-then-rings-clause-heeds : goal.returns-then-rings-clause-heeds
returns-then-rings-clause-heeds g c = now-rung (view_alarm g.A.Alarm c.args.alarm.now) (view_alarm g.A.Alarm c.rings.new.self) (record { limit = c.rings.ensures.limit; is_plain = c.rings.ensures.is_plain }) c.rings.ensures.asked (c.rings.ensures.rang c.if-rings.true)

pub returns-then-rings-clause-asked : goal.returns-then-rings-clause-asked
returns-then-rings-clause-asked g c =
    let a = view_alarm g.A.Alarm c.args.alarm.now in
    let r = view_alarm g.A.Alarm c.rings.new.self in
    was-asked a a r r (quiet-begin a) c.rings.ensures.asked (quiet-begin r).asked

pub returns-clause-turn : goal.returns-clause-turn
returns-clause-turn g c = a-turn _ _ _ _ c.next_turn.result c.next_turn.ensures.turned

pub returns-clause-heeds : goal.returns-clause-heeds
returns-clause-heeds g c =
    let a = view_alarm g.A.Alarm c.args.alarm.now in
    let r = view_alarm g.A.Alarm c.rings.new.self in
    let q = now-quiet a r (record { limit = c.rings.ensures.limit; is_plain = c.rings.ensures.is_plain }) c.rings.ensures.asked (c.rings.ensures.silent c.if-rings.false) in
    heeds-turn a r (view_alarm g.A.Alarm c.next_turn.new.alarm) c.next_turn.result q c.next_turn.ensures.heeds

pub returns-clause-quiet : goal.returns-clause-quiet
returns-clause-quiet g c =
    let a = view_alarm g.A.Alarm c.args.alarm.now in
    let r = view_alarm g.A.Alarm c.rings.new.self in
    let q = now-quiet a r (record { limit = c.rings.ensures.limit; is_plain = c.rings.ensures.is_plain }) c.rings.ensures.asked (c.rings.ensures.silent c.if-rings.false) in
    on_err_weaker c.next_turn.result (λ h. quiet-through a r (view_alarm g.A.Alarm c.next_turn.new.alarm) q h) c.next_turn.ensures.quiet

pub returns-clause-asked : goal.returns-clause-asked
returns-clause-asked g c =
    asked-turn (view_alarm g.A.Alarm c.args.alarm.now) (view_alarm g.A.Alarm c.rings.new.self) (view_alarm g.A.Alarm c.next_turn.new.alarm) c.next_turn.result c.rings.ensures.asked c.next_turn.ensures.heeds c.next_turn.ensures.quiet
