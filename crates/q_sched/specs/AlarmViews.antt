-- An alarm, by what its trait tells.
use Rattle.q_sched.specs.declared.alarm.Alarm as alarms
use Rattle.q_sched.specs.Alarms.{AlarmView}

abbrev pub view_alarm : {A : Type 0} → alarms.Ghosts A → A → AlarmView
view_alarm told alarm =
    record { asked = told.asked alarm; rang = told.rang alarm; limit = told.limit alarm; is_plain = told.is_plain alarm }
