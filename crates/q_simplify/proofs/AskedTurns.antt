-- Turns before which an alarm is asked.
use Rattle.std.proofs.Common.{◌≡◌, ◌≤◌, ◌-◌, ◌^◌, ℕ, Result, Ok, Err, IfOk, OnErr, min, refl, subst, arith}
use Rattle.q_kernel.specs.Prelude.{Seen}
use Rattle.q_sched.specs.declared.turns.Turn.{Turn}
use Rattle.q_sched.specs.declared.turns.Turn.TheVariants as turn
use Rattle.q_sched.specs.Alarms.{AlarmView, IsQuiet, IsRung, WasAsked, risen}
use Rattle.q_sched.specs.Drives.{Driving, Turned}
use Rattle.q_sched.specs.Looks.{Heeds}
use Rattle.q_sched.proofs.AlarmTurns.{quiet-begin, quiet-through, rung-through, was-asked}
use Rattle.q_simplify.specs.Stops.{IsTurn}

-- it rang before the turn, so there was none
pub no-turn : (d : Driving) (k : Seen) → IsTurn turn.GaveWay d k d k
no-turn d k = record { ends = refl; falls = (refl, refl); frame = record { bounds = refl; budget = refl; first_measure = refl } }

pub a-turn : {E : Type 0} (d e : Driving) (j k : Seen) (r : Result Turn E) → IfOk r (λ t. Turned d j t e k) → IfOk r (λ t. IsTurn t d j e k)
a-turn d e j k (Ok t) h = record { ends = h.ends; falls = h.falls; frame = h.frame }
a-turn d e j k (Err x) h = tt

-- what was heard before the turn and in it
heeds-after : (t : Turn) (a b c : AlarmView) → IsQuiet a b → Heeds t b c → Heeds t a c
heeds-after turn.Moved a b c q h = quiet-through a b c q h
heeds-after turn.Asked a b c q h = quiet-through a b c q h
heeds-after turn.Settled a b c q h = quiet-through a b c q h
heeds-after turn.Spent a b c q h = quiet-through a b c q h
heeds-after turn.GaveWay a b c q h = rung-through a b c q h

pub heeds-turn : {E : Type 0} (a b c : AlarmView) (r : Result Turn E) → IsQuiet a b → IfOk r (λ t. Heeds t b c) → IfOk r (λ t. Heeds t a c)
heeds-turn a b c (Ok t) q h = heeds-after t a b c q h
heeds-turn a b c (Err x) q h = tt

heeds-asked : (t : Turn) (a b : AlarmView) → Heeds t a b → min a.asked (2 ^ 64 - 1) ≤ b.asked
heeds-asked turn.Moved a b h = h.asked
heeds-asked turn.Asked a b h = h.asked
heeds-asked turn.Settled a b h = h.asked
heeds-asked turn.Spent a b h = h.asked
heeds-asked turn.GaveWay a b h = h.asked

-- it was asked before the turn
pub asked-turn : {E : Type 0} (a b c : AlarmView) (r : Result Turn E) → b.asked ≡ risen a.asked → IfOk r (λ t. Heeds t b c) → OnErr r (IsQuiet b c) → WasAsked a c
asked-turn a b c (Ok t) e h q = was-asked a a b c (quiet-begin a) e (heeds-asked t b c h)
asked-turn a b c (Err x) e h q = was-asked a a b c (quiet-begin a) e q.asked

pub heeds-quiet : (t : Turn) (a b : AlarmView) → (t ≡ turn.GaveWay → ⊥) → Heeds t a b → IsQuiet a b
heeds-quiet turn.Moved a b n h = h
heeds-quiet turn.Asked a b n h = h
heeds-quiet turn.Settled a b n h = h
heeds-quiet turn.Spent a b n h = h
heeds-quiet turn.GaveWay a b n h = absurd (n refl)

pub heeds-rung : (t : Turn) (a b : AlarmView) → t ≡ turn.GaveWay → Heeds t a b → IsRung a b
heeds-rung t a b e h = subst (λ (x : Turn). Heeds x a b) e h

-- asked again
pub asked-still : (a b c : AlarmView) → IsQuiet a b → WasAsked b c → WasAsked a c
asked-still a b c q w = rises a.asked b.asked c.asked q.asked w
  where
    rises : (x y z : ℕ) → min x (2 ^ 64 - 1) ≤ y → risen y ≤ z → risen x ≤ z
    rises x y z h k = grind arith
