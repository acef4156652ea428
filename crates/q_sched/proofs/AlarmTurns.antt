-- An alarm that is asked turn by turn.
use Rattle.std.proofs.Common.{◌≡◌, ◌≤◌, ◌-◌, ◌^◌, ◌∙◌, inl, inr, ℕ, min, refl, ap, arith}
use Rattle.q_sched.specs.Alarms.{AlarmView, IsHeard, IsQuiet, IsRung, Rang, StaysSet, UnlessRung, WasAsked, risen}

pub quiet-begin : (a : AlarmView) → IsQuiet a a
quiet-begin a = record { set = record { limit = refl; is_plain = refl }; rang = refl; asked = omega arith }

set-through : (a b c : AlarmView) → StaysSet a b → StaysSet b c → StaysSet a c
set-through a b c s t = record { limit = t.limit ∙ s.limit; is_plain = t.is_plain ∙ s.is_plain }

asked-once : (y z : ℕ) → z ≡ risen y → min y (2 ^ 64 - 1) ≤ z
asked-once y z e = grind arith

asked-through : (x y z : ℕ) → min x (2 ^ 64 - 1) ≤ y → min y (2 ^ 64 - 1) ≤ z → min x (2 ^ 64 - 1) ≤ z
asked-through x y z h k = grind arith

asked-rose : (x y z w : ℕ) → min x (2 ^ 64 - 1) ≤ y → z ≡ risen y → min z (2 ^ 64 - 1) ≤ w → risen x ≤ w
asked-rose x y z w h e k = grind arith

-- it was asked once, and did not ring
pub now-quiet : (a b : AlarmView) → StaysSet a b → b.asked ≡ risen a.asked → b.rang ≡ a.rang → IsQuiet a b
now-quiet a b s e r = record { set = s; rang = r; asked = asked-once a.asked b.asked e }

-- it was asked once, and rang
pub now-rung : (a b : AlarmView) → StaysSet a b → b.asked ≡ risen a.asked → Rang a b → IsRung a b
now-rung a b s e r = record { set = s; rang = r; asked = asked-once a.asked b.asked e }

pub quiet-through : (a b c : AlarmView) → IsQuiet a b → IsQuiet b c → IsQuiet a c
quiet-through a b c q r =
    record { set = set-through a b c q.set r.set; rang = r.rang ∙ q.rang; asked = asked-through a.asked b.asked c.asked q.asked r.asked }

pub rung-through : (a b c : AlarmView) → IsQuiet a b → IsRung b c → IsRung a c
rung-through a b c q r =
    record { set = set-through a b c q.set r.set; rang = r.rang ∙ ap risen q.rang; asked = asked-through a.asked b.asked c.asked q.asked r.asked }

pub quiet-heard : (a b : AlarmView) → IsQuiet a b → IsHeard a b
quiet-heard a b q = record { set = q.set; rang = inl q.rang }

pub rung-heard : (a b : AlarmView) → IsRung a b → IsHeard a b
rung-heard a b r = record { set = r.set; rang = inr r.rang }

-- it was asked before turn, and maybe within it
pub was-asked : (a b c d : AlarmView) → IsQuiet a b → c.asked ≡ risen b.asked → min c.asked (2 ^ 64 - 1) ≤ d.asked → WasAsked a d
was-asked a b c d q e r = asked-rose a.asked b.asked c.asked d.asked q.asked e r

-- an alarm whose count of rings stays at 0 did not ring
pub silent : (a b : AlarmView) → a.rang ≡ 0 → b.rang ≡ 0 → Rang a b → ⊥
silent a b x y z = never a.rang b.rang x y z
  where
    never : (m n : ℕ) → m ≡ 0 → n ≡ 0 → n ≡ risen m → ⊥
    never m n x y e = grind arith

pub unless-silent : (P Q : Type 0) (a b : AlarmView) → a.rang ≡ 0 → b.rang ≡ 0 → UnlessRung a b P Q → P
unless-silent P Q a b x y (inl p) = p
unless-silent P Q a b x y (inr q) = absurd (silent a b x y q.0)

pub unless-both : (P Q R S : Type 0) (a b : AlarmView) → (P → R) → (Q → S) → UnlessRung a b P Q → UnlessRung a b R S
unless-both P Q R S a b f g (inl p) = inl (f p)
unless-both P Q R S a b f g (inr q) = inr (q.0, g q.1)
