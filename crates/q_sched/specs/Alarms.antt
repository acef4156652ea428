-- What an alarm counts.
use Rattle.std.specs.Prelude.{◌≡◌, ◌⊎◌, ◌≤◌, ◌+◌, ◌-◌, ◌^◌, ℕ, Bool, Option, min}
use Rattle.q_logic.specs.Prelude.{Rose}

-- a count that goes up by one, and stays at the last number that a u64 has
abbrev pub risen : ℕ → ℕ
risen count = min (count + 1) (2 ^ 64 - 1)

-- an alarm at a moment: how often it was asked and rang, and what it was set to
pub record AlarmView : Type 0 where
  pub asked : ℕ
  pub rang : ℕ
  pub limit : Option ℕ
  pub is_plain : Bool

-- it rang, once
abbrev pub Rang : AlarmView → AlarmView → Type 0
Rang before after = after.rang ≡ risen before.rang

-- what it was set to stays
pub record StaysSet (before after : AlarmView) : Type 0 where
  pub limit : after.limit ≡ before.limit
  pub is_plain : after.is_plain ≡ before.is_plain

-- it may have been asked, and did not ring
pub record IsQuiet (before after : AlarmView) : Type 0 where
  pub set : StaysSet before after
  pub rang : after.rang ≡ before.rang
  pub asked : min before.asked (2 ^ 64 - 1) ≤ after.asked

-- it was asked until it rang
pub record IsRung (before after : AlarmView) : Type 0 where
  pub set : StaysSet before after
  pub rang : Rang before after
  pub asked : min before.asked (2 ^ 64 - 1) ≤ after.asked

-- turns over which it is asked: it rings at most once, and is asked no more then
pub record IsHeard (before after : AlarmView) : Type 0 where
  pub set : StaysSet before after
  pub rang : (after.rang ≡ before.rang) ⊎ Rang before after

-- it was asked
abbrev pub WasAsked : AlarmView → AlarmView → Type 0
WasAsked before after = Rose before.asked after.asked

-- this, or something else, but only where it rang
abbrev pub UnlessRung : AlarmView → AlarmView → Type 0 → Type 0 → Type 0
UnlessRung before after P Q = P ⊎ (Rang before after × Q)
