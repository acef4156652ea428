-- Budgets of decisions.
use Rattle.std.specs.Prelude.{◌≡◌, ◌<◌, ℕ, zero, suc, ◌+◌, Bool, true, false, Option, Some, None}
use Rattle.q_logic.specs.Prelude.{Tally}

-- a budget is given and is below the number
abbrev pub IsBelow : Option ℕ → ℕ → Type 0
IsBelow None n = ⊥
IsBelow (Some b) n = b < n

-- one decision less is left, or nothing was left
abbrev pub IsPayment : Option ℕ → Option ℕ → Bool → Type 0
IsPayment None new paid = (new ≡ None) × (paid ≡ true)
IsPayment (Some zero) new paid = (new ≡ Some zero) × (paid ≡ false)
IsPayment (Some (suc n)) new paid = (new ≡ Some n) × (paid ≡ true)

-- what is left of a budget, while so many decisions of all are to come
abbrev pub IsLeft : Option ℕ → Option ℕ → ℕ → ℕ → Type 0
IsLeft None None to_come all = Unit {0}
IsLeft None (Some k) to_come all = ⊥
IsLeft (Some n) None to_come all = ⊥
IsLeft (Some n) (Some k) to_come all = all + k ≡ n + to_come

-- how far a search is that finds all: what is to come finds the same, and the budget has paid for what was made
pub record IsOnTheWay (budget left : Option ℕ) (to_come all : Tally) : Type 0 where
  pub won : to_come.won ≡ all.won
  pub last : to_come.last ≡ all.last
  pub paid : IsLeft budget left to_come.decisions all.decisions
