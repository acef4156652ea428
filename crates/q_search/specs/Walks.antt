-- Where a program stands in a search.
use Rattle.std.specs.Prelude.{◌≡◌, ◌<◌, ◌++◌, ℕ, Bool, true, false, List, [], ◌∷◌, length, Option}
use Rattle.q_logic.specs.declared.formulas.Quant.{Quant}
use Rattle.q_logic.specs.declared.formulas.Quant.TheVariants.{Forall}
use Rattle.q_logic.specs.Prelude.{Prefix, Test, Node, Tally, explored, leaf, nothing}
use Rattle.q_logic.specs.declared.verdict.Verdict.{Verdict}
use Rattle.q_search.specs.declared.walking.Ending.{Ending}
use Rattle.q_search.specs.declared.walking.Ending.TheVariants.{AllWon, AllLost, Unknown}
use Rattle.q_search.specs.Paths.{rest_of, whole, zeros, outlook, said, node_at}
use Rattle.q_search.specs.Budgets.{IsBelow}

-- a test, the variables in their order, and the values of the first of them
pub record Walk : Type 0 where
  pub test : Test
  pub prefix : Prefix
  pub path : List Bool

-- the same search at another node
abbrev pub moved : Walk → List Bool → Walk
moved w path = record { test = w.test; prefix = w.prefix; path = path }

-- what the test says here
abbrev pub said_here : Walk → Verdict
said_here w = said w.test w.prefix w.path nothing

-- some variable has no value
abbrev pub IsInner : Walk → Type 0
IsInner w = length w.path < length w.prefix

-- the last value and the quantifier of its variable, and the node before it
pub record IsLast (now before : Walk) (q : Quant) (v : Bool) : Type 0 where
  pub same : before ≡ moved now before.path
  pub path : now.path ≡ before.path ++ v ∷ []
  pub variable : ℕ
  pub rest : Prefix
  pub unset : rest_of now.prefix before.path ≡ record { quant = q; var = variable } ∷ rest

-- what all finds
abbrev pub all_of : Walk → Tally
all_of w = explored w.test w.prefix nothing

-- what a node gives that is won or not, is what the next node gives
pub record IsNext (old new : Walk) (won : Bool) : Type 0 where
  pub same : new ≡ moved old new.path
  pub zeros : zeros new.path < zeros old.path
  pub whole : (n : Node) → whole old.test old.prefix old.path nothing (leaf won n) ≡ outlook old.test old.prefix new.path nothing

-- what the node gives is what all gives
abbrev pub IsEnd : Walk → Bool → Type 0
IsEnd old won = (n : Node) → whole old.test old.prefix old.path nothing (leaf won n) ≡ leaf won n

abbrev pub IsTurned : Walk → Walk → Bool → Bool → Type 0
IsTurned old new won true = IsNext old new won
IsTurned old new won false = IsEnd old won

-- how a search ends: Unknown comes exactly where a budget below the number of decisions is given
abbrev pub IsEnding : Walk → Option ℕ → Ending → Type 0
IsEnding w budget AllWon = (¬ IsBelow budget (all_of w).decisions) × ((all_of w).won ≡ true)
IsEnding w budget AllLost = (¬ IsBelow budget (all_of w).decisions) × ((all_of w).won ≡ false)
IsEnding w budget Unknown = IsBelow budget (all_of w).decisions

-- each variable is universal
abbrev pub AreUniversal : Prefix → Type 0
AreUniversal [] = Unit {0}
AreUniversal (b ∷ P) = (b.quant ≡ Forall) × AreUniversal P

-- the same, and where some node is lost, the program stands at the first such
abbrev pub IsLostAt : Walk → Walk → Option ℕ → Ending → Type 0
IsLostAt old new budget AllWon = IsEnding old budget AllWon
IsLostAt old new budget AllLost = IsEnding old budget AllLost × (node_at old.prefix new.path nothing ≡ (all_of old).last)
IsLostAt old new budget Unknown = IsEnding old budget Unknown
