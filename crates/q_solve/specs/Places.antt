-- Where the search stands.
use Rattle.std.specs.Prelude.{◌≡◌, ◌++◌, [], ◌∷◌, Bool, true, false, cond, List, length}
use Rattle.q_logic.specs.declared.formulas.Quant.{Quant}
use Rattle.q_logic.specs.declared.formulas.Quant.TheVariants.{Exists, Forall}
use Rattle.q_logic.specs.Prelude.{Literal, Prefix, PrenexFormula, Assignment, signed, nothing}
use Rattle.q_logic.specs.declared.verdict.Standing.{Standing}
use Rattle.q_logic.specs.declared.verdict.Standing.TheVariants.{True, False, Chosen, Free}
use Rattle.q_logic.specs.Decisions.{verdict}
use Rattle.q_search.specs.Paths.{along, rest_of}
use Rattle.q_search.specs.Walks.{Walk}
use Rattle.q_solve.specs.declared.node.Decision.{Decision}
use Rattle.q_solve.specs.declared.places.Known.{Known}

-- a node: the values of the first variables of a formula
pub record Spot : Type 0 where
  pub formula : PrenexFormula
  pub path : List Bool

-- the variables without a value
abbrev pub unset : Spot → Prefix
unset s = rest_of s.formula.prefix s.path

-- the values of the others
abbrev pub values : Spot → Assignment
values s = along s.formula.prefix s.path nothing

-- the last decision of a node, and the node before it
pub record IsLast (now before : Spot) (d : Decision) : Type 0 where
  pub formula : before.formula ≡ now.formula
  pub path : now.path ≡ before.path ++ d.value ∷ []
  pub depth : d.depth ≡ length now.path
  pub rest : Prefix
  pub unset : unset before ≡ d.bound ∷ rest

abbrev pub valued : Bool → Literal → Standing
valued v k = cond (signed k.negative v) True False

abbrev pub open_to : Quant → Standing
open_to Exists = Chosen
open_to Forall = Free

-- what is known of a variable without a value, and of one with a value
abbrev pub known_open : Quant → Known
known_open q = record { positive = open_to q; negative = open_to q }

abbrev pub known_value : Bool → Known
known_value true = record { positive = True; negative = False }
known_value false = record { positive = False; negative = True }

-- a node as a node of a search
abbrev pub walk_of : Spot → Walk
walk_of s = record { test = verdict s.formula.matrix; prefix = s.formula.prefix; path = s.path }
