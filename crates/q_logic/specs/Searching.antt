-- A search that gives values to the variables of a prefix, in its order.
use Rattle.std.specs.Prelude.{ℕ, ◌+◌, Bool, true, false, cond, not, [], ◌∷◌}
use Rattle.q_logic.specs.declared.formulas.Quant.{Quant}
use Rattle.q_logic.specs.declared.formulas.Quant.TheVariants.{Exists, Forall}
use Rattle.q_logic.specs.Formulas.{Prefix}
use Rattle.q_logic.specs.Truth.{Assignment, with_value}
use Rattle.q_logic.specs.declared.verdict.Verdict.{Verdict}
use Rattle.q_logic.specs.declared.verdict.Verdict.TheVariants.{Lost, Won, Open}

-- what is said of a node: the variables of the prefix have no value, and those before them the values of the assignment
abbrev pub Test : Type 0
Test = Prefix → Assignment → Verdict

-- nothing has a value
abbrev pub nothing : Assignment
nothing v = false

-- a lost part loses the node, and an open one keeps it open
abbrev pub worse : Verdict → Verdict → Verdict
worse Lost w = Lost
worse Won w = w
worse Open Lost = Lost
worse Open Won = Open
worse Open Open = Open

-- a node: the variables without a value, and the values of the others
pub record Node : Type 0 where
  pub rest : Prefix
  pub values : Assignment

-- what a search finds below a node: whether it is won, how many decisions are made, and the last node that is
-- looked at
pub record Tally : Type 0 where
  pub won : Bool
  pub decisions : ℕ
  pub last : Node

-- whether the value 1 is tried after 0, where the node for 0 is won or is not
abbrev pub goes_on : Quant → Bool → Bool
goes_on Exists won = not won
goes_on Forall won = won

-- so many decisions were made before
abbrev pub plus : ℕ → Tally → Tally
plus n t = record { won = t.won; decisions = n + t.decisions; last = t.last }

abbrev pub one_more : Tally → Tally
one_more t = plus 1 t

-- the second value is tried where the first does not decide; then it decides
abbrev pub then_second : Quant → Tally → Tally → Tally
then_second q s t = cond (goes_on q s.won) (plus s.decisions t) s

-- at a node that is lost or won there is no decision
abbrev pub leaf : Bool → Node → Tally
leaf won n = record { won = won; decisions = 0; last = n }

abbrev pub by_verdict : Verdict → Node → Tally → Tally
by_verdict Lost n t = leaf false n
by_verdict Won n t = leaf true n
by_verdict Open n t = t

-- at any other node there is one decision, on the first variable without a value
abbrev pub explored : Test → Prefix → Assignment → Tally
explored f [] A = by_verdict (f [] A) (record { rest = []; values = A }) (leaf false (record { rest = []; values = A }))
explored f (b ∷ P) A =
    by_verdict (f (b ∷ P) A) (record { rest = b ∷ P; values = A })
    (one_more (then_second b.quant
    (explored f P (with_value A b.var false))
    (explored f P (with_value A b.var true))))
