-- What a rule of simplification may be applied to, and the rule. A clause is named by its number.
use Rattle.std.specs.Prelude.{ℕ}
use Rattle.q_logic.specs.Literals.{Literal}
use Rattle.q_logic.specs.Rule.{Rule}
use Rattle.q_logic.specs.Rules.Tautology
use Rattle.q_logic.specs.Rules.Unit
use Rattle.q_logic.specs.Rules.Cut
use Rattle.q_logic.specs.Rules.Pure
use Rattle.q_logic.specs.Rules.Subsumed
use Rattle.q_logic.specs.Rules.Strengthen
use Rattle.q_logic.specs.Rules.Merge
use Rattle.q_logic.specs.Rules.Blocked
use Rattle.q_logic.specs.Rules.BlockedForall
use Rattle.q_logic.specs.Rules.Cover
use Rattle.q_logic.specs.Rules.Eliminate
use Rattle.q_logic.specs.Rules.ExpandUniversal

pub data Target : Type 0 where
  tautology : ℕ → Target
  unit : ℕ → Target
  cut : ℕ → Literal → Target
  pure : Literal → Target
  subsumed : ℕ → ℕ → Target
  strengthen : ℕ → ℕ → Literal → Target
  merge : Literal → Literal → Target
  blocked : ℕ → Literal → Target
  blocked_forall : ℕ → Literal → Target
  cover : ℕ → Target
  eliminate : ℕ → Target
  expand_universal : ℕ → Target

-- the rule at each target
abbrev pub rule : Target → Rule
rule (tautology c) = Tautology.rule c
rule (unit c) = Unit.rule c
rule (cut c l) = Cut.rule c l
rule (pure l) = Pure.rule l
rule (subsumed c d) = Subsumed.rule c d
rule (strengthen c d l) = Strengthen.rule c d l
rule (merge keep gone) = Merge.rule keep gone
rule (blocked c l) = Blocked.rule c l
rule (blocked_forall c l) = BlockedForall.rule c l
rule (cover c) = Cover.rule c
rule (eliminate x) = Eliminate.rule x
rule (expand_universal u) = ExpandUniversal.rule u

-- the place at which a search finds a target: the number of the clause that changes, or the variable
abbrev pub place : Target → ℕ
place t = (rule t).place
