-- The commands over circuits are right together, by what is said of each: a formula whose circuits `validate` calls valid is
-- true; `refute`, given an accepted log without extended drops and Herbrand functions of the output, writes Herbrand functions of
-- the input, which is false then; `solve` says of a formula that it is true, with Skolem functions, or false, where it is so.
use Rattle.std.specs.Prelude.{◌≡◌, ◌⊎◌, ℕ, List, Option, Some}
use Rattle.q_logic.specs.Prelude.{PrenexFormula, Holds, CertificateView, trees_of}
use Rattle.q_logic.specs.Herbrands.{HerbrandOf}
use Rattle.q_io.specs.Files.{Disk, bytes_at}
use Rattle.q_aiger.specs.Writing.{IsCanonical}
use Rattle.q_command.specs.Checks.{IsFileOf, MayCome}
use Rattle.q_command.specs.declared.status.Status.{Status}
use Rattle.q_command.specs.declared.status.Status.TheVariants as status
use Rattle.q_run_validate.specs.Validates.{ValidateFiles, ValidatesExactly}
use Rattle.q_run_refute.specs.Refutes.{RefuteFiles, AreHerbrand, RefutesExactly}
use Rattle.q_run_solve.specs.Solves.{SolveFiles, SolvesExactly}
use Rattle.q_app.specs.Headline.{HoldsSkolem}

-- the file holds the canonical text of circuits whose trees are Herbrand functions of the formula
pub record HoldsHerbrand (text : List ℕ) (F : PrenexFormula) : Type 0 where
  pub made : CertificateView
  pub gates : ℕ
  pub canonical : IsCanonical made gates text
  pub herbrand : HerbrandOf F (trees_of made)

-- `refute` ends well, if no fault and no want of memory comes, the formula of IN is false, and then CERT holds Herbrand functions
-- of it
pub record IsRefutation (answer : Status) (n : RefuteFiles) (before after : Disk) : Type 0 where
  pub ends : (answer ≡ status.Done) ⊎ MayCome answer
  pub fails : (F : PrenexFormula) → IsFileOf (bytes_at before n.input) F → ¬ Holds F
  pub herbrand : answer ≡ status.Done →
      (F : PrenexFormula) → IsFileOf (bytes_at before n.input) F → HoldsHerbrand (bytes_at after n.cert) F

-- what `solve` says of the formula of IN is so, and with `true` CERT holds Skolem functions of it
pub record SaysTruth (answer : Status) (n : SolveFiles) (before after : Disk) : Type 0 where
  pub holds : answer ≡ status.True → (F : PrenexFormula) → IsFileOf (bytes_at before n.input) F →
      Holds F × HoldsSkolem (bytes_at after n.cert) F
  pub fails : answer ≡ status.False → (F : PrenexFormula) → IsFileOf (bytes_at before n.input) F → ¬ Holds F

pub record Further : Type 0 where
  pub validate : (answer : Status) → (n : ValidateFiles) → (budget : Option ℕ) → (before : Disk) → (after : Option Disk) →
      ValidatesExactly answer n budget before after → answer ≡ status.Done →
      (F : PrenexFormula) → IsFileOf (bytes_at before n.input) F → Holds F
  pub refute : (answer : Status) → (n : RefuteFiles) → (before after : Disk) →
      RefutesExactly answer n before (Some after) → AreHerbrand n before → IsRefutation answer n before after
  pub solve : (answer : Status) → (n : SolveFiles) → (budget : Option ℕ) → (before after : Disk) →
      SolvesExactly answer n budget before (Some after) → SaysTruth answer n before after
