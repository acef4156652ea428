-- The three commands are right together, by what is said of each: memory and device faults aside, `simplify` ends, for every
-- formula and budget, with a formula that is true exactly where the input is, and with a log that `check` accepts; whatever files
-- `check` accepts, their formulas have one truth value; and `rebuild`, given an accepted log and Skolem functions of the
-- output, writes Skolem functions of the input.
use Rattle.std.specs.Prelude.{◌≡◌, ◌≢◌, ◌⊎◌, ◌↔◌, ◌≤◌, ℕ, List, length, Option, Some}
use Rattle.q_logic.specs.Prelude.{PrenexFormula, Holds, measure_of, CertificateView, trees_of, SkolemOf}
use Rattle.q_io.specs.Files.{Disk, bytes_at}
use Rattle.q_aiger.specs.Writing.{IsCanonical}
use Rattle.q_sched.specs.Settled.{IsSettled}
use Rattle.q_sched.specs.Drives.{IsSpentAt}
use Rattle.q_simplify.specs.declared.options.Options.{Options}
use Rattle.q_command.specs.Checks.{IsFileOf, HaveOneTruth, MayCome, AnswersExactly}
use Rattle.q_app.specs.Simplifying.{IsEnded, SimplifiesExactly}
use Rattle.q_app.specs.Rebuilds.{FiveNames, AreSkolem, RebuildsExactly}
use Rattle.q_command.specs.declared.status.Status.{Status}
use Rattle.q_command.specs.declared.status.Status.TheVariants as status

-- `check` says of these bytes that the log is verified, if no fault and no want of memory comes
abbrev pub IsAcceptedByCheck : List ℕ → List ℕ → List ℕ → Type 0
IsAcceptedByCheck input output log =
    (answer : Status) → AnswersExactly answer input output log → (answer ≡ status.Done) ⊎ MayCome answer

-- what `simplify` leaves of the formula F of IN: the formula of OUT is true exactly where F is; with `Spent` the measure fell by
-- at least the budget, and otherwise the formula is settled; `check` accepts the log if it is no longer than a file may be
pub record IsSimplified (answer : Status) (o : Options) (F : PrenexFormula) (input output log : List ℕ) (after : Disk) : Type 0 where
  pub to : PrenexFormula
  pub is_output : IsFileOf (bytes_at after output) to
  pub truth : Holds F ↔ Holds to
  pub fell : answer ≡ status.Spent → IsSpentAt o.budget (measure_of o.bounds F) (measure_of o.bounds to)
  pub settled : answer ≢ status.Spent → IsSettled o.bounds to
  pub accepted : length (bytes_at after log) ≤ 1099511627776 →
      IsAcceptedByCheck (bytes_at after input) (bytes_at after output) (bytes_at after log)

-- what a simplification that an alarm stopped leaves of the formula F of IN, whatever the line says: the same but for its ending
pub record IsCarried (F : PrenexFormula) (input output log : List ℕ) (after : Disk) : Type 0 where
  pub to : PrenexFormula
  pub is_output : IsFileOf (bytes_at after output) to
  pub truth : Holds F ↔ Holds to
  pub accepted : length (bytes_at after log) ≤ 1099511627776 →
      IsAcceptedByCheck (bytes_at after input) (bytes_at after output) (bytes_at after log)

-- `simplify` of the formula F of IN ends, faults and want of memory aside, and leaves this
pub record EndsRight (answer : Status) (o : Options) (F : PrenexFormula) (input output log : List ℕ) (after : Option Disk) : Type 0 where
  pub ends : IsEnded answer ⊎ MayCome answer
  pub leaves : IsEnded answer → (disk : Disk) × (after ≡ Some disk) × IsSimplified answer o F input output log disk

-- the file holds the canonical text of circuits whose trees are Skolem functions of the formula
pub record HoldsSkolem (text : List ℕ) (F : PrenexFormula) : Type 0 where
  pub made : CertificateView
  pub gates : ℕ
  pub canonical : IsCanonical made gates text
  pub skolem : SkolemOf F (trees_of made)

-- `rebuild` ends well, if no fault and no want of memory comes, and then CERT holds Skolem functions of the formula of IN
pub record IsCarriedBack (answer : Status) (n : FiveNames) (before after : Disk) : Type 0 where
  pub ends : (answer ≡ status.Done) ⊎ MayCome answer
  pub skolem : answer ≡ status.Done →
      (F : PrenexFormula) → IsFileOf (bytes_at before n.input) F → HoldsSkolem (bytes_at after n.cert) F

pub record Headline : Type 0 where
  pub simplify : (answer : Status) → (o : Options) → (input output log : List ℕ) → (before : Disk) → (after : Option Disk) →
      input ≢ output → input ≢ log → SimplifiesExactly answer o input output log before after →
      (F : PrenexFormula) → IsFileOf (bytes_at before input) F → EndsRight answer o F input output log after
  pub check : (answer : Status) → (input output log : List ℕ) → AnswersExactly answer input output log →
      answer ≡ status.Done → HaveOneTruth input output
  pub rebuild : (answer : Status) → (n : FiveNames) → (before after : Disk) →
      RebuildsExactly answer n before (Some after) → AreSkolem n before → IsCarriedBack answer n before after
