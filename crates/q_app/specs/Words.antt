-- The words of the command line.
use Rattle.std.specs.Prelude.{ℕ, Bool, true, false, ◌||◌, ◌==◌, ◌^◌, ◌-◌, min, nat_le, if◌then◌else◌, is_some, unwrap_or, List, [], ◌∷◌, Option, Some, None, codes}
use Rattle.std.proofs.Common.{arith}
use Rattle.std.specs.Str.{bytes_eq}
use Rattle.q_logic.specs.declared.rule_bounds.Bounds.{Bounds}
use Rattle.q_text.specs.Words.{digits}
use Rattle.q_simplify.specs.declared.options.Options.{Options}
use Rattle.q_command.specs.Names.{ThreeNames}
use Rattle.q_command.specs.declared.part.Part.{Part}
use Rattle.q_app.specs.Operands.{flag_in, just_three, three_names}
use Rattle.q_app.specs.Rebuilds.{FiveNames}
use Rattle.q_run_validate.specs.Validates.{ValidateFiles}
use Rattle.q_run_refute.specs.Refutes.{RefuteFiles}
use Rattle.q_run_annotate.specs.Annotates.{AnnotateFiles}
use Rattle.q_run_solve.specs.Solves.{SolveFiles}
use Rattle.q_encode.specs.declared.side.Side.{Side}
use Rattle.q_encode.specs.declared.side.Side.TheVariants as side
use Rattle.q_run_miter.specs.Mitering.{MiterFiles}
use Rattle.q_run_extract.specs.Extracts.{ExtractFiles}
use Rattle.q_run_disprove.specs.Disproofs.{DisproveFiles}
use Rattle.q_run_disprove.specs.Certifying.{CertifyFiles}
use Rattle.q_run_apply.specs.Applications.{ApplyFiles}
use Rattle.q_run_show.specs.Shows.{ShowFiles}
use Rattle.q_app.specs.declared.words.Scale.{Scale}
use Rattle.q_app.specs.declared.settings.Setting.{Setting}
use Rattle.q_app.specs.declared.settings.Setting.TheVariants as setting
use Rattle.q_app.specs.declared.settings.Settings.{Settings}

-- one thing to be done, with the names of the files
pub data Command : Type 0 where
  checking : ThreeNames → Command
  sharing : ThreeNames → Part → Command
  simplifying : ThreeNames → Options → Command
  rebuilding : FiveNames → Command
  generating : Scale → List ℕ → Command
  solving : SolveFiles → Option ℕ → Command
  annotating : AnnotateFiles → Command
  annotating_part : AnnotateFiles → Part → Command
  showing : ShowFiles → Bool → Part → Command
  refuting : RefuteFiles → Command
  validating : ValidateFiles → Option ℕ → Command
  mitering : MiterFiles → Side → Command
  extracting : ExtractFiles → Command
  disproving : DisproveFiles → Bool → Command
  disproving_part : DisproveFiles → Bool → Part → Command
  certifying : CertifyFiles → Bool → Command
  applying : ApplyFiles → Command

-- what the words ask for: commands that are done one after the other; none where they are not understood
abbrev pub Request : Type 0
Request = Option (List Command)

abbrev pub alone : Command → Request
alone c = Some (c ∷ [])

-- a number of one or more digits, which is at most so much
abbrev pub up_to : ℕ → Option ℕ → Option ℕ
up_to most None = None
up_to most (Some n) = if nat_le n most then Some n else None

abbrev pub number_of : ℕ → List ℕ → Option ℕ
number_of most text = up_to most (digits text)

-- what stands behind a front, where the word begins with it
abbrev pub behind : List ℕ → List ℕ → Option (List ℕ)
behind [] word = Some word
behind (a ∷ front) [] = None
behind (a ∷ front) (b ∷ word) = if a == b then behind front word else None

-- a number of seconds, which is at least 1
abbrev pub from_one : Option ℕ → Option ℕ
from_one None = None
from_one (Some n) = if n == 0 then None else Some n

abbrev pub seconds_in : List ℕ → Option ℕ
seconds_in text = from_one (number_of (2 ^ 32 - 1) text)

-- a setting with its number, if this is one
abbrev pub set : (ℕ → Setting) → Option ℕ → Option Setting
set name None = None
set name (Some n) = Some (name n)

-- the setting of a word, by what stands behind each name; or whether it is the flag
abbrev pub flag_by : Bool → Option Setting
flag_by true = Some setting.Plain
flag_by false = None

abbrev pub setting_by : Option (List ℕ) → Option (List ℕ) → Option (List ℕ) → Option (List ℕ) → Bool → Option Setting
setting_by (Some n) e b t p = set (λ k. setting.Grow k) (number_of 10000 n)
setting_by None (Some n) b t p = set (λ k. setting.Expand k) (number_of 10000 n)
setting_by None None (Some n) t p = set (λ k. setting.Budget k) (number_of (2 ^ 64 - 1) n)
setting_by None None None (Some n) p = set (λ k. setting.Seconds k) (seconds_in n)
setting_by None None None None p = flag_by p

abbrev pub setting_of : List ℕ → Option Setting
setting_of word =
    setting_by (behind (codes "--grow=") word) (behind (codes "--expand=") word) (behind (codes "--budget=") word) (behind (codes "--time=") word) (bytes_eq word (codes "--plain"))

-- one more setting, where it was not set before
abbrev pub with_setting : Settings → Option Setting → Option Settings
with_setting s None = None
with_setting s (Some (setting.Grow n)) = if is_some s.grow then None else Some (record s { grow = Some n })
with_setting s (Some (setting.Expand n)) = if is_some s.expand then None else Some (record s { expand = Some n })
with_setting s (Some (setting.Budget n)) = if is_some s.budget then None else Some (record s { budget = Some n })
with_setting s (Some (setting.Seconds n)) = if is_some s.seconds then None else Some (record s { seconds = Some n })
with_setting s (Some setting.Plain) = if s.plain then None else Some (record s { plain = true })

abbrev pub with_word : Option Settings → List ℕ → Option Settings
with_word None word = None
with_word (Some s) word = with_setting s (setting_of word)

-- the settings of all words, in any order, each at most once
abbrev pub with_words : Option Settings → List (List ℕ) → Option Settings
with_words s [] = s
with_words s (word ∷ words) = with_words (with_word s word) words

abbrev pub nothing_set : Settings
nothing_set = record { grow = None; expand = None; budget = None; seconds = None; plain = false }

-- what is not set has its default; a number above 10,000, which no word sets, counts as 10,000
abbrev pub bounds_of : Settings → Bounds
bounds_of s = record {
  grow = min (unwrap_or s.grow 0) 10000;
  expand = min (unwrap_or s.expand 16) 10000;
  small_grow = omega arith;
  small_expand = omega arith;
}

abbrev pub options_of : Settings → Options
options_of s = record { bounds = bounds_of s; budget = s.budget }

-- the budget, where nothing else is set
abbrev pub only_budget : Option Settings → Option (Option ℕ)
only_budget None = None
only_budget (Some s) = if (is_some s.grow || is_some s.expand) || is_some s.seconds || s.plain then None else Some s.budget

-- the budget that words set, which set nothing else
abbrev pub budget_in : List (List ℕ) → Option (Option ℕ)
budget_in words = only_budget (with_words (Some nothing_set) words)

-- `simplify IN OUT LOG` with options
abbrev pub with_settings : ThreeNames → Option Settings → Request
with_settings n None = None
with_settings n (Some s) = alone (simplifying n (options_of s))

abbrev pub simplify_of : Option (ThreeNames × List (List ℕ)) → Request
simplify_of None = None
simplify_of (Some (n, words)) = with_settings n (with_words (Some nothing_set) words)

-- `rebuild IN OUT LOG SKOLEM CERT`
abbrev pub rebuild_of : Option FiveNames → Request
rebuild_of None = None
rebuild_of (Some n) = alone (rebuilding n)

-- a seed of 64 bits, and a number of clauses from 1 to 100,000
abbrev pub scale_by : Option ℕ → Option ℕ → Option Scale
scale_by None size = None
scale_by (Some seed) None = None
scale_by (Some seed) (Some size) = if size == 0 then None else Some (record { seed = seed; size = size })

abbrev pub scale_of : List ℕ → List ℕ → Option Scale
scale_of seed size = scale_by (number_of (2 ^ 64 - 1) seed) (number_of 100000 size)

-- `gen SEED SIZE OUT`
abbrev pub generate_to : List ℕ → Option Scale → Request
generate_to o None = None
generate_to o (Some k) = alone (generating k o)

unfoldable pub generate_of : List (List ℕ) → Request
generate_of [] = None
generate_of (seed ∷ []) = None
generate_of (seed ∷ size ∷ []) = None
generate_of (seed ∷ size ∷ o ∷ []) = generate_to o (scale_of seed size)
generate_of (seed ∷ size ∷ o ∷ word ∷ words) = None

-- `demo SEED SIZE IN OUT LOG`: IN is generated, simplified without options, and the log is checked
abbrev pub demo : Scale → ThreeNames → List Command
demo k n = generating k n.input ∷ simplifying n (options_of nothing_set) ∷ checking n ∷ []

abbrev pub demo_by : Option Scale → Option ThreeNames → Request
demo_by None names = None
demo_by (Some k) None = None
demo_by (Some k) (Some n) = Some (demo k n)

unfoldable pub demo_of : List (List ℕ) → Request
demo_of [] = None
demo_of (seed ∷ []) = None
demo_of (seed ∷ size ∷ words) = demo_by (scale_of seed size) (just_three (three_names words))

-- `validate IN CERT` with a budget
abbrev pub validate_with : ValidateFiles → Option (Option ℕ) → Request
validate_with n None = None
validate_with n (Some b) = alone (validating n b)

abbrev pub validate_of : Option (List ℕ × List ℕ × List (List ℕ)) → Request
validate_of None = None
validate_of (Some (i, c, words)) = validate_with (record { input = i; cert = c }) (budget_in words)

-- `refute IN OUT LOG HERBRAND CERT`
abbrev pub refute_of : Option FiveNames → Request
refute_of None = None
refute_of (Some n) = alone (refuting (record { input = n.input; output = n.output; log = n.log; herbrand = n.skolem; cert = n.cert }))

-- `solve IN OUT LOG CERT` with a budget
abbrev pub solve_with : SolveFiles → Option (Option ℕ) → Request
solve_with n None = None
solve_with n (Some b) = alone (solving n b)

abbrev pub solve_of : Option (ThreeNames × List ℕ × List (List ℕ)) → Request
solve_of None = None
solve_of (Some (n, c, words)) = solve_with (record { input = n.input; output = n.output; log = n.log; cert = c }) (budget_in words)

-- `extract IN TRACE CERT`
abbrev pub extract_of : Option ThreeNames → Request
extract_of None = None
extract_of (Some n) = alone (extracting (record { input = n.input; trace = n.output; cert = n.log }))

-- `miter IN CERT OUT`, where `--herbrand` may follow
abbrev pub side_of : Bool → Side
side_of true = side.Herbrand
side_of false = side.Skolem

abbrev pub miter_with : MiterFiles → Option Bool → Request
miter_with n None = None
miter_with n (Some h) = alone (mitering n (side_of h))

abbrev pub miter_of : Option (ThreeNames × List (List ℕ)) → Request
miter_of None = None
miter_of (Some (n, words)) =
    miter_with (record { input = n.input; cert = n.output; output = n.log }) (flag_in (codes "--herbrand") words)

-- `apply IN LOG OUT`
abbrev pub apply_of : Option ThreeNames → Request
apply_of None = None
apply_of (Some n) = alone (applying (record { input = n.input; log = n.output; output = n.log }))
