-- What the words ask for.
use Rattle.std.specs.Prelude.{◌≤◌, ℕ, Bool, false, cond, Option, List, [], ◌∷◌, Some, None, codes}
use Rattle.std.specs.Str.{bytes_eq}
use Rattle.q_logic.specs.declared.rule_bounds.Bounds.{Bounds}
use Rattle.q_command.specs.Names.{ThreeNames, three, three_of}
use Rattle.q_app.specs.Rebuilds.{FiveNames, five}
use Rattle.q_app.specs.Words.{Command, checking, sharing, simplifying, rebuilding, generating, solving, annotating, annotating_part, refuting, validating, mitering, extracting, Request, simplify_of, rebuild_of, generate_of, validate_of, refute_of, solve_of, miter_of, extract_of, demo, demo_of, nothing_set, options_of, with_words, disproving, disproving_part}
use Rattle.q_app.specs.Words.{applying, apply_of, certifying, showing}
use Rattle.q_app.specs.Operands.{Differ, DifferFour, fourth, just_three, three_names, two_names}
use Rattle.q_app.specs.RebuildWords.{rebuild_names}
use Rattle.q_app.specs.PartWords.{check_of}
use Rattle.q_app.specs.AnnotateWords.{annotation_of}
use Rattle.q_app.specs.DisproveWords.{disproof_of}
use Rattle.q_run_validate.specs.Validates.{files_of as validate_files_of}
use Rattle.q_run_refute.specs.Refutes.{files_of as refute_files_of}
use Rattle.q_run_annotate.specs.Annotates.{files_of as annotate_files_of}
use Rattle.q_run_solve.specs.Solves.{files_of as solve_files_of}
use Rattle.q_run_miter.specs.Mitering.{files_of as miter_files_of}
use Rattle.q_run_extract.specs.Extracts.{files_of as extract_files_of}
use Rattle.q_run_disprove.specs.Disproofs.{files_of as disprove_files_of}
use Rattle.q_run_disprove.specs.Certifying.{files_of as certify_files_of}
use Rattle.q_run_apply.specs.Applications.{files_of as apply_files_of}
use Rattle.q_run_show.specs.Shows.{files_of as show_files_of}
use Rattle.q_app.specs.declared.settings.Settings.{Settings}
use Rattle.q_app.specs.declared.rebuild_words.RebuildNames.{RebuildNames}
use Rattle.q_app.specs.declared.words.Command.{Command as Parsed}
use Rattle.q_app.specs.declared.words.Command.TheVariants.{Apply, Certify, Show}
use Rattle.q_app.specs.declared.words.Command.TheVariants.{Check, Share, Simplify, Rebuild, Generate, Solve, Annotate, AnnotateShare, Refute, Validate, Miter, Extract, Demo, Disprove, DisproveShare}

-- by the verb and its operands; all else is no command
abbrev pub by_verb : List ℕ → List (List ℕ) → Request
by_verb verb operands =
    cond (bytes_eq verb (codes "check")) (check_of (three_names operands))
    (cond (bytes_eq verb (codes "simplify")) (simplify_of (three_names operands))
    (cond (bytes_eq verb (codes "rebuild")) (rebuild_of (rebuild_names operands))
    (cond (bytes_eq verb (codes "gen")) (generate_of operands)
    (cond (bytes_eq verb (codes "validate")) (validate_of (two_names operands))
    (cond (bytes_eq verb (codes "refute")) (refute_of (rebuild_names operands))
    (cond (bytes_eq verb (codes "annotate")) (annotation_of operands)
    (cond (bytes_eq verb (codes "solve")) (solve_of (fourth (three_names operands)))
    (cond (bytes_eq verb (codes "extract")) (extract_of (just_three (three_names operands)))
    (cond (bytes_eq verb (codes "miter")) (miter_of (three_names operands))
    (cond (bytes_eq verb (codes "disprove")) (disproof_of operands)
    (cond (bytes_eq verb (codes "apply")) (apply_of (just_three (three_names operands)))
    (cond (bytes_eq verb (codes "demo")) (demo_of operands) None))))))))))))

unfoldable pub request : List (List ℕ) → Request
request [] = None
request (verb ∷ operands) = by_verb verb operands

abbrev pub five_of : RebuildNames → FiveNames
five_of n = five n.input.now n.output.now n.log.now n.skolem.now n.cert.now

-- the commands by the names that were read
abbrev pub commands_of : Parsed → List Command
commands_of (Check n) = checking (three_of n) ∷ []
commands_of (Share n p) = sharing (three_of n) p ∷ []
commands_of (Simplify n p) = simplifying (three_of n) p ∷ []
commands_of (Rebuild n) = rebuilding (five_of n) ∷ []
commands_of (Generate k o) = generating k o.now ∷ []
commands_of (Validate n b) = validating (validate_files_of n) b ∷ []
commands_of (Refute n) = refuting (refute_files_of n) ∷ []
commands_of (Annotate n) = annotating (annotate_files_of n) ∷ []
commands_of (AnnotateShare n p) = annotating_part (annotate_files_of n) p ∷ []
commands_of (Show n b p) = showing (show_files_of n) b p ∷ []
commands_of (Solve n b) = solving (solve_files_of n) b ∷ []
commands_of (Extract n) = extracting (extract_files_of n) ∷ []
commands_of (Miter n s) = mitering (miter_files_of n) s ∷ []
commands_of (Disprove n b) = disproving (disprove_files_of n) b ∷ []
commands_of (DisproveShare n b p) = disproving_part (disprove_files_of n) b p ∷ []
commands_of (Certify n b) = certifying (certify_files_of n) b ∷ []
commands_of (Apply n) = applying (apply_files_of n) ∷ []
commands_of (Demo k n) = demo k (three_of n)

-- such a command can be done: its numbers are within their limits, and its names differ
abbrev pub IsFit : Parsed → Type 0
IsFit (Simplify n p) = Differ (three_of n)
IsFit (Generate k o) = k.size ≤ 100000
IsFit (Solve n b) = DifferFour (three n.input.now n.output.now n.log.now) n.cert.now
IsFit (Demo k n) = (k.size ≤ 100000) × Differ (three_of n)
IsFit other = Unit {0}

-- the bounds of the first simplification, and without one the defaults
abbrev pub first_bounds : List Command → Bounds
first_bounds [] = (options_of nothing_set).bounds
first_bounds (simplifying n p ∷ cs) = p.bounds
first_bounds (c ∷ cs) = first_bounds cs

abbrev pub bounds_in : Request → Bounds
bounds_in None = (options_of nothing_set).bounds
bounds_in (Some cs) = first_bounds cs

-- the settings of words that ask for `simplify`
abbrev pub settings_behind : Option (ThreeNames × List (List ℕ)) → Option Settings
settings_behind None = None
settings_behind (Some (n, words)) = with_words (Some nothing_set) words

unfoldable pub settings_in : List (List ℕ) → Option Settings
settings_in [] = None
settings_in (verb ∷ operands) = cond (bytes_eq verb (codes "simplify")) (settings_behind (three_names operands)) None

-- behind how many seconds `simplify` is to stop, where words say so
abbrev pub seconds_set : Option Settings → Option ℕ
seconds_set None = None
seconds_set (Some s) = s.seconds

abbrev pub seconds_of : List (List ℕ) → Option ℕ
seconds_of words = seconds_set (settings_in words)

-- whether words ask `simplify` to leave extended universal reduction out
abbrev pub plain_set : Option Settings → Bool
plain_set None = false
plain_set (Some s) = s.plain

abbrev pub is_plain : List (List ℕ) → Bool
is_plain words = plain_set (settings_in words)
