-- The words of `disprove`, behind its names: `--binary` and `--part=I/N`, each at most once, in any order. Where CERT is among the names
-- `--binary` alone may follow, and no name begins as an option does.
use Rattle.std.specs.Prelude.{ℕ, Bool, true, false, not, ◌&&◌, cond, is_some, List, [], ◌∷◌, Option, Some, None, codes, option_map}
use Rattle.std.specs.Str.{bytes_eq}
use Rattle.q_command.specs.Names.{ThreeNames}
use Rattle.q_command.specs.declared.part.Part.{Part}
use Rattle.q_run_disprove.specs.Certifying.{CertifyFiles}
use Rattle.q_run_disprove.specs.Disproofs.{DisproveFiles}
use Rattle.q_app.specs.Operands.{flag_in, three_names, two_names}
use Rattle.q_app.specs.PartWords.{part_of}
use Rattle.q_app.specs.Words.{Request, alone, behind, certifying, disproving, disproving_part}
use Rattle.q_app.specs.declared.disprove_words.DisproveOptions.{DisproveOptions}

-- with the part that the other words ask for
abbrev pub read_as : Bool → Option (Option Part) → Option DisproveOptions
read_as b words = option_map (λ p. let o : DisproveOptions = record { binary = b; part = p } in o) words

abbrev pub is_binary_word : List ℕ → Bool
is_binary_word word = bytes_eq word (codes "--binary")

-- what the words ask for, if `--binary` is not the first
abbrev pub options_behind : List ℕ → List (List ℕ) → Option DisproveOptions
options_behind word [] = read_as false (part_of (word ∷ []))
options_behind word (other ∷ []) = cond (is_binary_word other) (read_as true (part_of (word ∷ []))) None
options_behind word (other ∷ third ∷ words) = None

-- none where they ask for something else
unfoldable pub options_of : List (List ℕ) → Option DisproveOptions
options_of [] = read_as false (part_of [])
options_of (word ∷ words) = cond (is_binary_word word) (read_as true (part_of words)) (options_behind word words)

-- `disprove IN PROOF`, as a whole or a part
abbrev pub disprove_shared : DisproveFiles → Bool → Option Part → Request
disprove_shared n b None = alone (disproving n b)
disprove_shared n b (Some p) = alone (disproving_part n b p)

abbrev pub disprove_with : DisproveFiles → Option DisproveOptions → Request
disprove_with n None = None
disprove_with n (Some o) = disprove_shared n o.binary o.part

abbrev pub disprove_of : Option (List ℕ × List ℕ × List (List ℕ)) → Request
disprove_of None = None
disprove_of (Some (i, p, words)) = disprove_with (record { input = i; proof = p }) (options_of words)

-- a word that does not begin as an option does
abbrev pub is_name : List ℕ → Bool
is_name word = not (is_some (behind (codes "--") word))

abbrev pub are_names : ThreeNames → Bool
are_names n = is_name n.input && is_name n.output && is_name n.log

-- `disprove IN PROOF CERT`, where `--binary` may follow
abbrev pub certify_with : CertifyFiles → Option Bool → Request
certify_with n None = None
certify_with n (Some b) = alone (certifying n b)

abbrev pub certify_of : Option (ThreeNames × List (List ℕ)) → Request
certify_of None = None
certify_of (Some (n, words)) =
    cond (are_names n)
    (certify_with (record { read = record { input = n.input; proof = n.output }; cert = n.log }) (flag_in (codes "--binary") words)) None

-- the first of two that is understood
abbrev pub first_of : Request → Request → Request
first_of None r = r
first_of (Some cs) r = Some cs

-- `disprove` with two names or with three
abbrev pub disproof_of : List (List ℕ) → Request
disproof_of operands = first_of (disprove_of (two_names operands)) (certify_of (three_names operands))
