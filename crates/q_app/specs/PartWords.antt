-- The words of `check` and `annotate`, behind their names one that asks for a part of the log.
use Rattle.std.specs.Prelude.{ℕ, ◌-◌, ◌==◌, ◌&&◌, suc, nat_le, if◌then◌else◌, List, [], ◌∷◌, Option, Some, None, option_map, position, take, drop, codes}
use Rattle.q_command.specs.declared.part.Part.{Part}
use Rattle.q_command.specs.Names.{ThreeNames}
use Rattle.q_run_annotate.specs.Annotates.{AnnotateFiles}
use Rattle.q_app.specs.Words.{Request, alone, annotating, annotating_part, behind, checking, number_of, sharing}

-- the part of this place among so many, counted from 1
abbrev pub part_by : Option ℕ → Option ℕ → Option Part
part_by None n = None
part_by (Some i) None = None
part_by (Some i) (Some n) = if nat_le 1 i && nat_le i n then Some (record { index = i - 1; others = n - 1 }) else None

-- two numbers of at most 32 bits, and a slash between them
abbrev pub part_at : List ℕ → Option ℕ → Option Part
part_at text None = None
part_at text (Some k) = part_by (number_of 4294967295 (take k text)) (number_of 4294967295 (drop (suc k) text))

abbrev pub part_in : List ℕ → Option Part
part_in text = part_at text (position (λ b. b == 47) text)

-- `--part=I/N`
abbrev pub part_behind : Option (List ℕ) → Option Part
part_behind None = None
part_behind (Some text) = part_in text

abbrev pub part_of_option : List ℕ → Option Part
part_of_option word = part_behind (behind (codes "--part=") word)

-- the part that the words behind the names ask for, if there are any; none where they ask for something else
unfoldable pub part_of : List (List ℕ) → Option (Option Part)
part_of [] = Some None
part_of (word ∷ []) = option_map Some (part_of_option word)
part_of (word ∷ other ∷ words) = None

-- `check IN OUT LOG`, and with a part
abbrev pub check_with : ThreeNames → Option (Option Part) → Request
check_with n None = None
check_with n (Some None) = alone (checking n)
check_with n (Some (Some p)) = alone (sharing n p)

abbrev pub check_of : Option (ThreeNames × List (List ℕ)) → Request
check_of None = None
check_of (Some (n, words)) = check_with n (part_of words)

-- `annotate IN OUT LOG HINTED`, and with a part
abbrev pub annotate_with : AnnotateFiles → Option (Option Part) → Request
annotate_with n None = None
annotate_with n (Some None) = alone (annotating n)
annotate_with n (Some (Some p)) = alone (annotating_part n p)

abbrev pub annotate_of : Option (ThreeNames × List ℕ × List (List ℕ)) → Request
annotate_of None = None
annotate_of (Some (n, h, words)) = annotate_with (record { input = n.input; output = n.output; log = n.log; hinted = h }) (part_of words)
