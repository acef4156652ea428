-- The words of `annotate`. Behind three names, of which none begins as an option does, stand no words, or the options of `disprove`; behind
-- four none, or a part.
use Rattle.std.specs.Prelude.{Bool, cond, List, ◌∷◌, Option, Some, None, ℕ}
use Rattle.q_command.specs.Names.{ThreeNames}
use Rattle.q_command.specs.declared.part.Part.{Part}
use Rattle.q_run_show.specs.Shows.{ShowFiles}
use Rattle.q_app.specs.Operands.{fourth, three_names}
use Rattle.q_app.specs.DisproveWords.{are_names, first_of, options_of}
use Rattle.q_app.specs.PartWords.{annotate_of}
use Rattle.q_app.specs.Words.{Request, alone, showing}
use Rattle.q_app.specs.declared.disprove_words.DisproveOptions.{DisproveOptions}

-- without the option it is all, as with `--part=1/1`
abbrev pub part_or_all : Option Part → Part
part_or_all None = record { index = 0; others = 0 }
part_or_all (Some p) = p

-- `annotate IN PROOF HINTED`
abbrev pub show_with : ShowFiles → Option DisproveOptions → Request
show_with n None = None
show_with n (Some o) = alone (showing n o.binary (part_or_all o.part))

abbrev pub show_of : Option (ThreeNames × List (List ℕ)) → Request
show_of None = None
show_of (Some (n, words)) =
    cond (are_names n) (show_with (record { input = n.input; proof = n.output; hinted = n.log }) (options_of words)) None

-- `annotate` with three names or with four
abbrev pub annotation_of : List (List ℕ) → Request
annotation_of operands = first_of (show_of (three_names operands)) (annotate_of (fourth (three_names operands)))
