-- The line of `simplify`, by its outcome.
use Rattle.std.specs.Prelude.{ℕ, List, ◌++◌, codes, decimal}
use Rattle.q_simplify.specs.declared.report.Report.{Report}
use Rattle.q_simplify.specs.declared.report.Ending.{Ending}
use Rattle.q_simplify.specs.declared.report.Ending.TheVariants as ending
use Rattle.q_app.specs.declared.simplified.Simplified.{Simplified}
use Rattle.q_app.specs.declared.simplified.Simplified.TheVariants as simplified

abbrev pub word_of : Ending → List ℕ
word_of ending.Settled = codes "settled "
word_of ending.True = codes "true "
word_of ending.False = codes "false "
word_of ending.Spent = codes "spent "
word_of ending.Stopped = codes "stopped "

-- the measures of the input and of the result
abbrev pub line_of_report : Report → List ℕ
line_of_report r = word_of r.ending ++ decimal r.before ++ codes " " ++ decimal r.after ++ codes "\n"

abbrev pub line_of_simplified : Simplified → List ℕ
line_of_simplified (simplified.Written r) = line_of_report r
line_of_simplified (simplified.RefusedInput n c) = codes "input IN line " ++ decimal n ++ codes " cause " ++ decimal c ++ codes "\n"
line_of_simplified simplified.ReadFault = codes "read fault\n"
line_of_simplified simplified.WriteFault = codes "write fault\n"
line_of_simplified simplified.NoMemory = codes "no memory\n"
