-- The line of circuits that are none of a formula, by the reason.
use Rattle.std.specs.Prelude.{ℕ, List, ◌++◌, codes, decimal}
use Rattle.q_command.specs.declared.unfit.Unfit.{Unfit}
use Rattle.q_command.specs.declared.unfit.Unfit.TheVariants.{MissingOutput, StrangeOutput, StrangeInput, Reads}

abbrev pub line_of_unfit : Unfit → List ℕ
line_of_unfit (MissingOutput v) = codes "circuits missing " ++ decimal v ++ codes "\n"
line_of_unfit (StrangeOutput v) = codes "circuits strange output " ++ decimal v ++ codes "\n"
line_of_unfit (StrangeInput v) = codes "circuits strange input " ++ decimal v ++ codes "\n"
line_of_unfit (Reads v u) = codes "circuits " ++ decimal v ++ codes " reads " ++ decimal u ++ codes "\n"
