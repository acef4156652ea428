-- How a look for growths ends.
use Rattle.std.specs.Prelude.{Bool, true, false}
use Rattle.q_blocked.specs.declared.progress.Progress.{Progress}
use Rattle.q_blocked.specs.declared.progress.Progress.TheVariants.{Ended, Grown, Unchanged}

abbrev pub is_ended : Progress → Bool
is_ended Ended = true
is_ended Grown = false
is_ended Unchanged = false

abbrev pub is_grown : Progress → Bool
is_grown Ended = false
is_grown Grown = true
is_grown Unchanged = false
