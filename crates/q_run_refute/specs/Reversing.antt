-- Why the steps of a log have no reversals.
use Rattle.std.specs.Prelude.{ℕ, List}
use Rattle.q_logic.specs.Prelude.{PrenexFormula}
use Rattle.q_herbrand.specs.declared.error.TrailError.{TrailError}
use Rattle.q_herbrand.specs.declared.error.TrailError.TheVariants as noting
use Rattle.q_command.specs.Logs.{Entry}
use Rattle.q_run_refute.specs.Extended.{FirstExtended}
use Rattle.q_run_refute.specs.declared.reversing.Unreversed.{Unreversed}
use Rattle.q_run_refute.specs.declared.reversing.Unreversed.TheVariants.{Extended, NoMemory}

-- memory may be missing at any time; else a step is an extended drop
abbrev pub IsUnreversed : PrenexFormula → List Entry → Unreversed → Type 0
IsUnreversed F es (Extended line) = FirstExtended F es line
IsUnreversed F es NoMemory = Unit {0}

abbrev pub reason_of : TrailError → ℕ → Unreversed
reason_of noting.Extended line = Extended line
reason_of noting.NoMemory line = NoMemory
