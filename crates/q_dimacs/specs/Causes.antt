-- The causes for which a text is refused, by number.
use Rattle.std.specs.Prelude.{ℕ, Option, Some, None}
use Rattle.q_dimacs.specs.declared.error.Cause.{Cause}
use Rattle.q_dimacs.specs.declared.error.Cause.TheVariants.{BadHeader, BadToken, AboveHeader, BoundTwice, LateQuantifier, ClauseCount, Unended, Limit}

abbrev pub cause_number : Cause → ℕ
cause_number BadHeader = 1
cause_number BadToken = 2
cause_number AboveHeader = 3
cause_number BoundTwice = 4
cause_number LateQuantifier = 5
cause_number ClauseCount = 6
cause_number Unended = 7
cause_number Limit = 8

abbrev pub cause_numbers : Option Cause → Option ℕ
cause_numbers None = None
cause_numbers (Some c) = Some (cause_number c)
