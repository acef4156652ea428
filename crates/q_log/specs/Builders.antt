-- The step that is being built: what a builder shows of itself, and what a token does to it.
use Rattle.std.specs.Prelude.{ℕ, Option, Result}
use Rattle.q_logic.specs.Prelude.{ProofStep}
use Rattle.q_text.specs.declared.tokens.Token.{Token}
use Rattle.q_log.specs.declared.builder.StepBuilder.{StepBuilder}
use Rattle.q_log.specs.declared.error.LogError.{LogError}
use Rattle.q_log.specs.Grammar.{OpenStep, move}
use Rattle.q_log.specs.Reading.{Builds, open_of}

-- the step that has begun and is not whole
abbrev pub open_in : StepBuilder → Option OpenStep
open_in b = open_of b.begun b.lits

-- the answer to a token, and the builder behind it, are what the grammar says
abbrev pub Takes : Result (Option (ℕ × ProofStep)) LogError → StepBuilder → Token → StepBuilder → Type 0
Takes result old t new = Builds result (move (open_in old) t) new.begun new.lits t.line
