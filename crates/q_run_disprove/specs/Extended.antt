-- The first extended drop of a proof, up to the empty clause.
use Rattle.std.specs.Prelude.{◌≡◌, ◌⊎◌, ℕ, List, [], ◌∷◌}
use Rattle.q_logic.specs.Prelude.{PrenexFormula, after}
use Rattle.q_logic.specs.Reversals.{IsExtended}
use Rattle.q_refutation.specs.Refutations.{IsLost}
use Rattle.q_command.specs.Logs.{Entry}

-- while the empty clause is not there, the first step that is an extended drop stands on this line
abbrev pub FirstExtended : PrenexFormula → List Entry → ℕ → Type 0
FirstExtended F [] line = ⊥
FirstExtended F (e ∷ es) line =
    ¬ IsLost F × ((IsExtended F e.1 × (line ≡ e.0)) ⊎ (¬ IsExtended F e.1 × FirstExtended (after F e.1) es line))
