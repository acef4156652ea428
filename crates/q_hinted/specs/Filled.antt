-- What a builder of entries holds at each place.
use Rattle.std.specs.Prelude.{◌≡◌, ◌&&◌, ℕ, Bool, true, false, is_none, List, [], ◌∷◌, Option, Some, None, Result, Ok, Err}
use Rattle.q_logic.specs.declared.proof_part.ProofKind.{ProofKind}
use Rattle.q_logic.specs.declared.proof_part.ProofKind.TheVariants as kind
use Rattle.q_logic.specs.Prelude.{HintGroup, ProofPart, ProofStep}
use Rattle.q_log.specs.declared.error.LogError.{LogError}
use Rattle.q_log.specs.declared.error.LogError.TheVariants.{BadLine, Limit, NoMemory}
use Rattle.q_log.specs.Grammar.{OpenStep}
use Rattle.q_hinted.specs.declared.builder.Stage.{Stage}
use Rattle.q_hinted.specs.declared.builder.Stage.TheVariants.{Number, Kind, Hints, Targets, GroupHints, Zero}
use Rattle.q_hinted.specs.declared.builder.Phase.{Phase}
use Rattle.q_hinted.specs.declared.builder.Phase.TheVariants.{Front, Format, Version, Plain, Steps, Part}
use Rattle.q_hinted.specs.Grammar.{Place, nowhere, format, version, plain, steps, proving, EntryMove, hands, leads, misfit}
use Rattle.q_hinted.specs.Logs.{Entry}

abbrev pub is_pivot : ProofKind → Bool
is_pivot kind.Nothing = false
is_pivot kind.Implied = false
is_pivot kind.Pivot = true
is_pivot kind.Reach = false

abbrev pub has_group : List HintGroup → Bool
has_group [] = false
has_group (g ∷ gs) = true

-- the proof part takes what comes next
abbrev pub is_ready : Stage → ProofPart → Bool
is_ready Number t = true
is_ready Kind t = true
is_ready Hints t = has_group t.groups
is_ready Targets t = is_pivot t.kind
is_ready GroupHints t = is_pivot t.kind && has_group t.groups
is_ready Zero t = true

-- a step waits exactly for its proof part, and no other one has begun then
abbrev pub is_waiting : Stage → Option OpenStep → Option (ℕ × ProofStep) → ProofPart → Bool
is_waiting g o None t = false
is_waiting g o (Some w) t = is_none o && is_ready g t

abbrev pub is_filled : Phase → Option OpenStep → Option (ℕ × ProofStep) → ProofPart → Bool
is_filled Front o w t = is_none o
is_filled Format o w t = is_none o
is_filled Version o w t = is_none o
is_filled Plain o w t = true
is_filled Steps o w t = true
is_filled (Part g) o w t = is_waiting g o w t

abbrev pub waiting_place : Stage → Option (ℕ × ProofStep) → ProofPart → Place
waiting_place g None t = nowhere
waiting_place g (Some w) t = proving w.0 w.1 g t

abbrev pub place_in : Phase → Option OpenStep → Option (ℕ × ProofStep) → ProofPart → Place
place_in Front o w t = nowhere
place_in Format o w t = format
place_in Version o w t = version
place_in Plain o w t = plain o
place_in Steps o w t = steps o
place_in (Part g) o w t = waiting_place g w t

-- the answer to a token, and the place behind it, are those of a move
abbrev pub Gives : Result (Option Entry) LogError → EntryMove → Place → ℕ → Type 0
Gives (Ok (Some e)) m now line = m ≡ hands e.0 e.1 e.2 now
Gives (Ok None) m now line = m ≡ leads now
Gives (Err NoMemory) m now line = Unit {0}
Gives (Err (BadLine n)) m now line = (m ≡ misfit) × (n ≡ line)
Gives (Err (Limit n)) m now line = ⊥
