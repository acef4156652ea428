-- What a builder shows of itself.
use Rattle.std.specs.Prelude.{ℕ, Bool, List, [], ◌∷◌, ◌++◌, length, nat_lt, if◌then◌else◌}
use Rattle.q_logic.specs.Prelude.{Literal}
use Rattle.q_binary.specs.BinaryProofs.{Place, Move, goes_on, unfit, within}
use Rattle.q_binary.specs.Reading.{place_of}
use Rattle.q_binary.specs.declared.builder.ByteBuilder.{ByteBuilder}

abbrev pub place_in : ByteBuilder → Place
place_in b = place_of b.deletes b.lits b.groups

-- a group that is not the last one
abbrev pub more_groups : Bool → List Literal → List ℕ → ℕ → Move
more_groups d ls ds g = if nat_lt (length ds) 4 then goes_on (within d ls (ds ++ g ∷ [])) else unfit
