-- A command over files is one over some files of which so much is known.
use Rattle.std.proofs.Common.{◌≡◌, ℕ, List, subst}
use Rattle.q_io.specs.Files.{Disk}
use Rattle.q_io.specs.Memory.{SteadyText}
use Rattle.q_command.specs.declared.status.Status.{Status}
use Rattle.q_c_library.specs.Calls.{Ran, RanOver}

pub over : (words asked : List (List ℕ)) (Given : Disk → Type 0) (before : Disk) (given : Status) (after : Disk) (line : SteadyText) → words ≡ asked → Given before → Ran words before given after line → RanOver asked Given given after line
over words asked Given before given after line e h r =
    record { before = before; holds = h; ran = subst (λ (ws : List (List ℕ)). Ran ws before given after line) e r }
