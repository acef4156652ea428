-- The parts of a log, as `check` sees them, over the bytes of the files.
use Rattle.std.specs.Prelude.{◌≡◌, ℕ, ◌+◌, List, [], ◌∷◌, ◌++◌}
use Rattle.q_logic.specs.Prelude.{standard}
use Rattle.q_hinted.specs.Logs.{Profile}
use Rattle.q_command.specs.Checks.{Checks}
use Rattle.q_command.specs.declared.outcome.Outcome.TheVariants.{Verified}
use Rattle.q_parts.specs.LogParts.{EndsLine}

-- a part: its log, the file of the formula behind it, and the number in the line `verified ..`
pub record PartFile : Type 0 where
  pub log : List ℕ
  pub behind : List ℕ
  pub steps : ℕ

-- all logs, one behind the other
abbrev pub all_logs : PartFile → List PartFile → List ℕ
all_logs p [] = p.log
all_logs p (q ∷ ps) = p.log ++ all_logs q ps

abbrev pub all_steps : PartFile → List PartFile → ℕ
all_steps p [] = p.steps
all_steps p (q ∷ ps) = p.steps + all_steps q ps

abbrev pub last_file : PartFile → List PartFile → List ℕ
last_file p [] = p.behind
last_file p (q ∷ ps) = last_file q ps

-- a log without hints
abbrev pub IsPlain : List ℕ → Type 0
IsPlain log = Profile standard.bytes log ≡ 1

-- `check` says `verified` of each part, from the file before it to the one behind it; the logs have no hints, and all but the last end a line
abbrev pub AllChecked : List ℕ → PartFile → List PartFile → Type 0
AllChecked input p [] = IsPlain p.log × Checks (Verified p.steps) input p.behind p.log
AllChecked input p (q ∷ ps) =
    EndsLine p.log × IsPlain p.log × Checks (Verified p.steps) input p.behind p.log × AllChecked p.behind q ps
