-- Places of a prefix by variable.
use Rattle.std.specs.Prelude.{◌≡◌, ℕ, cond, List, Option, Some, None}
use Rattle.q_logic.specs.Prelude.{Prefix, is_bound}
use Rattle.q_logic.specs.Prefixes.{place}
use Rattle.q_certificate.specs.Prelude.{look_at}

-- the row has the place of each variable of the prefix, and of no others
abbrev pub AreSeats : Prefix → List (Option ℕ) → Type 0
AreSeats P seats = (x : ℕ) → look_at seats x ≡ cond (is_bound P x) (Some (place P x)) None
