-- What the reader answers to one line.
use Rattle.std.specs.Prelude.{◌≡◌, ℕ, List, Result, Ok, Err, nat_eq}
use Rattle.std.specs.HashMap.{HashMap, get}
use Rattle.q_aiger.specs.declared.error.AigerError.{AigerError}
use Rattle.q_aiger.specs.declared.error.AigerError.TheVariants.{Refused, NoMemory}
use Rattle.q_aiger.specs.Items.{place_of}

-- the map has of each variable its place in the list
abbrev pub IsIndexOf : {S : Type 0} → HashMap ℕ ℕ S → List ℕ → Type 0
IsIndexOf m vars = (v : ℕ) → get nat_eq m v ≡ place_of vars v

abbrev pub FailsAt : AigerError → ℕ → {Y : Type 0} → Result Y ℕ → Type 0
FailsAt (Refused k c) n r = (r ≡ Err c) × (k ≡ n)
FailsAt NoMemory n r = Unit {0}

-- the answer on line n is this one, but that memory may be wanting
abbrev pub Takes : {X Y : Type 0} → Result X AigerError → ℕ → Result Y ℕ → Y → Type 0
Takes (Ok x) n r new = r ≡ Ok new
Takes (Err e) n r new = FailsAt e n r
