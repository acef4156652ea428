-- Watches that follow a set that grows.
use Rattle.std.specs.Prelude.{◌≡◌, ◌≤◌, ℕ, Bool, true, false, ◌∷◌, length, take}
use Rattle.q_logic.specs.Prelude.{Literal}
use Rattle.q_kernel.specs.Prelude.{Seen}
use Rattle.q_watch.specs.declared.watches.Watches.{Watches}
use Rattle.q_watch.specs.Watches.{IsQuietUpTo}
use Rattle.q_blocked.specs.declared.growth.Growth.{Growth}
use Rattle.q_blocked.specs.declared.progress.Progress.{Progress}
use Rattle.q_blocked.specs.declared.progress.Progress.TheVariants.{Ended, Grown, Unchanged}
use Rattle.q_blocked.specs.Growths.{Covered, Growing, IsPushed, HasTurned}

-- where they were made, each clause but that of c is opposed to the set, or watches none of the literals before the place up to which it
-- was worked off
abbrev pub IsFollowed : Seen → Watches → ℕ → Growth → Type 0
IsFollowed k w c g = w.ready ≡ true → IsQuietUpTo k w c g.set (take g.worked g.set)

-- hidden literals have come, and no clause but opposed ones watches the literal l or one before it; or the growth has ended
abbrev pub HasVisited : Seen → ℕ → Literal → Growth → Watches → Growth → Bool → Type 0
HasVisited k c l old w new true = Covered k c new
HasVisited k c l old w new false = Growing k c new × IsPushed old new × IsQuietUpTo k w c new.set (l ∷ take old.worked old.set)

-- all literals were worked off
abbrev pub HasClosedQuiet : Seen → ℕ → Watches → Growth → Bool → Type 0
HasClosedQuiet k c w new true = Covered k c new
HasClosedQuiet k c w new false = Growing k c new × (length new.set ≤ new.worked) × IsQuietUpTo k w c new.set (take new.worked new.set)

abbrev pub HasClosedFollowed : Seen → ℕ → Watches → Growth → Bool → Type 0
HasClosedFollowed k c w new true = Covered k c new
HasClosedFollowed k c w new false = Growing k c new × (length new.set ≤ new.worked) × IsFollowed k w c new

-- one turn over all that lets the set grow
abbrev pub HasTurnedFollowed : Seen → ℕ → Watches → Growth → Progress → Type 0
HasTurnedFollowed k c w new Ended = HasTurned k c new Ended
HasTurnedFollowed k c w new Grown = HasTurned k c new Grown × IsFollowed k w c new
HasTurnedFollowed k c w new Unchanged = HasTurned k c new Unchanged
