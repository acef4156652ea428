use Rattle.std.proofs.Common.{◌≡◌, take, map}
use Rattle.q_check.specs.HintChecks.{place_at}
use Rattle.q_check.proofs.numbered.place_all.Given as goal

abbrev pub invariant-loop-hint : goal.invariant-loop-hint
invariant-loop-hint l = l.slots.items ≡ map (place_at l.numbers l.none) (take l.hint-index l.hints)
