use Rattle.std.proofs.Common.{◌≡◌, ◌∷◌, None}
use Rattle.q_check.specs.Numbers.{counted}
use Rattle.q_check.proofs.numbered.count.Given as goal

abbrev pub invariant-loop-at : goal.invariant-loop-at
invariant-loop-at l = l.numbers ≡ None ∷ counted l.at
