use Rattle.std.proofs.Common.{◌≡◌, take}
use Rattle.q_check.specs.Annotations.{with_hints}
use Rattle.q_check.proofs.showing.push_hints.Given as goal

abbrev pub invariant-loop-hint : goal.invariant-loop-hint
invariant-loop-hint l = l.proof ≡ with_hints (take l.hint-index l.hints) l.fn.proof
