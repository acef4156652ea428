use Rattle.std.proofs.Common.{Bool, Some, sym, subst}
use Rattle.q_validate.specs.Words.{Tells}
use Rattle.q_validate.proofs.WordBits.{true-told, false-told}
use Rattle.q_validate.proofs.words.KnownBelow.value.Goals as goal

pub returns-then-value : goal.returns-then-value
returns-then-value c = subst (λ (v : Bool). Tells _ (λ w. Some v)) (sym c.if-value.true) true-told

pub returns : goal.returns
returns c = subst (λ (v : Bool). Tells _ (λ w. Some v)) (sym c.if-value.false) false-told
