use Rattle.std.proofs.Common.{◌∙◌, ◌++◌, ◌∷◌, [], sym, ap}
use Rattle.q_logic.specs.Prelude.{Clause}
use Rattle.q_logic.proofs.Common.{taken-all, taken}
use Rattle.q_blocked.proofs.clashing.fill.Goals as goal

pub loop-k-preserved : goal.loop-k-preserved
loop-k-preserved c = c.in_ok-push.ensures.ok ∙ (ap (λ (xs : Clause). xs ++ c.k-item.result ∷ []) c.loop-k.invariant ∙ sym (taken c.args.clause.now c.loop-k.k-index c.k-item.result c.loop-k-test.true c.k-item.is))

pub returns : goal.returns
returns c = c.loop-k.invariant ∙ taken-all c.args.clause.now c.loop-k.k-index c.loop-k-test.false
