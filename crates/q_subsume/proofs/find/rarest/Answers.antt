use Rattle.std.proofs.Common.{sym, subst}
use Rattle.q_logic.specs.Prelude.{Literal, IsIn}
use Rattle.q_logic.proofs.Common.{item-in}
use Rattle.q_subsume.proofs.find.rarest.Goals as goal
use Rattle.q_subsume.proofs.find.rarest.Goals.{then-places-least, else-places-least}

pub loop-k-preserved : goal.loop-k-preserved
loop-k-preserved c = elim c.if-places-least.branch [
  | then-places-least w ↦ subst (λ (k : Literal). IsIn k c.args.clause.now) (sym w.best-is) (item-in c.args.clause.now c.loop-k.k-index c.k-item.result c.loop-k-test.true c.k-item.is)
  | else-places-least w ↦ subst (λ (k : Literal). IsIn k c.args.clause.now) (sym w.best-is) c.loop-k.invariant
]
