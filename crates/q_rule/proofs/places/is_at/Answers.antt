use Rattle.std.proofs.Common.{subst}
use Rattle.q_logic.specs.Prelude.{Literal, IsIn}
use Rattle.std.proofs.Common.{drop}
use Rattle.q_rule.proofs.OrderedClauses.{at-place, only-there}
use Rattle.q_rule.proofs.places.is_at.Goals as goal

pub returns-then-at-d : goal.returns-then-at-d
returns-then-at-d c =
    let D = c.args.d.now in (
      (λ t. subst (λ (m : Literal). IsIn m (drop c.args.at D)) (c.is.ensures.0 t) (at-place D c.args.at c.index-d-at.result c.if-at-d.true c.index-d-at.is)),
      (λ n. c.is.ensures.1 (only-there D c.args.at c.index-d-at.result c.args.k c.requires.ordered c.requires.least c.if-at-d.true c.index-d-at.is n)),
    )
