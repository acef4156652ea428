use Rattle.std.proofs.Common.{◌≡◌, true, refl}
use Rattle.q_resolve.proofs.lines.judge_leaf.Goals as goal

pub returns-then-is_leaf : goal.returns-then-is_leaf
returns-then-is_leaf c = c.is_leaf.ensures.0 c.if-is_leaf.true

pub returns : goal.returns
returns c = (refl, λ l. let t : c.is_leaf.result ≡ true = c.is_leaf.ensures.1 l in let f = c.if-is_leaf.false in absurd (cc))
