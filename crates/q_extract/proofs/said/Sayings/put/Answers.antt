use Rattle.std.proofs.Common.{◌≡◌, ◌&&◌, ◌==◌, nat_eq, cond, Bool, Some, ap, ap₂, ◌∙◌, arith, ℕ}
use Rattle.q_extract.specs.Saying.{said_in}
use Rattle.q_extract.proofs.said.Sayings.put.Goals as goal

turned : (a b : ℕ) → nat_eq a b ≡ (b == a)
turned a b = grind arith

pub returns : goal.returns
returns c = λ n x.
    c.in_ok-insert.ensures.updates.0 (n, x) ∙
    ap (λ (b : Bool). cond b (Some c.args.merge) (said_in c.args.self.now n x))
    (ap₂ (λ (s t : Bool). s && t) (turned c.args.number n) (turned c.args.var x))
