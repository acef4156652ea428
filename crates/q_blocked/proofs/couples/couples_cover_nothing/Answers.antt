use Rattle.std.proofs.Common.{arith, ◌≡◌, false, Some}
use Rattle.q_logic.specs.Prelude.{Literal, negation, IsIn}
use Rattle.q_logic.proofs.Common.{test-false}
use Rattle.q_kernel.specs.Prelude.{slots}
use Rattle.q_blocked.specs.Walks.{IsCoupleAt}
use Rattle.q_blocked.proofs.PartedCouples.{couples-parted}
use Rattle.q_blocked.proofs.couples.couples_cover_nothing.Goals as goal

pub returns : goal.returns
returns c e =
    let N = slots c.args.kernel.now in
    let x : (a : Literal) → c.partner_at.result ≡ Some a → IsCoupleAt N c.args.c c.args.pair.first (negation c.args.l) a = rw c.negated-m.ensures at c.partner_at.ensures in
    let y : (a : Literal) → c.partner_at-2.result ≡ Some a → IsCoupleAt N c.args.c c.args.pair.second (negation c.args.l) a = rw c.negated-m.ensures at c.partner_at-2.ensures in
    let f : IsIn (negation c.in-Some.a) c.args.set.now → ⊥ = rw c.negated.ensures at (test-false c.has.result c.has.ensures c.if-has.false) in
    let q : c.has-2.result ≡ false = grind arith in
    let g : IsIn (negation c.in-Some-partner_at.b) c.args.set.now → ⊥ = rw c.negated-2.ensures at (test-false c.has-2.result c.has-2.ensures q) in
    couples-parted c.args.kernel.now.prefix N c.args.c c.args.pair.first c.args.pair.second c.args.l c.in-Some.a c.in-Some-partner_at.b c.args.set.now (x c.in-Some.a c.in-Some.is) (y c.in-Some-partner_at.b c.in-Some-partner_at.is) (test-false c.is.result c.is.ensures c.if-is.false) f g
