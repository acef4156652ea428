use Rattle.std.proofs.Common.{◌≡◌, ◌∙◌, sym, true, false, arith}
use Rattle.q_logic.specs.Prelude.{Literal, has}
use Rattle.q_resolve.proofs.Scanned.{holds-has, every-stop, every-go}
use Rattle.q_resolve.proofs.leaves.are_of.Goals as goal

pub returns-then-not-holds : goal.returns-then-not-holds
returns-then-not-holds c =
    let f : c.holds.result ≡ false = let x = c.if-not-holds.true in grind arith in
    every-stop (λ (k : Literal). has k c.args.clause.now) c.args.term.now c.loop-k.k-index c.k-item.result c.loop-k-test.true c.k-item.is c.loop-k.invariant
    (sym (holds-has c.holds.result c.k-item.result c.args.clause.now c.holds.ensures) ∙ f)

pub loop-k-preserved : goal.loop-k-preserved
loop-k-preserved c =
    let f : c.holds.result ≡ true = let x = c.if-not-holds.false in grind arith in
    every-go (λ (k : Literal). has k c.args.clause.now) c.args.term.now c.loop-k.k-index c.k-item.result c.loop-k-test.true c.k-item.is c.loop-k.invariant
    (sym (holds-has c.holds.result c.k-item.result c.args.clause.now c.holds.ensures) ∙ f)
