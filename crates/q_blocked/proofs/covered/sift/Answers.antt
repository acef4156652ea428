use Rattle.std.proofs.Common.{◌+◌, take, subst}
use Rattle.q_logic.specs.Prelude.{Literal, Clause, IsIn}
use Rattle.q_logic.proofs.Common.{taken-cases, taken-more, taken-last, taken-all}
use Rattle.q_blocked.proofs.FilteredLiterals.{IsSifted, sifted-begun, sifted-more}
use Rattle.q_blocked.proofs.covered.sift.Goals as goal

pub loop-k-init : goal.loop-k-init
loop-k-init c = rw c.clear.ensures.items (sifted-begun (λ (k : Literal). IsIn k c.args.clause.now))

pub loop-k-preserved : goal.loop-k-preserved
loop-k-preserved c =
    let n = c.loop-k.k-index in
    let xs = c.args.old.now in
    let j = c.k-item.result in
    sifted-more (λ (k : Literal). IsIn k c.args.clause.now) (take n xs) (take (n + 1) xs) c.loop-k.kept.items c.put_if.new.lits.items j c.holds.result
    (λ k m. taken-cases xs n j k c.loop-k-test.true c.k-item.is m) (λ k m. taken-more xs n j k c.loop-k-test.true c.k-item.is m) (taken-last xs n j c.loop-k-test.true c.k-item.is)
    c.holds.ensures c.in_ok-put_if.ensures c.loop-k.invariant

pub returns : goal.returns
returns c k =
    let h : IsSifted (λ (k : Literal). IsIn k c.args.clause.now) c.args.old.now c.loop-k.kept.items = subst (λ (D : Clause). IsSifted (λ (k : Literal). IsIn k c.args.clause.now) D c.loop-k.kept.items) (taken-all c.args.old.now c.loop-k.k-index c.loop-k-test.false) c.loop-k.invariant in
    h.both k
