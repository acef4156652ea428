use Rattle.std.proofs.Common.{◌↔◌, ◌+◌, take, subst}
use Rattle.q_logic.specs.Prelude.{Literal, Clause, IsIn}
use Rattle.q_logic.proofs.Common.{taken-cases, taken-more, taken-last, taken-all}
use Rattle.q_blocked.proofs.FilteredLiterals.{IsSifted, sifted-begun, sifted-more}
use Rattle.q_blocked.proofs.covered.sift_marked.Goals as goal

pub loop-k-init : goal.loop-k-init
loop-k-init c = rw c.clear.ensures.items (sifted-begun (λ (k : Literal). IsIn k c.fill.new.set))

pub loop-k-preserved : goal.loop-k-preserved
loop-k-preserved c =
    let n = c.loop-k.k-index in
    let xs = c.args.old.now in
    let j = c.k-item.result in
    sifted-more (λ (k : Literal). IsIn k c.fill.new.set) (take n xs) (take (n + 1) xs) c.loop-k.kept.items c.put_if.new.lits.items j c.has.result
    (λ k m. taken-cases xs n j k c.loop-k-test.true c.k-item.is m) (λ k m. taken-more xs n j k c.loop-k-test.true c.k-item.is m) (taken-last xs n j c.loop-k-test.true c.k-item.is)
    c.has.ensures c.in_ok-put_if.ensures c.loop-k.invariant

pub returns : goal.returns
returns c k =
    let S : Clause = c.fill.new.set in
    let h : IsSifted (λ (j : Literal). IsIn j S) c.args.old.now c.loop-k.kept.items = subst (λ (D : Clause). IsSifted (λ (j : Literal). IsIn j S) D c.loop-k.kept.items) (taken-all c.args.old.now c.loop-k.k-index c.loop-k-test.false) c.loop-k.invariant in
    subst (λ (D : Clause). IsIn k c.loop-k.kept.items ↔ (IsIn k c.args.old.now × IsIn k D)) c.in_ok-fill.ensures (h.both k)
