use Rattle.std.proofs.Common.{◌≡◌, true, ◌+◌, take, subst}
use Rattle.q_logic.specs.Prelude.{Literal, Clause, IsIn, keeps}
use Rattle.q_logic.proofs.Common.{item-in, taken-cases, taken-more, taken-last, taken-all}
use Rattle.q_blocked.proofs.FilteredLiterals.{IsSifted, sifted-begun, sifted-more}
use Rattle.q_blocked.proofs.covered.begin.Goals as goal

pub is_fresh-requires-clause-there : goal.is_fresh-requires-clause-there
is_fresh-requires-clause-there c = c.requires.within c.k-item.result (item-in c.args.clause.now c.loop-k.k-index c.k-item.result c.loop-k-test.true c.k-item.is)

pub loop-k-init : goal.loop-k-init
loop-k-init c = rw c.clear.ensures.items (sifted-begun (λ (k : Literal). (keeps c.args.kernel.now.prefix c.args.m k ≡ true) × (IsIn k c.args.set.now → ⊥)))

pub loop-k-preserved : goal.loop-k-preserved
loop-k-preserved c =
    let n = c.loop-k.k-index in
    let xs = c.args.clause.now in
    let j = c.k-item.result in
    sifted-more (λ (k : Literal). (keeps c.args.kernel.now.prefix c.args.m k ≡ true) × (IsIn k c.args.set.now → ⊥)) (take n xs) (take (n + 1) xs) c.loop-k.found.items c.put_if.new.lits.items j c.is_fresh.result
    (λ k m. taken-cases xs n j k c.loop-k-test.true c.k-item.is m) (λ k m. taken-more xs n j k c.loop-k-test.true c.k-item.is m) (taken-last xs n j c.loop-k-test.true c.k-item.is)
    c.is_fresh.ensures c.in_ok-put_if.ensures c.loop-k.invariant

pub returns : goal.returns
returns c k =
    let h : IsSifted (λ (k : Literal). (keeps c.args.kernel.now.prefix c.args.m k ≡ true) × (IsIn k c.args.set.now → ⊥)) c.args.clause.now c.loop-k.found.items = subst (λ (D : Clause). IsSifted (λ (k : Literal). (keeps c.args.kernel.now.prefix c.args.m k ≡ true) × (IsIn k c.args.set.now → ⊥)) D c.loop-k.found.items) (taken-all c.args.clause.now c.loop-k.k-index c.loop-k-test.false) c.loop-k.invariant in
    ((λ m. let r = (h.both k).0 m in (r.0, r.1.0, r.1.1)), λ m. (h.both k).1 (m.0, (m.1, m.2)))
