use Rattle.std.proofs.Common.{◌≡◌, ◌↔◌, inl, inr, true, sym, refl, subst, true≢false}
use Rattle.q_logic.specs.Prelude.{Literal, negation, Clause, IsIn, keeps}
use Rattle.q_logic.proofs.Common.{item-in, taken-cases, taken-all, test-false}
use Rattle.q_blocked.proofs.Clashes.{IsClear, clear-none, clash-met}
use Rattle.q_blocked.proofs.clashing.clashes.Goals as goal

pub hits-requires-clause-there : goal.hits-requires-clause-there
hits-requires-clause-there c = c.requires.within c.k-item.result (item-in c.args.clause.now c.loop-k.k-index c.k-item.result c.loop-k-test.true c.k-item.is)

pub hits-requires-clause-here : goal.hits-requires-clause-here
hits-requires-clause-here c = rw c.negated-m.ensures c.requires.bound

pub loop-k-init : goal.loop-k-init
loop-k-init c k m h n = m

pub loop-k-preserved : goal.loop-k-preserved
loop-k-preserved c k m h n =
    let e : c.hits.result ≡ true ↔ ((keeps c.args.kernel.now.prefix (negation c.args.l) c.k-item.result ≡ true) × IsIn (negation c.k-item.result) c.args.set.now) = rw c.negated-m.ensures at c.hits.ensures in
    elim (taken-cases c.args.clause.now c.loop-k.k-index c.k-item.result k c.loop-k-test.true c.k-item.is m) [
      | inl a ↦ c.loop-k.invariant k a h n
      | inr q ↦ test-false c.hits.result e c.if-hits.false (subst (λ (x : Literal). keeps c.args.kernel.now.prefix (negation c.args.l) x ≡ true) q h, subst (λ (x : Literal). IsIn (negation x) c.args.set.now) q n)
    ]

pub returns-then-hits : goal.returns-then-hits
returns-then-hits c =
    let e : c.hits.result ≡ true ↔ ((keeps c.args.kernel.now.prefix (negation c.args.l) c.k-item.result ≡ true) × IsIn (negation c.k-item.result) c.args.set.now) = rw c.negated-m.ensures at c.hits.ensures in
    let r = e.0 c.if-hits.true in
    let m = item-in c.args.clause.now c.loop-k.k-index c.k-item.result c.loop-k-test.true c.k-item.is in
    let z = clash-met c.args.kernel.now.prefix c.args.l c.args.set.now c.args.clause.now c.k-item.result m r.0 r.1 in
    ((λ t. z), (λ t. refl))

pub returns : goal.returns
returns c =
    let h : IsClear c.args.kernel.now.prefix c.args.l c.args.set.now c.args.clause.now = subst (λ (D : Clause). IsClear c.args.kernel.now.prefix c.args.l c.args.set.now D) (taken-all c.args.clause.now c.loop-k.k-index c.loop-k-test.false) c.loop-k.invariant in
    ((λ t. absurd (true≢false (sym t))), (λ z. absurd (clear-none c.args.kernel.now.prefix c.args.l c.args.set.now c.args.clause.now h z)))
