use Rattle.std.proofs.Common.{◌≡◌, ◌∙◌, true, take, sym, subst, inl, inr, true≢false}
use Rattle.q_logic.specs.Prelude.{Literal, Clause, IsIn, keeps}
use Rattle.q_logic.proofs.Common.{item-in, taken-cases, taken-all, test-false}
use Rattle.q_rule.proofs.OrderedClauses.{dropped-more, left-here, left-on}
use Rattle.q_blocked.specs.Walks.{IsParted, IsPartedBeyond}
use Rattle.q_blocked.proofs.pairs.share.Goals as goal

pub is_kept-requires-clause-there : goal.is_kept-requires-clause-there
is_kept-requires-clause-there c = c.requires.within c.k-item.result (item-in c.args.first.now c.loop-k.k-index c.k-item.result c.loop-k-test.true c.k-item.is)

pub loop-k-preserved-then-not-is_kept : goal.loop-k-preserved-then-not-is_kept
loop-k-preserved-then-not-is_kept c =
    let C = c.args.first.now in
    let x = c.k-item.result in
    let P = c.args.kernel.now.prefix in
    let no : (k : Literal) → k ≡ x → keeps P c.args.m k ≡ true → ⊥ = λ k e h. true≢false (sym h ∙ (subst (λ (y : Literal). keeps P c.args.m k ≡ keeps P c.args.m y) e Rattle.std.proofs.Common.refl ∙ (sym c.is_kept.ensures ∙ c.if-not-is_kept.true))) in
    record {
      beyond = λ k m h i n. elim (taken-cases C c.loop-k.k-index x k c.loop-k-test.true c.k-item.is m) [
        | inl a ↦ c.loop-k.invariant.beyond k a h i n
        | inr e ↦ no k e h
      ];
      parted = λ q k m h i. elim (taken-cases C c.loop-k.k-index x k c.loop-k-test.true c.k-item.is m) [
        | inl a ↦ c.loop-k.invariant.parted q k a h i
        | inr e ↦ no k e h
      ];
      rest = λ j m i. c.loop-k.invariant.rest j (dropped-more C c.loop-k.k-index j m) i;
    }

pub loop-k-preserved-then-not-is_at : goal.loop-k-preserved-then-not-is_at
loop-k-preserved-then-not-is_at c =
    let C = c.args.first.now in
    let D = c.args.second.now in
    let x = c.k-item.result in
    let there = left-here C c.loop-k.k-index x D c.loop-k.at c.skip_to-at.result c.requires.ordered c.loop-k-test.true c.k-item.is c.skip_to-at.ensures.kept c.loop-k.invariant.rest in
    let no : (k : Literal) → k ≡ x → IsIn k D → ⊥ = λ k e i. test-false c.is_at.result c.is_at.ensures c.if-not-is_at.true (there (subst (λ (y : Literal). IsIn y D) e i)) in
    record {
      beyond = λ k m h i n. elim (taken-cases C c.loop-k.k-index x k c.loop-k-test.true c.k-item.is m) [
        | inl a ↦ c.loop-k.invariant.beyond k a h i n
        | inr e ↦ no k e i
      ];
      parted = λ q k m h i. elim (taken-cases C c.loop-k.k-index x k c.loop-k-test.true c.k-item.is m) [
        | inl a ↦ c.loop-k.invariant.parted q k a h i
        | inr e ↦ no k e i
      ];
      rest = left-on C c.loop-k.k-index x D c.loop-k.at c.skip_to-at.result c.requires.ordered c.loop-k-test.true c.k-item.is c.skip_to-at.ensures.kept c.loop-k.invariant.rest;
    }

pub loop-k-preserved : goal.loop-k-preserved
loop-k-preserved c =
    let C = c.args.first.now in
    let D = c.args.second.now in
    let x = c.k-item.result in
    record {
      beyond = λ k m h i n. elim (taken-cases C c.loop-k.k-index x k c.loop-k-test.true c.k-item.is m) [
        | inl a ↦ c.loop-k.invariant.beyond k a h i n
        | inr e ↦ n (subst (λ (y : Literal). IsIn y c.args.set.now) (sym e) (c.has.ensures.0 c.if-not-has.false))
      ];
      parted = λ q. absurd (true≢false (sym q));
      rest = left-on C c.loop-k.k-index x D c.loop-k.at c.skip_to-at.result c.requires.ordered c.loop-k-test.true c.k-item.is c.skip_to-at.ensures.kept c.loop-k.invariant.rest;
    }

pub returns-then-nothing : goal.returns-then-nothing
returns-then-nothing c = subst (λ (E : Clause). IsParted c.args.kernel.now.prefix c.args.m E c.args.second.now) (taken-all c.args.first.now c.loop-k.k-index c.loop-k-test.false) (c.loop-k.invariant.parted c.if-nothing.true)

pub returns : goal.returns
returns c = subst (λ (E : Clause). IsPartedBeyond c.args.kernel.now.prefix c.args.m c.args.set.now E c.args.second.now) (taken-all c.args.first.now c.loop-k.k-index c.loop-k-test.false) c.loop-k.invariant.beyond
