use Rattle.std.proofs.Common.{◌≡◌, ◌∙◌, ◌-◌, ◌+◌, ◌<◌, ◌≤◌, ℕ, suc, Option, refl, cond, subst, arith}
use Rattle.q_judge.specs.declared.bindings.Binding.{Binding}
use Rattle.q_judge.specs.Scopes.{binding_at, is_among, with_rank}
use Rattle.q_judge.proofs.NewRanks.{IsAhead, ahead-turn, ahead-done}
use Rattle.q_judge.proofs.links.relabel.Goals as goal

fewer : (n i : ℕ) → i < n → n - i ≡ suc (n - (i + 1))
fewer n i h = omega arith

from_start : (n : ℕ) → n ≡ n - 0
from_start n = omega arith

none : (n i : ℕ) → n ≤ i → n - i ≡ 0
none n i h = omega arith

pub loop-init : goal.loop-init
loop-init c = (refl, λ S r z. record { vars = S; run = r; size = z ∙ from_start c.args.size; reaches = λ v. refl })

pub loop-preserved : goal.loop-preserved
loop-preserved c = (
  c.relabel_one-at.ensures.len ∙ c.loop.invariant.0,
  λ S r z.
      let e = fewer c.args.size c.loop.counter c.loop-test.true in
      let g : ℕ → Option Binding = λ v. cond (is_among S v) (with_rank c.args.to (binding_at c.args.bindings.now.items v)) (binding_at c.args.bindings.now.items v) in
      ahead-turn (binding_at c.loop.bindings.items) (binding_at c.relabel_one-at.new.bindings.items) c.args.forward c.args.to c.loop.at c.relabel_one-at.result (c.args.size - (c.loop.counter + 1)) g
      (subst (λ (n : ℕ). IsAhead (binding_at c.loop.bindings.items) c.args.forward c.args.to c.loop.at n g) e (c.loop.invariant.1 S r z))
      c.relabel_one-at.ensures.bindings c.relabel_one-at.ensures.next,
)

pub returns-clause-bindings : goal.returns-clause-bindings
returns-clause-bindings c S r z v =
    let g : ℕ → Option Binding = λ v. cond (is_among S v) (with_rank c.args.to (binding_at c.args.bindings.now.items v)) (binding_at c.args.bindings.now.items v) in
    ahead-done (binding_at c.loop.bindings.items) c.args.forward c.args.to c.loop.at g (subst (λ (n : ℕ). IsAhead (binding_at c.loop.bindings.items) c.args.forward c.args.to c.loop.at n g) (none c.args.size c.loop.counter c.loop-test.false) (c.loop.invariant.1 S r z)) v
