use Rattle.std.proofs.Common.{◌≡◌, ◌∙◌, ◌++◌, ◌-◌, ◌+◌, ◌<◌, ℕ, suc, length, sym, ap, arith}
use Rattle.q_judge.specs.Scopes.{bounds_from}
use Rattle.q_judge.proofs.scope.Scope.bounds.Goals as goal

fewer : (n i : ℕ) → i < n → n - i ≡ suc (n - (i + 1))
fewer n i h = omega arith

pub loop-preserved : goal.loop-preserved
loop-preserved c =
    let bindings = c.self.inside.bindings.items in
    let l : c.loop.counter < length bindings = omega (arith, c.loop-test.true, c.len-end.ensures.value) in
    let e = fewer (length bindings) c.loop.counter l in
    let p = c.in_ok-at.ensures (length bindings - (c.loop.counter + 1)) in
    p ∙ ap (λ (n : ℕ). c.loop.bounds.items ++ bounds_from bindings c.loop.at n) (sym e) ∙ c.loop.invariant
