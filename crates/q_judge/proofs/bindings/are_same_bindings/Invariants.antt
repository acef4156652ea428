use Rattle.std.proofs.Common.{◌≡◌, ◌<◌, ℕ, true}
use Rattle.q_judge.specs.Scopes.{is_same_binding, binding_at}
use Rattle.q_judge.proofs.bindings.are_same_bindings.Given as goal

abbrev pub invariant-loop-var : goal.invariant-loop-var
invariant-loop-var l = (v : ℕ) → v < l.var → is_same_binding (binding_at l.mine.items v) (binding_at l.others.items v) ≡ true
