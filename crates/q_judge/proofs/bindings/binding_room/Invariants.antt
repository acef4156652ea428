use Rattle.std.proofs.Common.{◌≡◌, ◌<◌, ℕ, true, None, length, take}
use Rattle.q_logic.specs.Prelude.{is_bound}
use Rattle.q_pages.specs.Rows.{IsMade}
use Rattle.q_judge.specs.Scopes.{binding_at}
use Rattle.q_judge.proofs.bindings.binding_room.Given as goal

abbrev pub invariant-loop-bound : goal.invariant-loop-bound
invariant-loop-bound l = ((v : ℕ) → binding_at l.bindings.items v ≡ None) × ((v : ℕ) → is_bound (take l.bound-index l.prefix) v ≡ true → IsMade l.bindings v)
