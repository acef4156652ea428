use Rattle.std.proofs.Common.{◌≡◌, ◌-◌, ℕ, List, cond, length}
use Rattle.q_judge.specs.Scopes.{binding_at, is_among, with_rank, IsRun}
use Rattle.q_judge.proofs.NewRanks.{IsAhead}
use Rattle.q_judge.proofs.links.relabel.Given as goal

abbrev pub invariant-loop : goal.invariant-loop
invariant-loop l =
    (length l.bindings.items ≡ length l.fn.bindings.items)
    × ((S : List ℕ) → IsRun (binding_at l.fn.bindings.items) l.forward l.fn.start S → length S ≡ l.size →
    IsAhead (binding_at l.bindings.items) l.forward l.to l.at (l.size - l.counter) (λ v. cond (is_among S v) (with_rank l.to (binding_at l.fn.bindings.items v)) (binding_at l.fn.bindings.items v)))
