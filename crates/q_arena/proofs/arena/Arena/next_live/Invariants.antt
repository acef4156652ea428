use Rattle.std.proofs.Common.{◌≤◌, ◌<◌, ℕ}
use Rattle.q_arena.specs.Seen.{IsLive}
use Rattle.q_arena.proofs.arena.Arena.next_live.Given as goal

abbrev pub invariant-loop-id : goal.invariant-loop-id
invariant-loop-id l = (k : ℕ) → l.from ≤ k → k < l.id → IsLive l.self k → ⊥
