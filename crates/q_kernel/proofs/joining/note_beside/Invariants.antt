use Rattle.std.proofs.Common.{◌≡◌, ℕ, Some}
use Rattle.q_arena.specs.Prelude.{Has}
use Rattle.q_occ.specs.Places.{places_of}
use Rattle.q_kernel.proofs.joining.note_beside.Given as goal

abbrev pub invariant-loop : goal.invariant-loop
invariant-loop l = record {
  same : l.kernel ≡ l.fn.kernel;
  listed : (p : ℕ) → l.at ≡ Some p → Has (places_of l.fn.kernel.lists l.fn.lit) p;
}
