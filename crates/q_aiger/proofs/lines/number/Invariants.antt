use Rattle.std.proofs.Common.{◌≡◌, ◌≤◌, ℕ, drop}
use Rattle.q_text.specs.Words.{digits_behind}
use Rattle.q_aiger.specs.Lines.{clipped}
use Rattle.q_aiger.proofs.lines.number.Given as goal

abbrev pub invariant-loop-byte : goal.invariant-loop-byte
invariant-loop-byte l = record {
  small : l.value ≤ 576460752303423488;
  known : (n : ℕ) × (l.value ≡ clipped n) × (digits_behind n (drop l.byte-index l.word) ≡ digits_behind 0 l.word);
}
