use Rattle.std.proofs.Common.{◌≡◌, ◌≤◌, ◌<◌, ℕ, ◌-◌, slice_get, Some}
use Rattle.q_qrp.specs.Lines.{Line}
use Rattle.q_resolve.proofs.finding.find.Given as goal

abbrev pub invariant-loop-low : goal.invariant-loop-low
invariant-loop-low l = record {
  order : l.low ≤ l.high;
  within : l.high ≤ l.n;
  below : (i : ℕ) → (x : Line) → i < l.low → slice_get l.trace.lines i ≡ Some x → x.row.id < l.number;
  above : (i : ℕ) → (x : Line) → l.high ≤ i → i < l.n → slice_get l.trace.lines i ≡ Some x → l.number ≤ x.row.id;
}

abbrev pub decreases-loop-low : goal.decreases-loop-low
decreases-loop-low l = l.high - l.low
