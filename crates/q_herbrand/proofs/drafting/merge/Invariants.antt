use Rattle.std.proofs.Common.{◌≡◌, ◌<◌, ◌≤◌, ℕ, None}
use Rattle.q_certificate.specs.Prelude.{look_at}
use Rattle.q_herbrand.specs.Drafted.{either}
use Rattle.q_herbrand.proofs.drafting.merge.Given as goal

abbrev pub invariant-loop-place : goal.invariant-loop-place
invariant-loop-place l = record {
  done : (x : ℕ) → x < l.place → look_at l.row.items x ≡ either (look_at l.circuits.items x) (look_at l.inputs.items x);
  rest : (x : ℕ) → l.place ≤ x → look_at l.row.items x ≡ None;
}
