use Rattle.std.proofs.Common.{◌≡◌, ◌<◌, ℕ, true, slice_get, Some, take}
use Rattle.q_logic.specs.declared.formulas.Bound.{Bound}
use Rattle.q_logic.specs.Prelude.{is_exists}
use Rattle.q_certificate.specs.Tabled.{AreAllowedBy}
use Rattle.q_certificate.specs.Refusals.{IsOuter}
use Rattle.q_certificate.proofs.reads.first_reading.Given as goal

abbrev pub invariant-loop-i : goal.invariant-loop-i
invariant-loop-i l = record {
  same : l.given ≡ l.initial.given;
  allowed : AreAllowedBy (take l.i l.prefix) l.initial.given.inputs l.allowed;
  outer : (j : ℕ) → (b : Bound) → j < l.i → slice_get l.prefix j ≡ Some b → is_exists b.quant ≡ true → IsOuter l.prefix l.initial.given b.var;
}
