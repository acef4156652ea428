use Rattle.std.proofs.Common.{◌≡◌, ◌+◌, ℕ, arith, subst}
use Rattle.q_refutation.specs.SharedRefutations.{IsOwner}
use Rattle.q_refutation.proofs.SharedRefuting.{bad-told, none-before, end-told, right-told}
use Rattle.q_refutation.proofs.shared.first_bad_steps_are_told.Goals as goal

pub returns : goal.returns
returns c = record {
  told = λ js m F ss at cause d. bad-told js m 0 F ss at cause d;
  none_before = λ j m F ss at other cause own. none-before j m 0 F ss at other cause own;
  ends = λ j m F ss at. end-told j m 0 F ss at;
  right = λ js m F ss at cause d j i o r a.
      let q : at ≡ 0 + at = omega arith in
      right-told js m 0 F ss at cause d j (subst (λ (l : ℕ). IsOwner j l cause) q o) r a;
}
