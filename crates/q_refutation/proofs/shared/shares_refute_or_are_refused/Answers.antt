use Rattle.q_refutation.proofs.SharedRefuting.{shared-number, number-shared, shared-one, shared-not_both, whole-in, in-whole}
use Rattle.q_refutation.proofs.shared.shares_refute_or_are_refused.Goals as goal

pub returns : goal.returns
returns c = record {
  number = λ j m F ss. (shared-number j m 0 F ss, λ r. number-shared j m 0 F ss r.0 r.1);
  one = λ j m F ss. shared-one j m 0 F ss;
  not_both = λ j m F ss n at cause r x. shared-not_both j m 0 F ss at cause (number-shared j m 0 F ss n r) x;
  whole = λ j m F ss n w. (whole-in j w m 0 F ss n, in-whole j w m 0 F ss n);
}
