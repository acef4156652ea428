use Rattle.std.proofs.Common.{◌+◌, ap}
use Rattle.q_eliminate.proofs.EliminateSearch.{passed-all}
use Rattle.q_eliminate.proofs.find.find_from.Goals as goal

pub returns : goal.returns
returns c = record {
  some = λ t e. absurd (cc);
  none = λ e t f a. passed-all c.args.bounds.now c.args.kernel.now c.args.from c.loop-x.x (c.greatest_var-end.result + 1) (ap (λ n. n + 1) c.greatest_var-end.ensures) c.loop-x-test.false c.loop-x.invariant t f a;
}
