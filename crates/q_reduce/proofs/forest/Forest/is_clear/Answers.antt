use Rattle.q_kernel.specs.Prelude.{HoldsLiteral}
use Rattle.q_kernel.proofs.ForLoops.{each-came}
use Rattle.q_reduce.specs.Forests.{IsFree}
use Rattle.q_reduce.proofs.forest.Forest.is_clear.Goals as goal

pub returns : goal.returns
returns c t =
    let m = c.meet.ensures c.in-Some.top c.in-Some.is in
    record {
      top = c.in-Some.top;
      above_from = m.0;
      above_to = m.1;
      free = each-came (λ x. HoldsLiteral c.args.kernel.now x c.args.lit) (λ x. IsFree c.args.self.now.places c.in-Some.top c.args.from c.args.to x) c.loop-x.yielded
          c.holders-x-items.ensures.all c.into_iter-x-iterator.ensures.into_iter_gives c.loop-x.yielded_by c.in-None.ensures.steps.0 c.loop-x.invariant;
    }
