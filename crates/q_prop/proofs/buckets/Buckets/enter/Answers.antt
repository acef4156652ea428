use Rattle.std.proofs.Common.{take, ◌+◌}
use Rattle.q_prop.proofs.BucketLemmas.{take-put, take-vacant, chained-empty}
use Rattle.q_prop.proofs.buckets.Buckets.enter.Goals as goal

pub insert-requires-clause-count : goal.insert-requires-clause-count
insert-requires-clause-count c = (c.reserve.ensures.same (take c.args.at c.args.propagator.now) c.requires.hashed).positive

pub returns-in_ok-reserve : goal.returns-in_ok-reserve
returns-in_ok-reserve c =
    let s = c.args.propagator.now in
    c.insert.ensures (take c.args.at s) (take (c.args.at + 1) s) (c.reserve.ensures.same (take c.args.at s) c.requires.hashed) (take-put s c.args.at c.in-Some.clause.now c.in-Some.ensures)

pub returns-in_default : goal.returns-in_default
returns-in_default c =
    let s = c.args.propagator.now in
    let b = c.args.self.now in
    let h = c.requires.hashed in
    record {
      chained = rw (take-vacant s c.args.at c.requires.within c.in_default.ensures) (chained-empty (take c.args.at s) b.count b.firsts.items b.nexts.items h.chained);
      short = h.short;
      positive = h.positive;
    }
