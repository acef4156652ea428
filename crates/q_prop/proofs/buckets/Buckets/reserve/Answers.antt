use Rattle.std.proofs.Common.{◌≤◌, ◌+◌, arith}
use Rattle.q_prop.proofs.BucketLemmas.{chained-longer, chained-more_nexts, short-more}
use Rattle.q_prop.proofs.buckets.Buckets.reserve.Goals as goal

pub returns-in_err-lengthen-clause-same : goal.returns-in_err-lengthen-clause-same
returns-in_err-lengthen-clause-same c s h = record {
  chained = rw c.in_err-lengthen.ensures.err h.chained;
  short = rw c.in_err-lengthen.ensures.err h.short;
  positive = h.positive;
}

pub returns-in_err-lengthen-2-clause-same : goal.returns-in_err-lengthen-2-clause-same
returns-in_err-lengthen-2-clause-same c s h =
    let b = c.args.self.now in
    let end : c.args.slot + 1 ≤ 4294967295 = omega (arith, c.if-slot-ge-NO_SLOT.false) in
    record {
      chained = rw (c.in_err-lengthen-2.ensures.err, c.in_ok-lengthen.ensures.ok.1) (chained-more_nexts s b.count b.firsts.items b.nexts.items _ h.chained);
      short = rw c.in_ok-lengthen.ensures.ok.1 (short-more b.nexts.items (c.args.slot + 1) h.short end);
      positive = h.positive;
    }

pub returns-clause-same : goal.returns-clause-same
returns-clause-same c s h =
    let b = c.args.self.now in
    let end : c.args.slot + 1 ≤ 4294967295 = omega (arith, c.if-slot-ge-NO_SLOT.false) in
    record {
      chained = rw (c.in_ok-lengthen-2.ensures.ok.1, c.in_ok-lengthen.ensures.ok.1) (chained-longer s b.count b.firsts.items b.nexts.items _ _ h.chained);
      short = rw c.in_ok-lengthen.ensures.ok.1 (short-more b.nexts.items (c.args.slot + 1) h.short end);
      positive = h.positive;
    }
