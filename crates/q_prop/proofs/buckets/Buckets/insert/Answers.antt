use Rattle.std.proofs.Common.{◌≡◌, ◌<◌, length, arith}
use Rattle.q_prop.specs.Buckets.{bucket_of, first_of}
use Rattle.q_prop.proofs.BucketLemmas.{chained-put, first_of-at, short-set}
use Rattle.q_prop.proofs.buckets.Buckets.insert.Goals as goal

pub returns : goal.returns
returns c s t h put =
    let b = c.args.self.now in
    let k : c.bucket-k.result ≡ bucket_of b.count c.args.lits.now = c.bucket-k.ensures.value in
    let inside : c.args.slot < length b.nexts.items = omega (arith, c.requires.slot, b.nexts.ok.0) in
    let room : c.bucket-k.result < length b.firsts.items = omega (arith, c.bucket-k.ensures.within, c.requires.firsts, b.firsts.ok.0) in
    let f : c.index.result.now ≡ first_of b.firsts.items c.bucket-k.result = first_of-at b.firsts.items c.bucket-k.result c.index.result.now room c.index.ensures in
    record {
      chained = rw (f, k) (chained-put s c.args.slot c.args.lits.now t put b.count b.firsts.items b.nexts.items inside (rw k at room) h.chained);
      short = short-set b.nexts.items c.args.slot c.index.result.now h.short;
      positive = h.positive;
    }
