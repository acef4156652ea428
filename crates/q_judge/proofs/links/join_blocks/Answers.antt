use Rattle.std.proofs.Common.{arith}
use Rattle.q_judge.proofs.links.join_blocks.Goals as goal

pub index-requires : goal.index-requires
index-requires c =
    let m = c.requires.low c.in-Some.a c.in-Some-after.c c.in-Some.is c.in-Some-after.is in
    let e = c.rank_of-low.ensures in
    omega (arith, m.from_in, e, c.args.counts.now.ok.0)

pub index-requires-2 : goal.index-requires-2
index-requires-2 c =
    let m = c.requires.low c.in-Some.a c.in-Some-after.c c.in-Some.is c.in-Some-after.is in
    let e = c.rank_of-high.ensures in
    omega (arith, m.to_in, e, c.args.counts.now.ok.0)
