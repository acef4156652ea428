use Rattle.q_reduce.proofs.ForestAncestors.{above-through}
use Rattle.q_reduce.proofs.forest.Forest.meet.Goals as goal

pub loop-x-preserved : goal.loop-x-preserved
loop-x-preserved c = record {
  first = above-through c.args.self.now.places c.requires c.up-x.result c.loop-x.x c.args.a c.up-x.ensures.above c.loop-x.invariant.first;
  second = above-through c.args.self.now.places c.requires c.up-y.result c.loop-x.y c.args.b c.up-y.ensures.above c.loop-x.invariant.second;
}
