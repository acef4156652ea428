use Rattle.q_reduce.specs.Forests.{IsAbove}
use Rattle.q_reduce.proofs.ForestAncestors.{above-through}
use Rattle.q_reduce.proofs.forest.Forest.ancestor.Goals as goal

pub loop-at-init : goal.loop-at-init
loop-at-init c = record { above = IsAbove.itself; level = λ h. h }

pub loop-at-preserved : goal.loop-at-preserved
loop-at-preserved c = record {
  above = above-through c.args.self.now.places c.requires c.step_up-at.result c.loop-at.at c.args.from c.step_up-at.ensures.above c.loop-at.invariant.above;
  level = λ h. c.step_up-at.ensures.level;
}
