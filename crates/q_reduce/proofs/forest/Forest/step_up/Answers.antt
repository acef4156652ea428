use Rattle.std.proofs.Common.{◌<◌, ℕ, sym, subst, arith}
use Rattle.q_reduce.specs.Forests.{depth_of, IsAbove}
use Rattle.q_reduce.proofs.ForestAncestors.{jump-above, jump-falls, parent-above}
use Rattle.q_reduce.proofs.forest.Forest.step_up.Goals as goal

pub returns-then-depth-clause-above : goal.returns-then-depth-clause-above
returns-then-depth-clause-above c = let F = c.args.self.now.places in subst (λ (x : ℕ). IsAbove F x c.args.c) (sym c.jump-jump.ensures) (jump-above F c.requires.levels c.args.c)

pub returns-then-depth-clause-falls : goal.returns-then-depth-clause-falls
returns-then-depth-clause-falls c =
    let F = c.args.self.now.places in
    let b : c.args.depth < depth_of F c.args.c = c.requires.below in
    subst (λ (x : ℕ). depth_of F x < depth_of F c.args.c) (sym c.jump-jump.ensures) (jump-falls F c.requires.levels c.args.c (omega arith))

pub returns-else-depth-clause-above : goal.returns-else-depth-clause-above
returns-else-depth-clause-above c = let F = c.args.self.now.places in subst (λ (x : ℕ). IsAbove F x c.args.c) (sym c.parent.ensures) (parent-above F c.requires.levels c.args.c)
