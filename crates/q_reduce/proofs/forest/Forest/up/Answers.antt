use Rattle.std.proofs.Common.{◌≡◌, ◌<◌, ◌+◌, ℕ, sym, subst, arith}
use Rattle.q_reduce.specs.Forests.{depth_of, parent_of, IsAbove}
use Rattle.q_reduce.proofs.ForestAncestors.{jump-above, jump-falls, parent-above, parent-level}
use Rattle.q_reduce.proofs.forest.Forest.up.Goals as goal

pub returns-then-by_jump-clause-above : goal.returns-then-by_jump-clause-above
returns-then-by_jump-clause-above c = let F = c.args.self.now.places in subst (λ (x : ℕ). IsAbove F x c.args.c) (sym c.jump.ensures) (jump-above F c.requires c.args.c)

pub returns-then-by_jump-clause-falls : goal.returns-then-by_jump-clause-falls
returns-then-by_jump-clause-falls c l = let F = c.args.self.now.places in subst (λ (x : ℕ). depth_of F x < depth_of F c.args.c) (sym c.jump.ensures) (jump-falls F c.requires c.args.c l)

pub returns-else-by_jump-clause-above : goal.returns-else-by_jump-clause-above
returns-else-by_jump-clause-above c = let F = c.args.self.now.places in subst (λ (x : ℕ). IsAbove F x c.args.c) (sym c.parent.ensures) (parent-above F c.requires c.args.c)

pub returns-else-by_jump-clause-falls : goal.returns-else-by_jump-clause-falls
returns-else-by_jump-clause-falls c l =
    let F = c.args.self.now.places in
    let e : depth_of F c.args.c ≡ depth_of F (parent_of F c.args.c) + 1 = parent-level F c.requires c.args.c l in
    subst (λ (x : ℕ). depth_of F x < depth_of F c.args.c) (sym c.parent.ensures) (omega arith)
