use Rattle.std.proofs.Common.{◌≡◌, ◌≤◌, ℕ, true, sym, ◌∙◌, subst, nat_eq, arith}
use Rattle.std.proofs.lemmas.Bool.Decides.{nat_tests}
use Rattle.q_reduce.specs.Forests.{depth_of}
use Rattle.q_reduce.proofs.ForestAncestors.{above-level, above-same}
use Rattle.q_reduce.proofs.forest.Forest.is_above.Goals as goal

same : (a b : ℕ) → a ≡ b → nat_eq a b ≡ true
same a b e = grind (arith, nat_tests)

pub returns : goal.returns
returns c a =
    let F = c.args.self.now.places in
    let l : depth_of F c.args.x ≤ depth_of F c.args.c = above-level F c.requires c.args.x c.args.c a in
    let e : depth_of F c.ancestor.result ≡ depth_of F c.args.x = c.ancestor.ensures.level (subst (λ (d : ℕ). d ≤ depth_of F c.args.c) (sym c.depth.ensures) l) ∙ c.depth.ensures in
    same c.ancestor.result c.args.x (above-same F c.requires c.ancestor.result c.args.x c.args.c c.ancestor.ensures.above a e)
