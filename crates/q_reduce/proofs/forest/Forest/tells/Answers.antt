use Rattle.std.proofs.Common.{◌≡◌, ℕ, true, subst}
use Rattle.q_logic.specs.Prelude.{outer_or_same}
use Rattle.q_reduce.proofs.ForestPaths.{clear-leads}
use Rattle.q_reduce.proofs.forest.Forest.tells.Goals as goal

pub returns-then-serves : goal.returns-then-serves
returns-then-serves c t =
    let k = c.args.kernel.now in
    let F = c.args.self.now in
    let o = subst (λ (v : ℕ). outer_or_same k.prefix v F.block ≡ true) c.var.ensures.value (c.serves.ensures c.if-serves.true) in
    let r = c.connects.ensures t in
    c.requires.sides.from_start r.0 r.2 (clear-leads k c.args.lit F r.0 r.1 c.requires.right o r.4 (c.requires.sides.from_end r.1 r.3).0)
