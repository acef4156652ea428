use Rattle.std.proofs.Common.{◌≡◌, ◌<◌, ℕ, sym, ◌∙◌, subst, arith}
use Rattle.std.proofs.lemmas.Option.{same_Some}
use Rattle.q_kernel.specs.Prelude.{slots}
use Rattle.q_reduce.specs.Paths.{AreJoined}
use Rattle.q_reduce.specs.Forests.{depth_of}
use Rattle.q_reduce.proofs.ForestPaths.{joined-up}
use Rattle.q_reduce.proofs.forest.Forest.free_parent.Goals as goal

pub returns-else-holds-clause-joined : goal.returns-else-holds-clause-joined
returns-else-holds-clause-joined c p e =
    let k = c.args.kernel.now in
    let F = c.args.self.now in
    let d : c.depth.result ≡ depth_of F.places c.args.c = c.depth.ensures in
    let n = c.if-depth-eq0.false in
    let l : 0 < depth_of F.places c.args.c = omega arith in
    subst (λ (x : ℕ). AreJoined k.prefix (slots k) c.args.u.var c.args.c x) (sym c.parent-parent.ensures ∙ same_Some c.parent-parent.result p e) (joined-up k.prefix (slots k) c.args.u F c.requires.right c.requires.block c.args.c l)
