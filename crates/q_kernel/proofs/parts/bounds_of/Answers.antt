use Rattle.std.proofs.Common.{◌≡◌, ◌++◌, sym, ◌∙◌, subst}
use Rattle.q_logic.specs.Prelude.{Prefix}
use Rattle.q_kernel.proofs.PrefixWalks.{after-next, after-none}
use Rattle.q_kernel.proofs.parts.bounds_of.Goals as goal

pub after-at-requires : goal.after-at-requires
after-at-requires c =
    let i = c.loop-at.invariant in
    let n = after-next c.loop-at.bounds.items i.0 c.args.prefix.now.bounds c.in-Some.bound i.1 c.requires (sym c.in-Some.is ∙ i.2) in
    n.3

pub loop-at-preserved : goal.loop-at-preserved
loop-at-preserved c =
    let i = c.loop-at.invariant in
    let n = after-next c.loop-at.bounds.items i.0 c.args.prefix.now.bounds c.in-Some.bound i.1 c.requires (sym c.in-Some.is ∙ i.2) in
    (n.0, subst (λ (xs : Prefix). xs ++ n.0 ≡ c.args.prefix.now.bounds) (sym c.in_ok-push.ensures.items) n.1, c.after-at.ensures ∙ n.2)

pub returns : goal.returns
returns c = after-none c.loop-at.bounds.items c.loop-at.invariant.0 c.args.prefix.now.bounds c.loop-at.invariant.1 (sym c.in_default.is ∙ c.loop-at.invariant.2)
