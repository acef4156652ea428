use Rattle.std.proofs.Common.{◌≡◌, subst}
use Rattle.q_logic.specs.declared.rule_bounds.Bounds.{Bounds}
use Rattle.q_logic.specs.Prelude.{Prefix, Slots, Fits}
use Rattle.q_kernel.specs.Prelude.{slots}
use Rattle.q_blocked.specs.declared.target.Target.{Target}
use Rattle.q_blocked.specs.declared.target.Target.TheVariants.{Blocked, BlockedForall}
use Rattle.q_blocked.specs.Targets.{target_of, HasPlan}
use Rattle.q_blocked.proofs.dispatch.make_change.Goals as goal

at : (P : Prefix) (N : Slots) (t u : Target) → t ≡ u → ((B : Bounds) → Fits B P N (target_of t)) → (B : Bounds) → Fits B P N (target_of u)
at P N t u e f B = subst (λ (x : Target). Fits B P N (target_of x)) e (f B)

pub take_blocked-requires-clause-fits : goal.take_blocked-requires-clause-fits
take_blocked-requires-clause-fits c =
    let k = c.args.kernel.now in
    at k.prefix (slots k) c.args.target.now (Blocked c.in-Blocked.c c.in-Blocked.l) c.in-Blocked.is c.requires.may.fits

pub take_blocked_forall-requires-clause-fits : goal.take_blocked_forall-requires-clause-fits
take_blocked_forall-requires-clause-fits c =
    let k = c.args.kernel.now in
    at k.prefix (slots k) c.args.target.now (BlockedForall c.in-BlockedForall.c c.in-BlockedForall.l) c.in-BlockedForall.is c.requires.may.fits

pub take_cover-requires-clause-plan : goal.take_cover-requires-clause-plan
take_cover-requires-clause-plan c =
    let k = c.args.kernel.now in
    subst (λ (t : Target). HasPlan k.prefix (slots k) t c.args.search.now.growth.plan) c.in-Cover.is c.requires.steps.plan
