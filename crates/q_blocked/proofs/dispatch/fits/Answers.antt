use Rattle.std.proofs.Common.{◌↔◌, sym, subst, IsTrue}
use Rattle.q_logic.specs.Prelude.{Fits}
use Rattle.q_kernel.specs.Prelude.{slots}
use Rattle.q_blocked.specs.declared.target.Target.{Target}
use Rattle.q_blocked.specs.Targets.{target_of}
use Rattle.q_blocked.proofs.dispatch.fits.Goals as goal

pub returns-in_ok-yes-in-Blocked-clause-fits : goal.returns-in_ok-yes-in-Blocked-clause-fits
returns-in_ok-yes-in-Blocked-clause-fits c B =
    let k = c.args.kernel.now in
    subst (λ (t : Target). IsTrue c.in_ok-yes-in-Blocked.yes ↔ Fits B k.prefix (slots k) (target_of t)) (sym c.in-Blocked.is) (c.in_ok-yes-in-Blocked.ensures B)

pub returns-in_ok-yes-in-BlockedForall-clause-fits : goal.returns-in_ok-yes-in-BlockedForall-clause-fits
returns-in_ok-yes-in-BlockedForall-clause-fits c B =
    let k = c.args.kernel.now in
    subst (λ (t : Target). IsTrue c.in_ok-yes-in-BlockedForall.yes ↔ Fits B k.prefix (slots k) (target_of t)) (sym c.in-BlockedForall.is) (c.in_ok-yes-in-BlockedForall.ensures B)

pub returns-in_ok-yes-in-Cover-clause-fits : goal.returns-in_ok-yes-in-Cover-clause-fits
returns-in_ok-yes-in-Cover-clause-fits c B =
    let k = c.args.kernel.now in
    subst (λ (t : Target). IsTrue c.in_ok-yes-in-Cover.yes ↔ Fits B k.prefix (slots k) (target_of t)) (sym c.in-Cover.is) (c.in_ok-yes-in-Cover.ensures.fits B)
