use Rattle.std.proofs.Common.{◌↔◌, IsTrue, sym, subst}
use Rattle.q_logic.specs.Prelude.{Fits}
use Rattle.q_kernel.specs.Prelude.{slots}
use Rattle.q_subsume.specs.declared.target.Target.{Target}
use Rattle.q_subsume.specs.Targets.{target_of}
use Rattle.q_subsume.proofs.dispatch.fits.Goals as goal

pub returns-in-Subsumed : goal.returns-in-Subsumed
returns-in-Subsumed c B = subst (λ (t : Target). IsTrue c.fits.result ↔ Fits B c.args.kernel.now.prefix (slots c.args.kernel.now) (target_of t)) (sym c.in-Subsumed.is) (c.fits.ensures B)

pub returns-in-Strengthen : goal.returns-in-Strengthen
returns-in-Strengthen c B = subst (λ (t : Target). IsTrue c.fits-in-Strengthen.result ↔ Fits B c.args.kernel.now.prefix (slots c.args.kernel.now) (target_of t)) (sym c.in-Strengthen.is) (c.fits-in-Strengthen.ensures B)
