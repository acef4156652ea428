use Rattle.std.proofs.Common.{subst}
use Rattle.q_logic.specs.Prelude.{Fits}
use Rattle.q_kernel.specs.Prelude.{slots}
use Rattle.q_subsume.specs.declared.target.Target.{Target}
use Rattle.q_subsume.specs.Targets.{target_of}
use Rattle.q_subsume.proofs.dispatch.make_change.Goals as goal

pub take-requires-clause-fits : goal.take-requires-clause-fits
take-requires-clause-fits c B = subst (λ (t : Target). Fits B c.args.kernel.now.prefix (slots c.args.kernel.now) (target_of t)) c.in-Subsumed.is (c.requires.fits B)

pub take-requires-in-Strengthen-clause-fits : goal.take-requires-in-Strengthen-clause-fits
take-requires-in-Strengthen-clause-fits c B = subst (λ (t : Target). Fits B c.args.kernel.now.prefix (slots c.args.kernel.now) (target_of t)) c.in-Strengthen.is (c.requires.fits B)
