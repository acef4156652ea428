use Rattle.std.proofs.Common.{◌↔◌, IfOk, IsTrue, sym, subst}
use Rattle.q_kernel.specs.Prelude.{Applies}
use Rattle.q_expand.proofs.rules.SearchRules.applies.Goals as goal

pub returns-clause-yes : goal.returns-clause-yes
returns-clause-yes c = subst (λ t. IfOk c.fits.result (λ b. IsTrue b ↔ Applies c.args.bounds.now c.args.kernel.now t)) (sym c.variable.ensures) c.fits.ensures.applies
