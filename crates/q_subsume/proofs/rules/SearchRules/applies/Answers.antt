use Rattle.q_subsume.proofs.SubsumeResults.{fits-applies}
use Rattle.q_subsume.proofs.rules.SearchRules.applies.Goals as goal

pub returns-clause-yes : goal.returns-clause-yes
returns-clause-yes c = (
  (λ yes. fits-applies c.args.bounds.now c.args.kernel.now c.args.target.now c.requires.ready.limits ((c.fits.ensures c.args.bounds.now).0 yes)),
  (λ a. (c.fits.ensures c.args.bounds.now).1 a.fits),
)
