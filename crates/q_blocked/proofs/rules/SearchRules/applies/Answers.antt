use Rattle.q_rule.proofs.RuleAnswers.{applies-yes}
use Rattle.q_blocked.specs.Targets.{target_of}
use Rattle.q_blocked.proofs.BlockedResults.{fits-applies}
use Rattle.q_blocked.proofs.rules.SearchRules.applies.Goals as goal

pub returns-clause-yes : goal.returns-clause-yes
returns-clause-yes c =
    let B = c.args.bounds.now in
    let k = c.args.kernel.now in
    applies-yes B k (target_of c.args.target.now) c.fits.result (λ f. fits-applies B k c.args.target.now c.requires.ready.limits f) c.fits.ensures.fits
