use Rattle.std.proofs.Common.{◌∙◌, sym, true≢false, rules}
use Rattle.q_rule.proofs.RuleAnswers.{tries-no, tries-yes}
use Rattle.q_rule.proofs.RuleResults.{fits-view}
use Rattle.q_subsume.specs.Targets.{target_of}
use Rattle.q_subsume.proofs.SubsumeResults.{fits-applies}
use Rattle.q_subsume.proofs.rules.SearchRules.take.Goals as goal

pub returns-then-not-fits-clause-tries : goal.returns-then-not-fits-clause-tries
returns-then-not-fits-clause-tries c =
    let B = c.args.bounds.now in
    tries-no B c.args.kernel.now (target_of c.args.target.now) (λ a. true≢false (sym ((c.fits.ensures B).1 a.fits) ∙ c.if-not-fits.true)) (search rules)

pub take-requires-clause-fits : goal.take-requires-clause-fits
take-requires-clause-fits c B = fits-view B c.args.kernel.now c.reserve_log.new.kernel (target_of c.args.target.now) c.in_ok-reserve_log.ensures.view ((c.fits.ensures B).0 c.if-not-fits.false)

pub returns-clause-tries : goal.returns-clause-tries
returns-clause-tries c =
    let B = c.args.bounds.now in
    let k = c.args.kernel.now in
    let a = fits-applies B k c.args.target.now c.requires.ready.limits ((c.fits.ensures B).0 c.if-not-fits.false) in
    tries-yes B k c.reserve_log.new.kernel c.take.new.kernel (target_of c.args.target.now) a c.in_ok-reserve_log.ensures.view c.take.ensures
