use Rattle.std.proofs.Common.{◌∙◌, sym, true≢false, rules}
use Rattle.q_rule.proofs.RuleAnswers.{tries-no, tries-yes}
use Rattle.q_rule.proofs.RuleResults.{fits-view}
use Rattle.q_blocked.specs.Targets.{target_of}
use Rattle.q_blocked.proofs.BlockedResults.{fits-applies, plan-view}
use Rattle.q_blocked.proofs.rules.SearchRules.take.Goals as goal

pub returns-then-not-branch-clause-tries : goal.returns-then-not-branch-clause-tries
returns-then-not-branch-clause-tries c =
    let B = c.args.bounds.now in
    tries-no B c.args.kernel.now (target_of c.args.target.now) (λ a. true≢false (sym ((c.in_ok-fits.ensures.fits B).1 a.fits) ∙ c.if-not-branch.true)) (search rules)

pub take-requires : goal.take-requires
take-requires c = record {
  may = record {
    fits = λ B. fits-view B c.args.kernel.now c.reserve.new.kernel (target_of c.args.target.now) c.in_ok-reserve.ensures.view ((c.in_ok-fits.ensures.fits B).0 c.if-not-branch.false);
    limits = search rules;
    bytes = search rules;
  };
  steps = record {
    plan = plan-view c.args.kernel.now c.reserve.new.kernel c.args.target.now c.fits.new.search.growth.plan c.in_ok-reserve.ensures.view (c.in_ok-fits.ensures.plan c.if-not-branch.false);
    room = search rules;
    capacity = search rules;
  };
}

pub returns-clause-tries : goal.returns-clause-tries
returns-clause-tries c =
    let B = c.args.bounds.now in
    let k = c.args.kernel.now in
    let a = fits-applies B k c.args.target.now c.requires.ready.limits ((c.in_ok-fits.ensures.fits B).0 c.if-not-branch.false) in
    tries-yes B k c.reserve.new.kernel c.take.new.kernel (target_of c.args.target.now) a c.in_ok-reserve.ensures.view c.take.ensures
