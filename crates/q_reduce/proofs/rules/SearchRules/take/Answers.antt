use Rattle.std.proofs.Common.{◌≡◌, List, [], ◌∙◌, sym, subst, true≢false, rules}
use Rattle.q_logic.specs.Prelude.{IsIn}
use Rattle.q_kernel.specs.Prelude.{Seen}
use Rattle.q_reduce.specs.Forests.{ForestMap, AreForestsOf}
use Rattle.q_rule.proofs.RuleAnswers.{tries-no, tries-yes}
use Rattle.q_rule.proofs.RuleResults.{fits-view, taken}
use Rattle.q_reduce.specs.Targets.{target_of}
use Rattle.q_reduce.proofs.ReduceResults.{fits-applies}
use Rattle.q_reduce.proofs.RegionSeparation.{regions-view, regions-taken}
use Rattle.q_reduce.proofs.rules.SearchRules.take.Goals as goal

none : (k : Seen) (Fs : List ForestMap) → Fs ≡ [] → AreForestsOf k Fs
none k Fs e F m = absurd (subst (λ (Gs : List ForestMap). IsIn F Gs) e m)

pub returns-then-not-branch-clause-tries : goal.returns-then-not-branch-clause-tries
returns-then-not-branch-clause-tries c =
    let B = c.args.bounds.now in
    tries-no B c.args.kernel.now (target_of c.args.target.now) (λ a. true≢false (sym ((c.in_ok-fits.ensures.fits B).1 a.fits) ∙ c.if-not-branch.true)) (search rules)

pub take-requires : goal.take-requires
take-requires c = record {
  fits = λ B. fits-view B c.args.kernel.now c.reserve_log.new.kernel (target_of c.args.target.now) c.in_ok-reserve_log.ensures.view ((c.in_ok-fits.ensures.fits B).0 c.if-not-branch.false);
  limits = search rules;
  bytes = search rules;
}

pub returns-clause-tries : goal.returns-clause-tries
returns-clause-tries c =
    let B = c.args.bounds.now in
    let k = c.args.kernel.now in
    let a = fits-applies B k c.args.target.now c.requires.ready.limits ((c.in_ok-fits.ensures.fits B).0 c.if-not-branch.false) in
    tries-yes B k c.reserve_log.new.kernel c.take.new.kernel (target_of c.args.target.now) a c.in_ok-reserve_log.ensures.view c.take.ensures

pub returns-in_err-reserve_log-clause-fit : goal.returns-in_err-reserve_log-clause-fit
returns-in_err-reserve_log-clause-fit c =
    let fit = rw (← c.self.view_is) at c.fits.ensures.fit in
    record {
      regions = regions-view c.args.kernel.now c.reserve_log.new.kernel c.self.inside.recent c.reserve_log.ensures.view fit.regions;
      forests = none c.reserve_log.new.kernel _ c.forget.ensures;
    }

pub returns-clause-fit : goal.returns-clause-fit
returns-clause-fit c =
    let B = c.args.bounds.now in
    let k = c.args.kernel.now in
    let t = taken B k c.reserve_log.new.kernel c.take.new.kernel (target_of c.args.target.now) (fits-applies B k c.args.target.now c.requires.ready.limits ((c.in_ok-fits.ensures.fits B).0 c.if-not-branch.false)) c.in_ok-reserve_log.ensures.view c.take.ensures in
    let fit = rw (← c.self.view_is) at c.fits.ensures.fit in
    record {
      regions = regions-taken B k c.take.new.kernel c.self.inside.recent c.args.target.now t fit.regions;
      forests = none c.take.new.kernel _ c.forget.ensures;
    }
