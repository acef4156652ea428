use Rattle.std.proofs.Common.{◌≡◌, ◌∙◌, sym, subst, true≢false, rules}
use Rattle.q_logic.specs.Prelude.{Target, merge}
use Rattle.q_kernel.specs.Prelude.{Applies}
use Rattle.q_kernel.specs.declared.taken.Taken.TheVariants.{Yes}
use Rattle.q_rule.specs.Searching.{Tries}
use Rattle.q_rule.proofs.RuleAnswers.{tries-no, tries-yes}
use Rattle.q_equiv.specs.Targets.{target_of}
use Rattle.q_equiv.proofs.LiteralPairs.{merge-target}
use Rattle.q_equiv.proofs.BridgeClauses.{merge-applies}
use Rattle.q_equiv.proofs.rules.SearchRules.take.Goals as goal

pub returns-then-not-branch-clause-tries : goal.returns-then-not-branch-clause-tries
returns-then-not-branch-clause-tries c =
    let B = c.args.bounds.now in
    let k = c.args.kernel.now in
    let e : merge c.keep-keep.result c.gone-gone.result ≡ target_of c.args.target.now = merge-target c.args.target.now c.keep-keep.result c.gone-gone.result c.keep-keep.ensures c.gone-gone.ensures in
    tries-no B k (target_of c.args.target.now) (λ a. true≢false (sym (c.in_ok-fits.ensures.1 (subst (λ (T : Target). Applies B k T) (sym e) a).fits) ∙ c.if-not-branch.true)) (search rules)

pub returns-clause-tries : goal.returns-clause-tries
returns-clause-tries c =
    let B = c.args.bounds.now in
    let k = c.args.kernel.now in
    let e : merge c.keep-keep.result c.gone-gone.result ≡ target_of c.args.target.now = merge-target c.args.target.now c.keep-keep.result c.gone-gone.result c.keep-keep.ensures c.gone-gone.ensures in
    let a = merge-applies B k c.keep-keep.result c.gone-gone.result c.requires.ready.limits (c.in_ok-fits.ensures.0 c.if-not-branch.false) in
    subst (λ (T : Target). Tries B k c.take.new.kernel T Yes) e (tries-yes B k c.reserve.new.kernel c.take.new.kernel (merge c.keep-keep.result c.gone-gone.result) a c.in_ok-reserve.ensures.view c.take.ensures)
