use Rattle.std.proofs.Common.{◌≡◌, ◌∙◌, None, Option, sym, refl, subst, true≢false}
use Rattle.q_logic.proofs.Common.{none_of}
use Rattle.q_blocked.specs.Targets.{target_of}
use Rattle.q_blocked.specs.declared.target.Target.{Target}
use Rattle.q_blocked.specs.declared.target.Target.TheVariants.{Cover}
use Rattle.q_rule.specs.Searching.{IsFound, IsAt}
use Rattle.q_blocked.specs.Searches.{IsPivotOf}
use Rattle.q_rule.proofs.RuleSearch.{found-one}
use Rattle.q_blocked.proofs.BlockedSearch.{found-of, found-neither}
use Rattle.q_blocked.proofs.find.find_at.Goals as goal

pub returns-then-is_some-clause-found : goal.returns-then-is_some-clause-found
returns-then-is_some-clause-found c = found-of c.args.kernel.now c.args.c c.in_ok-found.found (sym c.is_some.ensures ∙ c.if-is_some.true) c.in_ok-found.ensures

pub returns-then-branch-clause-found : goal.returns-then-branch-clause-found
returns-then-branch-clause-found c = found-one target_of c.args.kernel.now (IsAt target_of c.args.c) (Cover c.args.c) refl (λ B. (c.in_ok-fits_cover.ensures.fits B).0 c.if-branch.true)

pub returns-clause-found : goal.returns-clause-found
returns-clause-found c =
    let k = c.args.kernel.now in
    let e : c.in_ok-found.found ≡ None = none_of c.in_ok-found.found (sym c.is_some.ensures ∙ c.if-is_some.false) in
    found-neither k c.args.c (subst (λ (o : Option Target). IsFound target_of k (IsPivotOf c.args.c) o) e c.in_ok-found.ensures)
    (λ B f. true≢false (sym ((c.in_ok-fits_cover.ensures.fits B).1 f) ∙ c.if-branch.false))
