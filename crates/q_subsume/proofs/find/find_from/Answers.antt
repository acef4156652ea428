use Rattle.std.proofs.Common.{◌≤◌, Some, Option, refl, subst}
use Rattle.q_logic.specs.Prelude.{place}
use Rattle.q_subsume.specs.declared.target.Target.{Target}
use Rattle.q_subsume.specs.Targets.{target_of}
use Rattle.q_subsume.specs.Searches.{IsBehind, IsBefore}
use Rattle.q_rule.specs.Searching.{IsFound}
use Rattle.q_rule.proofs.RuleSearch.{found-more}
use Rattle.q_subsume.proofs.find.find_from.Goals as goal

pub returns-in-Some : goal.returns-in-Some
returns-in-Some c =
    let k = c.args.kernel.now in
    let h = subst (λ (o : Option Target). IsFound target_of k (IsBehind c.start-start.result c.args.from) o) c.in-Some.is c.find_behind.ensures in
    found-more target_of k (IsBehind c.start-start.result c.args.from) (λ t. c.args.from ≤ place (target_of t)) (Some c.in-Some.target) refl (λ t q. q.order) h

pub returns : goal.returns
returns c =
    let k = c.args.kernel.now in
    found-more target_of k (IsBefore c.start-start.result c.args.from) (λ t. c.args.from ≤ place (target_of t)) (Some c.in-Some-find_before.target) refl (λ t q. q.order) c.in-Some-find_before.ensures
