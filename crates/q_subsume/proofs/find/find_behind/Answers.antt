use Rattle.std.proofs.Common.{◌∙◌, ◌≤◌, Option, sym, subst, arith}
use Rattle.q_logic.proofs.Common.{none_of}
use Rattle.q_kernel.proofs.ForLoops.{live-turn, turn, each-came, All-more}
use Rattle.q_rule.specs.Searching.{IsFound}
use Rattle.q_rule.proofs.RuleSearch.{found-more}
use Rattle.q_subsume.specs.Targets.{target_of}
use Rattle.q_subsume.specs.declared.target.Target.{Target}
use Rattle.q_subsume.specs.Searches.{IsBy, IsBehind}
use Rattle.q_subsume.proofs.SubsumeSearch.{IsTried, tried-behind}
use Rattle.q_subsume.proofs.find.find_behind.Goals as goal

pub find_by-found-requires-clause-live : goal.find_by-found-requires-clause-live
find_by-found-requires-clause-live c = live-turn _ _ c.ids_from-c-items.ensures.live c.into_iter-c-iterator.ensures.into_iter_gives c.loop-c.yielded_by c.in-Some.ensures.steps

pub returns-then-is_some : goal.returns-then-is_some
returns-then-is_some c =
    let up = turn (λ d. c.args.start ≤ d) _ c.ids_from-c-items.ensures.above c.into_iter-c-iterator.ensures.into_iter_gives c.loop-c.yielded_by c.in-Some.ensures.steps in
    found-more target_of c.args.kernel.now (IsBy c.in-Some.c c.args.from) (IsBehind c.args.start c.args.from) c.find_by-found.result (sym c.is_some.ensures ∙ c.if-is_some.true)
    (λ t q. record { behind = (let e = q.inner in omega arith); order = q.order }) c.find_by-found.ensures

pub loop-c-preserved : goal.loop-c-preserved
loop-c-preserved c =
    let k = c.args.kernel.now in
    let none = subst (λ (o : Option Target). IsFound target_of k (IsBy c.in-Some.c c.args.from) o) (none_of c.find_by-found.result (sym c.is_some.ensures ∙ c.if-is_some.false)) c.find_by-found.ensures in
    All-more (IsTried k c.args.from) c.loop-c.yielded c.in-Some.c c.loop-c.invariant (record { none = none })

pub returns : goal.returns
returns c =
    tried-behind c.args.kernel.now c.args.start c.args.from (each-came _ _ _ (λ d p. c.ids_from-c-items.ensures.all d p.0 p.1) c.into_iter-c-iterator.ensures.into_iter_gives c.loop-c.yielded_by c.in-None.ensures.steps.0 c.loop-c.invariant)
