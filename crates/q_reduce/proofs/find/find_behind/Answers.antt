use Rattle.std.proofs.Common.{◌≡◌, ◌∙◌, ◌≤◌, sym, subst, None, Option}
use Rattle.q_logic.specs.Prelude.{place}
use Rattle.q_logic.proofs.Common.{none_of}
use Rattle.q_kernel.proofs.ForLoops.{turn, each-came, All-more}
use Rattle.q_rule.specs.Searching.{IsFound}
use Rattle.q_rule.proofs.RuleSearch.{found-more}
use Rattle.q_reduce.specs.Targets.{target_of}
use Rattle.q_reduce.specs.declared.target.Target.{Target}
use Rattle.q_reduce.specs.Searches.{IsOfClause}
use Rattle.q_reduce.proofs.ReduceSearch.{IsTried, tried-behind, of-clause-place}
use Rattle.q_reduce.proofs.find.find_behind.Goals as goal

pub returns-then-is_some-clause-found : goal.returns-then-is_some-clause-found
returns-then-is_some-clause-found c =
    let up : c.args.start ≤ c.in-Some.c = turn (λ d. c.args.start ≤ d) _ c.ids_from-c-items.ensures.above c.into_iter-c-iterator.ensures.into_iter_gives c.loop-c.yielded_by c.in-Some.ensures.steps in
    found-more target_of c.args.kernel.now (IsOfClause c.in-Some.c) (λ t. c.args.start ≤ place (target_of t)) c.in_ok-found.found (sym c.is_some.ensures ∙ c.if-is_some.true)
    (λ t q. subst (λ n. c.args.start ≤ n) (sym (of-clause-place c.in-Some.c t q)) up) c.in_ok-found.ensures.found

pub loop-c-preserved : goal.loop-c-preserved
loop-c-preserved c =
    let k = c.args.kernel.now in
    let e : c.in_ok-found.found ≡ None = none_of c.in_ok-found.found (sym c.is_some.ensures ∙ c.if-is_some.false) in
    let none = subst (λ (o : Option Target). IsFound target_of k (IsOfClause c.in-Some.c) o) e c.in_ok-found.ensures.found in
    record {
      tried = All-more (IsTried k) c.loop-c.yielded c.in-Some.c c.loop-c.invariant.tried (record { none = none });
      fit = c.find_in.ensures.fit;
    }

pub returns-clause-found : goal.returns-clause-found
returns-clause-found c =
    let k = c.args.kernel.now in
    tried-behind k c.args.start c.requires.behind
    (each-came _ (IsTried k) _ (λ d p. c.ids_from-c-items.ensures.all d p.0 p.1) c.into_iter-c-iterator.ensures.into_iter_gives c.loop-c.yielded_by c.in-None.ensures.steps.0 c.loop-c.invariant.tried)
