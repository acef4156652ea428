use Rattle.std.proofs.Common.{◌≡◌, ◌∙◌, ◌≤◌, sym, subst, None, Option, arith}
use Rattle.q_logic.specs.Prelude.{place}
use Rattle.q_logic.proofs.Common.{none_of}
use Rattle.q_rule.specs.Searching.{IsFound}
use Rattle.q_rule.proofs.RuleSearch.{found-more}
use Rattle.q_reduce.specs.Targets.{target_of}
use Rattle.q_reduce.specs.declared.target.Target.{Target}
use Rattle.q_reduce.specs.Searches.{IsBetween}
use Rattle.q_reduce.proofs.ReduceSearch.{found-behind}
use Rattle.q_reduce.proofs.find.find_from.Goals as goal

pub returns-then-is_some-clause-found : goal.returns-then-is_some-clause-found
returns-then-is_some-clause-found c = found-more target_of c.args.kernel.now (IsBetween c.args.from c.after_variables-end.result) (λ t. c.args.from ≤ place (target_of t)) c.in_ok-found.found (sym c.is_some.ensures ∙ c.if-is_some.true) (λ t q. q.order) c.in_ok-found.ensures.found

pub returns-clause-found : goal.returns-clause-found
returns-clause-found c =
    let k = c.args.kernel.now in
    let e : c.in_ok-found.found ≡ None = none_of c.in_ok-found.found (sym c.is_some.ensures ∙ c.if-is_some.false) in
    found-behind k c.args.from c.after_variables-end.result c.max.result c.in_ok-behind.behind (omega arith) (λ n l m. omega arith)
    (subst (λ (o : Option Target). IsFound target_of k (IsBetween c.args.from c.after_variables-end.result) o) e c.in_ok-found.ensures.found) c.in_ok-behind.ensures.found
