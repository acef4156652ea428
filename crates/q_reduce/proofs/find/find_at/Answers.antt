use Rattle.std.proofs.Common.{◌≡◌, ◌∙◌, sym, subst, None, Option}
use Rattle.q_logic.proofs.Common.{none_of}
use Rattle.q_reduce.specs.Targets.{target_of}
use Rattle.q_reduce.specs.declared.target.Target.{Target}
use Rattle.q_rule.specs.Searching.{IsFound}
use Rattle.q_reduce.specs.Searches.{IsOfClause}
use Rattle.q_reduce.proofs.ReduceSearch.{found-at, found-clause}
use Rattle.q_reduce.proofs.find.find_at.Goals as goal

pub returns-then-is_some-clause-found : goal.returns-then-is_some-clause-found
returns-then-is_some-clause-found c = found-clause c.args.kernel.now c.args.place c.in_ok-found.found (sym c.is_some.ensures ∙ c.if-is_some.true) c.in_ok-found.ensures.found

pub returns-clause-found : goal.returns-clause-found
returns-clause-found c =
    let e : c.in_ok-found.found ≡ None = none_of c.in_ok-found.found (sym c.is_some.ensures ∙ c.if-is_some.false) in
    found-at c.args.kernel.now c.args.place c.in_ok-pure.pure (subst (λ (o : Option Target). IsFound target_of c.args.kernel.now (IsOfClause c.args.place) o) e c.in_ok-found.ensures.found) c.in_ok-pure.ensures.found
