use Rattle.std.proofs.Common.{◌≡◌, ◌∙◌, sym, subst, None, Option, arith}
use Rattle.q_logic.proofs.Common.{none_of}
use Rattle.q_rule.specs.Searching.{IsFound, IsAt}
use Rattle.q_rule.proofs.RuleSearch.{passed-begun, passed-more, found-more}
use Rattle.q_reduce.specs.Targets.{target_of}
use Rattle.q_reduce.specs.declared.target.Target.{Target}
use Rattle.q_reduce.specs.Searches.{IsBetween}
use Rattle.q_reduce.proofs.ReduceSearch.{passed-between}
use Rattle.q_reduce.proofs.find.find_among_variables.Goals as goal

pub loop-place-init : goal.loop-place-init
loop-place-init c = record { passed = passed-begun target_of c.args.kernel.now c.args.from; fit = c.requires }

pub returns-then-is_some-clause-found : goal.returns-then-is_some-clause-found
returns-then-is_some-clause-found c = found-more target_of c.args.kernel.now (IsAt target_of c.loop-place.place) (IsBetween c.args.from c.args.end) c.in_ok-found.found (sym c.is_some.ensures ∙ c.if-is_some.true)
    (λ t z. record { order = (let y = c.loop-place.invariant.passed.order in omega arith); before = omega arith }) c.in_ok-found.ensures.found

pub loop-place-preserved : goal.loop-place-preserved
loop-place-preserved c =
    let k = c.args.kernel.now in
    let e : c.in_ok-found.found ≡ None = none_of c.in_ok-found.found (sym c.is_some.ensures ∙ c.if-is_some.false) in
    let h = subst (λ (o : Option Target). IsFound target_of k (IsAt target_of c.loop-place.place) o) e c.in_ok-found.ensures.found in
    record {
      passed = passed-more target_of k c.args.from c.loop-place.place c.loop-place.place (omega arith) (λ t l m. absurd (omega arith)) h c.loop-place.invariant.passed;
      fit = c.find_at.ensures.fit;
    }

pub returns-clause-found : goal.returns-clause-found
returns-clause-found c = passed-between c.args.kernel.now c.args.from c.args.end c.loop-place.place (omega arith) c.loop-place.invariant.passed
