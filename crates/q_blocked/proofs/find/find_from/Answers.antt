use Rattle.std.proofs.Common.{◌≤◌, ◌∙◌, Option, sym, subst, arith, true≢false}
use Rattle.q_logic.specs.Prelude.{place}
use Rattle.q_logic.proofs.Common.{none_of}
use Rattle.q_kernel.proofs.ForLoops.{live-turn, turn, each-came, All-more}
use Rattle.q_rule.specs.Searching.{IsFound, IsAt}
use Rattle.q_rule.proofs.RuleSearch.{found-more}
use Rattle.q_blocked.specs.declared.target.Target.{Target}
use Rattle.q_blocked.specs.Targets.{target_of}
use Rattle.q_blocked.proofs.BlockedSearch.{IsTried, tried-all}
use Rattle.q_blocked.proofs.ApartNotes.{apart-none}
use Rattle.q_blocked.proofs.find.find_from.Goals as goal

pub find_at-requires-clause-live : goal.find_at-requires-clause-live
find_at-requires-clause-live c = live-turn _ _ c.ids_from-c-items.ensures.live c.into_iter-c-iterator.ensures.into_iter_gives c.loop-c.yielded_by c.in-Some.ensures.steps

pub loop-c-init : goal.loop-c-init
loop-c-init c = record { tried = λ i e b. absurd (omega arith); units = λ e. absurd (true≢false (sym e ∙ c.forget.ensures)); watches = c.forget-2.ensures c.args.kernel.now; apart = apart-none c.args.kernel.now c.forget-3.new.self c.forget-3.ensures }

pub returns-then-is_some : goal.returns-then-is_some
returns-then-is_some c =
    let up = turn (λ d. c.args.from ≤ d) _ c.ids_from-c-items.ensures.above c.into_iter-c-iterator.ensures.into_iter_gives c.loop-c.yielded_by c.in-Some.ensures.steps in
    found-more target_of c.args.kernel.now (IsAt target_of c.in-Some.c) (λ t. c.args.from ≤ place (target_of t)) c.in_ok-found.found (sym c.is_some.ensures ∙ c.if-is_some.true) (λ t q. let e = q in omega arith) c.in_ok-found.ensures.found

pub loop-c-preserved : goal.loop-c-preserved
loop-c-preserved c =
    let k = c.args.kernel.now in
    let none = subst (λ (o : Option Target). IsFound target_of k (IsAt target_of c.in-Some.c) o) (none_of c.in_ok-found.found (sym c.is_some.ensures ∙ c.if-is_some.false)) c.in_ok-found.ensures.found in
    record {
      tried = All-more (IsTried k) c.loop-c.yielded c.in-Some.c c.loop-c.invariant.tried (record { none = none });
      units = c.in_ok-found.ensures.units;
      watches = c.in_ok-found.ensures.watches;
      apart = c.in_ok-found.ensures.apart;
    }

pub returns : goal.returns
returns c =
    tried-all c.args.kernel.now c.args.from (each-came _ _ _ (λ d p. c.ids_from-c-items.ensures.all d p.0 p.1) c.into_iter-c-iterator.ensures.into_iter_gives c.loop-c.yielded_by c.in-None.ensures.steps.0 c.loop-c.invariant.tried)
