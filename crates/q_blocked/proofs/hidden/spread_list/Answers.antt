use Rattle.std.proofs.Common.{Bool, false, List, ℕ, Contains, sym, subst}
use Rattle.q_kernel.specs.Prelude.{slots}
use Rattle.q_kernel.proofs.ForLoops.{all-came}
use Rattle.q_blocked.specs.Walks.{IsBeside, GivesNoneAt}
use Rattle.q_blocked.specs.Growths.{HasSpread}
use Rattle.q_blocked.proofs.PassedClauses.{passed-begun, passed-one, passed-map, passed-all}
use Rattle.q_blocked.proofs.SetGrowth.{pushed-none, pushed-on, pushed-gives_none, pushed-less}
use Rattle.q_blocked.proofs.hidden.spread_list.Goals as goal

pub loop-d-init : goal.loop-d-init
loop-d-init c =
    let k = c.args.kernel.now in
    let g = c.args.growth.now in
    record { growing = c.requires; pushed = pushed-none g; gives_none = passed-begun (slots k) c.args.c (λ D. GivesNoneAt g.set g.set D) }

pub loop-d-preserved : goal.loop-d-preserved
loop-d-preserved c =
    let N = slots c.args.kernel.now in
    let first = c.args.growth.now in
    let old = c.loop-d.growth in
    let new = c.take_hidden.new.growth in
    let d = c.in-Some.d in
    let r : HasSpread c.args.kernel.now c.args.c (IsBeside N c.args.c d) old new false = subst (λ (b : Bool). HasSpread c.args.kernel.now c.args.c (IsBeside N c.args.c d) old new b) c.if-branch.false c.in_ok-take_hidden.ensures in
    record {
      growing = r.0;
      pushed = pushed-on first old new c.loop-d.invariant.pushed r.1;
      gives_none = passed-one N c.args.c c.loop-d.yielded d (λ D. GivesNoneAt first.set new.set D) (λ D b. pushed-less first old new.set D c.loop-d.invariant.pushed (r.2 D b))
          (passed-map N c.args.c c.loop-d.yielded (λ D. GivesNoneAt first.set old.set D) (λ D. GivesNoneAt first.set new.set D) (λ D h. pushed-gives_none first old new D r.1 h) c.loop-d.invariant.gives_none);
    }

pub returns : goal.returns
returns c =
    let N = slots c.args.kernel.now in
    let came = all-came _ c.into_iter-d-iterator.ensures.into_iter_gives c.loop-d.yielded_by c.in-None.ensures.steps.0 in (
      c.loop-d.invariant.growing,
      c.loop-d.invariant.pushed,
      λ E m. passed-all N c.args.c c.args.k c.loop-d.yielded (λ D. GivesNoneAt c.args.growth.now.set c.loop-d.growth.set D) (λ d D e i. subst (λ (xs : List ℕ). Contains xs d) (sym came) (c.holders-d-items.ensures.all d (D, e, i))) c.loop-d.invariant.gives_none E m.0 m.1,
    )

pub returns-then-branch : goal.returns-then-branch
returns-then-branch c = subst (λ (b : Bool). HasSpread c.args.kernel.now c.args.c (IsBeside (slots c.args.kernel.now) c.args.c c.in-Some.d) c.loop-d.growth c.take_hidden.new.growth b) c.if-branch.true c.in_ok-take_hidden.ensures
