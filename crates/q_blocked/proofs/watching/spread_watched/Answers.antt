use Rattle.std.proofs.Common.{◌≡◌, ◌≤◌, ◌∙◌, Bool, true, false, length, take, refl, sym, subst, arith}
use Rattle.q_logic.specs.Prelude.{Clause, IsIn, IsSubset}
use Rattle.q_logic.proofs.Common.{IsIn-take, slice_get-IsIn}
use Rattle.q_kernel.specs.Prelude.{slots}
use Rattle.q_watch.specs.Rows.{row_of}
use Rattle.q_watch.proofs.QuietClauses.{quiet-begun, quiet-ended}
use Rattle.q_blocked.specs.Walks.{IsBeside}
use Rattle.q_blocked.specs.Growths.{HasSpread}
use Rattle.q_blocked.proofs.SetGrowth.{pushed-none, pushed-on}
use Rattle.q_blocked.proofs.WatchedSets.{pushed-subset}
use Rattle.q_blocked.proofs.watching.spread_watched.Goals as goal

pub loop-i-init : goal.loop-i-init
loop-i-init c =
    let g = c.args.growth.now in
    record {
      growing = c.requires.growing;
      pushed = pushed-none g;
      right = c.requires.right;
      ready = refl;
      quiet = quiet-begun c.args.kernel.now c.args.watches.now c.args.c g.set (take g.worked g.set) c.args.k c.requires.right c.requires.quiet;
    }

pub visit-requires-clause-consistent : goal.visit-requires-clause-consistent
visit-requires-clause-consistent c = c.loop-i.invariant.growing.2.consistent

pub visit-requires-clause-there : goal.visit-requires-clause-there
visit-requires-clause-there c = pushed-subset c.args.growth.now c.loop-i.growth c.loop-i.invariant.pushed c.args.k (slice_get-IsIn c.args.growth.now.set c.args.growth.now.worked c.args.k c.requires.next)

pub visit-requires-clause-i : goal.visit-requires-clause-i
visit-requires-clause-i c = omega (arith, c.count.ensures, c.loop-i-test.true)

pub loop-i-preserved-in-Next : goal.loop-i-preserved-in-Next
loop-i-preserved-in-Next c =
    let first = c.args.growth.now in
    let v = c.loop-i.invariant in
    let sub : IsSubset (take first.worked first.set) c.loop-i.growth.set = λ j m. pushed-subset first c.loop-i.growth v.pushed j (IsIn-take first.set first.worked j m) in
    record {
      growing = v.growing;
      pushed = v.pushed;
      right = c.visit.ensures.right;
      ready = c.visit.ensures.ready ∙ v.ready;
      quiet = (rw c.in-Next.is at c.in_ok-visit.ensures.visited).0 (take first.worked first.set) sub v.quiet;
    }

pub loop-i-preserved-in-Again : goal.loop-i-preserved-in-Again
loop-i-preserved-in-Again c =
    let first = c.args.growth.now in
    let v = c.loop-i.invariant in
    let sub : IsSubset (take first.worked first.set) c.loop-i.growth.set = λ j m. pushed-subset first c.loop-i.growth v.pushed j (IsIn-take first.set first.worked j m) in
    record {
      growing = v.growing;
      pushed = v.pushed;
      right = c.visit.ensures.right;
      ready = c.visit.ensures.ready ∙ v.ready;
      quiet = (rw c.in-Again.is at c.in_ok-visit.ensures.visited).0 (take first.worked first.set) sub v.quiet;
    }

pub give-requires-clause-gives : goal.give-requires-clause-gives
give-requires-clause-gives c =
    let g = (rw c.in-Gives.is at c.in_ok-visit.ensures.visited).0 in
    (g.giver, (g.other, g.there), record { negated = g.negated; others_in = g.others_in; is_new = g.is_new })

pub loop-i-preserved : goal.loop-i-preserved
loop-i-preserved c =
    let k = c.args.kernel.now in
    let first = c.args.growth.now in
    let old = c.loop-i.growth in
    let new = c.give.new.growth in
    let v = c.loop-i.invariant in
    let w = rw c.in-Gives.is at c.in_ok-visit.ensures.visited in
    let Q = IsBeside (slots k) c.args.c c.in-Gives.gift.id in
    let r : HasSpread k c.args.c Q old new false = subst (λ (b : Bool). HasSpread k c.args.c Q old new b) c.if-branch.false c.in_ok-give-in-Gives.ensures in
    record {
      growing = r.0;
      pushed = pushed-on first old new v.pushed r.1;
      right = c.visit.ensures.right;
      ready = c.visit.ensures.ready ∙ v.ready;
      quiet = w.1 (take first.worked first.set) new.set (pushed-subset old new r.1) (r.2 w.0.giver (w.0.other, w.0.there) c.in-Gives.gift.lit w.0.negated w.0.others_in) v.quiet;
    }

pub returns-then-branch-clause-visited : goal.returns-then-branch-clause-visited
returns-then-branch-clause-visited c =
    let k = c.args.kernel.now in
    let Q = IsBeside (slots k) c.args.c c.in-Gives.gift.id in
    let r : HasSpread k c.args.c Q c.loop-i.growth c.give.new.growth true = subst (λ (b : Bool). HasSpread k c.args.c Q c.loop-i.growth c.give.new.growth b) c.if-branch.true c.in_ok-give-in-Gives.ensures in
    r

pub returns-clause-visited : goal.returns-clause-visited
returns-clause-visited c =
    let first = c.args.growth.now in
    let v = c.loop-i.invariant in
    let past : length (row_of c.loop-i.watches.rows c.args.k) ≤ c.loop-i.i = omega (arith, c.count.ensures, c.loop-i-test.false) in
    (v.growing, v.pushed, quiet-ended c.args.kernel.now c.loop-i.watches c.args.c c.loop-i.growth.set (take first.worked first.set) c.args.k c.loop-i.i past v.quiet)
