use Rattle.std.proofs.Common.{ℕ, List, Contains, sym, subst}
use Rattle.q_logic.specs.Prelude.{Literal, negation, IsIn, live}
use Rattle.q_kernel.specs.Prelude.{slots, HoldsLiteral}
use Rattle.q_kernel.proofs.ForLoops.{holder-turn, all-came}
use Rattle.q_reduce.proofs.ReachWalks.{following-begun, following-more, following-visited, visited-not, stands-held}
use Rattle.q_reduce.proofs.reach.visit.Goals as goal

pub loop-d-init : goal.loop-d-init
loop-d-init c =
    let k = c.args.kernel.now in
    following-begun k.prefix c.args.u (slots k) (λ E. IsIn E (live (slots k)) × IsIn (negation c.args.lit) E) c.args.queue.now

pub follow-requires-clause-live : goal.follow-requires-clause-live
follow-requires-clause-live c = let h = holder-turn _ _ _ c.holders-d-items.ensures.hold c.into_iter-d-iterator.ensures.into_iter_gives c.loop-d.yielded_by c.in-Some.ensures.steps in (h.0, h.1)

pub returns-then-not-branch : goal.returns-then-not-branch
returns-then-not-branch c =
    let k = c.args.kernel.now in
    let h = holder-turn _ _ _ c.holders-d-items.ensures.hold c.into_iter-d-iterator.ensures.into_iter_gives c.loop-d.yielded_by c.in-Some.ensures.steps in
    let held : HoldsLiteral k c.in-Some.d (negation c.args.lit) = rw c.negated.ensures at h in
    let f = rw c.if-not-branch.true at c.in_ok-follow.ensures in
    visited-not k.prefix c.args.u (slots k) c.in-Some.d c.args.lit held.0 c.args.queue.now c.loop-d.queue c.follow.new.queue held.1 held.2 f

pub loop-d-preserved : goal.loop-d-preserved
loop-d-preserved c =
    let k = c.args.kernel.now in
    let h = holder-turn _ _ _ c.holders-d-items.ensures.hold c.into_iter-d-iterator.ensures.into_iter_gives c.loop-d.yielded_by c.in-Some.ensures.steps in
    let held : HoldsLiteral k c.in-Some.d (negation c.args.lit) = rw c.negated.ensures at h in
    let f = rw c.if-not-branch.false at c.in_ok-follow.ensures in
    following-more k.prefix c.args.u (slots k) (λ E. IsIn E (live (slots k)) × IsIn (negation c.args.lit) E) c.loop-d.yielded c.in-Some.d c.args.queue.now c.loop-d.queue c.follow.new.queue
    (λ E b. stands-held k.prefix c.args.u (slots k) c.in-Some.d (negation c.args.lit) held.0 E held.1 held.2 b) c.loop-d.invariant f

pub returns : goal.returns
returns c =
    let k = c.args.kernel.now in
    let came = all-came _ c.into_iter-d-iterator.ensures.into_iter_gives c.loop-d.yielded_by c.in-None.ensures.steps.0 in
    following-visited k.prefix c.args.u (slots k) c.args.lit c.loop-d.yielded c.args.queue.now c.loop-d.queue
    (λ d E e m. subst (λ (xs : List ℕ). Contains xs d) (sym came) (c.holders-d-items.ensures.all d (E, e, subst (λ (l : Literal). IsIn l E) (sym c.negated.ensures) m))) c.loop-d.invariant
