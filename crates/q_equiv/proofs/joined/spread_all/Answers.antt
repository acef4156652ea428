use Rattle.std.proofs.Common.{[], List, ℕ, sym, ◌∙◌, subst}
use Rattle.q_logic.specs.Prelude.{negation}
use Rattle.q_kernel.specs.Prelude.{slots, HoldsLiteral}
use Rattle.q_kernel.proofs.ForLoops.{holder-turn, all-came}
use Rattle.q_equiv.proofs.BinaryWalks.{IsSpreading, spreading-begun, spreading-more, spreading-done}
use Rattle.q_equiv.proofs.joined.spread_all.Goals as goal

pub go_on-requires : goal.go_on-requires
go_on-requires c = rw c.negated.ensures at (holder-turn _ _ _ c.holders-id-items.ensures.hold c.into_iter-id-iterator.ensures.into_iter_gives c.loop-id.yielded_by c.in-Some.ensures.steps)

pub loop-id-init : goal.loop-id-init
loop-id-init c = spreading-begun [] (slots c.args.kernel.now) c.args.lit c.args.queue.now

pub loop-id-preserved : goal.loop-id-preserved
loop-id-preserved c =
    let k = c.args.kernel.now in
    let held : HoldsLiteral k c.in-Some.id (negation c.args.lit) = rw c.negated.ensures at (holder-turn _ _ _ c.holders-id-items.ensures.hold c.into_iter-id-iterator.ensures.into_iter_gives c.loop-id.yielded_by c.in-Some.ensures.steps) in
    spreading-more [] (slots k) c.args.lit c.loop-id.yielded c.in-Some.id held.0 c.args.queue.now c.loop-id.queue c.go_on.new.queue held.1 c.loop-id.invariant (c.in_ok-go_on.ensures held.0 held.1)

pub returns : goal.returns
returns c =
    let k = c.args.kernel.now in
    let came = all-came _ c.into_iter-id-iterator.ensures.into_iter_gives c.loop-id.yielded_by c.in-None.ensures.steps.0 in
    spreading-done [] (slots k) c.args.lit c.holders-id-items.result c.args.queue.now c.loop-id.queue (rw c.negated.ensures at c.holders-id-items.ensures.all)
    (subst (λ (ids : List ℕ). IsSpreading [] (slots k) c.args.lit ids c.args.queue.now c.loop-id.queue) came c.loop-id.invariant)
