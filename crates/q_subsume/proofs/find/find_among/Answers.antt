use Rattle.std.proofs.Common.{◌∙◌, sym}
use Rattle.q_logic.proofs.Common.{none_of}
use Rattle.q_kernel.proofs.ForLoops.{holder-turn, each-came, All-more}
use Rattle.q_subsume.proofs.SubsumeSearch.{IsSeen, seen-all, found-among}
use Rattle.q_subsume.proofs.find.find_among.Goals as goal

pub look-found-requires-clause-other : goal.look-found-requires-clause-other
look-found-requires-clause-other c = let h = holder-turn _ _ _ c.holders-d-items.ensures.hold c.into_iter-d-iterator.ensures.into_iter_gives c.loop-d.yielded_by c.in-Some.ensures.steps in (h.0, h.1)

pub returns-then-is_some : goal.returns-then-is_some
returns-then-is_some c =
    let h = holder-turn _ _ _ c.holders-d-items.ensures.hold c.into_iter-d-iterator.ensures.into_iter_gives c.loop-d.yielded_by c.in-Some.ensures.steps in
    found-among c.args.kernel.now c.args.c c.args.from c.in-Some.d c.args.lit c.look-found.result (sym c.is_some.ensures ∙ c.if-is_some.true) h c.look-found.ensures.some

pub loop-d-preserved : goal.loop-d-preserved
loop-d-preserved c =
    let none = c.look-found.ensures.none (none_of c.look-found.result (sym c.is_some.ensures ∙ c.if-is_some.false)) in
    All-more (IsSeen c.args.kernel.now c.args.c c.args.from) c.loop-d.yielded c.in-Some.d c.loop-d.invariant (record { none = none })

pub returns : goal.returns
returns c =
    seen-all c.args.kernel.now c.args.c c.args.from c.args.lit (each-came _ _ _ c.holders-d-items.ensures.all c.into_iter-d-iterator.ensures.into_iter_gives c.loop-d.yielded_by c.in-None.ensures.steps.0 c.loop-d.invariant)
