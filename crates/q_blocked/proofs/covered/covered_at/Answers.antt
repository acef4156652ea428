use Rattle.std.proofs.Common.{◌++◌, ◌∷◌, [], List, ℕ, Contains, sym, subst}
use Rattle.q_kernel.specs.Prelude.{slots}
use Rattle.q_kernel.proofs.ForLoops.{holder-turn, all-came}
use Rattle.q_blocked.proofs.CoveredLiterals.{cut-begun, cut-more, cut-empty, cut-done}
use Rattle.q_blocked.proofs.covered.covered_at.Goals as goal

pub narrow-requires : goal.narrow-requires
narrow-requires c = rw c.negated.ensures at (holder-turn _ _ _ c.holders-d-items.ensures.hold c.into_iter-d-iterator.ensures.into_iter_gives c.loop-d.yielded_by c.in-Some.ensures.steps)

pub loop-d-init : goal.loop-d-init
loop-d-init c = cut-begun c.args.kernel.now.prefix (slots c.args.kernel.now) c.args.c c.args.l c.args.set.now c.args.found.now.items

pub loop-d-preserved : goal.loop-d-preserved
loop-d-preserved c =
    let k = c.args.kernel.now in
    cut-more k.prefix (slots k) c.args.c c.loop-d.yielded c.in-Some.d c.args.l c.args.set.now c.loop-d.met c.in_ok-met.met c.loop-d.found.items c.narrow.new.found.items c.in_ok-met.ensures c.loop-d.invariant

pub returns-then-is_bare : goal.returns-then-is_bare
returns-then-is_bare c =
    let k = c.args.kernel.now in
    cut-empty k.prefix (slots k) c.args.c (c.loop-d.yielded ++ c.in-Some.d ∷ []) c.args.l c.args.set.now c.in_ok-met.met c.narrow.new.found.items c.if-met.true
    (rw c.deref.ensures.value at (c.is_bare.ensures.none c.if-is_bare.true))
    (cut-more k.prefix (slots k) c.args.c c.loop-d.yielded c.in-Some.d c.args.l c.args.set.now c.loop-d.met c.in_ok-met.met c.loop-d.found.items c.narrow.new.found.items c.in_ok-met.ensures c.loop-d.invariant)

pub returns : goal.returns
returns c =
    let k = c.args.kernel.now in
    let came = all-came _ c.into_iter-d-iterator.ensures.into_iter_gives c.loop-d.yielded_by c.in-None.ensures.steps.0 in
    let has = rw c.negated.ensures at c.holders-d-items.ensures.all in
    cut-done k.prefix (slots k) c.args.c c.loop-d.yielded c.args.l c.args.set.now c.loop-d.met c.loop-d.found.items (λ d E e m. subst (λ (xs : List ℕ). Contains xs d) (sym came) (has d (E, e, m))) c.loop-d.invariant
