use Rattle.std.proofs.Common.{◌≡◌, ◌≤◌, ℕ, List, length, ap, subst, arith}
use Rattle.q_logic.specs.Prelude.{slot, live, with_literal}
use Rattle.q_logic.proofs.Common.{weight, weight-length}
use Rattle.q_kernel.specs.Prelude.{slots, HoldsLiteral}
use Rattle.q_kernel.proofs.ForLoops.{holder-turn, all-came}
use Rattle.q_equiv.proofs.ClauseNumbers.{weight_at, total_at, total_at-more, weight-listed}
use Rattle.q_equiv.proofs.room.weigh.Goals as goal

pub lits-requires : goal.lits-requires
lits-requires c = let h : HoldsLiteral c.args.kernel.now c.in-Some.id c.args.lit = holder-turn _ _ _ c.holders-id-items.ensures.hold c.into_iter-id-iterator.ensures.into_iter_gives c.loop-id.yielded_by c.in-Some.ensures.steps in (h.0, h.1)

pub loop-id-preserved : goal.loop-id-preserved
loop-id-preserved c =
    let N = slots c.args.kernel.now in
    let m = total_at-more length N c.loop-id.yielded c.in-Some.id in
    let e : weight_at length (slot N c.in-Some.id) ≡ length c.lits.result.now = ap (weight_at length) c.lits.ensures.clause in
    let w : total_at length N c.loop-id.yielded ≤ c.loop-id.words = c.loop-id.invariant in
    omega (arith, c.in_ok-words.ensures)

pub returns : goal.returns
returns c =
    let k = c.args.kernel.now in
    let came = all-came _ c.into_iter-id-iterator.ensures.into_iter_gives c.loop-id.yielded_by c.in-None.ensures.steps.0 in
    let w : total_at length (slots k) c.holders-id-items.result ≤ c.loop-id.words = subst (λ (ds : List ℕ). total_at length (slots k) ds ≤ c.loop-id.words) came c.loop-id.invariant in
    let b : weight length (with_literal c.args.lit (live (slots k))) ≤ total_at length (slots k) c.holders-id-items.result = weight-listed length c.args.lit (slots k) c.holders-id-items.result c.holders-id-items.ensures.all in
    let l = weight-length (with_literal c.args.lit (live (slots k))) in
    omega arith
