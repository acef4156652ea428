use Rattle.std.proofs.Common.{◌≡◌, ◌+◌, ◌-◌, ◌<◌, sym, ◌∙◌, ap, subst, arith, ℕ, true≢false, List, ◌∷◌, length, drop, length-drop, get_or}
use Rattle.q_logic.specs.declared.formulas.Quant.TheVariants.{Exists}
use Rattle.q_logic.specs.declared.formulas.Bound.{Bound}
use Rattle.q_logic.specs.Prelude.{is_bound, Distinct}
use Rattle.q_arena.specs.Prelude.{list_at}
use Rattle.q_prefix.specs.declared.marks.Mark.{Mark}
use Rattle.q_prefix.specs.Order.{rank_of, bounds_of, IsRankBefore, IsFirstRank}
use Rattle.q_prefix.proofs.ListedBounds.{bound-has}
use Rattle.q_prefix.proofs.FilledPrefix.{drop-at, get-here, distinct-drop, first-low, before-of}
use Rattle.q_prefix.proofs.blocks.fill.Goals as goal

abbrev no_bound : Bound
no_bound = record { quant = Exists; var = 0 }

-- The place of the bound that comes next, where so many have been put in.
abbrev place : List Bound → ℕ → ℕ
place B done = length B - 1 - done

module _ (B : List Bound) (done : ℕ) (h : done < length B) where
  within : place B done < length B
  within = omega arith

  behind : length B - done ≡ place B done + 1
  behind = omega arith

  rank-behind : (marks : List Mark) (r : ℕ) → IsFirstRank (rank_of marks) r (length B - done) (drop (length B - done) B) → IsFirstRank (rank_of marks) r (place B done + 1) (drop (place B done + 1) B)
  rank-behind marks r = subst (λ (k : ℕ). IsFirstRank (rank_of marks) r k (drop k B)) behind

  bounds-behind : (marks : List Mark) (vars : List ℕ) → bounds_of marks vars ≡ drop (length B - done) B → bounds_of marks vars ≡ drop (place B done + 1) B
  bounds-behind marks vars e = e ∙ ap (λ (k : ℕ). drop k B) behind

pub rank_before-rank-requires-clause-above : goal.rank_before-rank-requires-clause-above
rank_before-rank-requires-clause-above c = λ h.
    let l = c.loop-done in
    let B = c.args.bounds.now in
    let next = place B l.done + 1 in
    let some : 0 < length (drop next B) = (let e = length-drop next B in omega (arith, e, h)) in
    first-low (rank_of l.marks.items) l.rank next (drop next B) some (rank-behind B l.done c.loop-done-test.true l.marks.items l.rank l.invariant.rank)

pub push-requires-clause-absent : goal.push-requires-clause-absent
push-requires-clause-absent c = λ h.
    let l = c.loop-done in
    let B = c.args.bounds.now in
    let b : Bound = get_or B (place B l.done) no_bound in
    let vars = list_at l.order 0 in
    let bounds = bounds-behind B l.done c.loop-done-test.true l.marks.items vars l.invariant.bounds in
    let here = ap (λ (p : List Bound). is_bound p b.var) (sym bounds) ∙ bound-has l.marks.items vars b.var h in
    let distinct = subst Distinct (drop-at B (place B l.done) no_bound (within B l.done c.loop-done-test.true)) (distinct-drop B (place B l.done) c.requires.distinct) in
    true≢false (sym here ∙ distinct.0)

pub push-requires-clause-reserved : goal.push-requires-clause-reserved
push-requires-clause-reserved c =
    let B = c.args.bounds.now in
    let at' = place B c.loop-done.done in
    let r = c.requires.reserved at' (get_or B at' no_bound) (get-here B at' no_bound (within B c.loop-done.done c.loop-done-test.true)) in
    omega (arith, r, c.loop-done.invariant.len)

pub push-requires-clause-before : goal.push-requires-clause-before
push-requires-clause-before c =
    let l = c.loop-done in
    let B = c.args.bounds.now in
    let b : Bound = get_or B (place B l.done) no_bound in
    let lt = c.loop-done-test.true in
    let bounds = bounds-behind B l.done lt l.marks.items (list_at l.order 0) l.invariant.bounds in
    subst (IsRankBefore (rank_of l.marks.items) b c.rank_before-rank.result) (sym bounds)
    (before-of (rank_of l.marks.items) B (place B l.done) b l.rank c.rank_before-rank.result (get-here B (place B l.done) no_bound (within B l.done lt))
    (rank-behind B l.done lt l.marks.items l.rank l.invariant.rank) c.rank_before-rank.ensures.same c.rank_before-rank.ensures.other)

pub loop-done-preserved : goal.loop-done-preserved
loop-done-preserved c =
    let l = c.loop-done in
    let B = c.args.bounds.now in
    let at' : ℕ = place B l.done in
    let b : Bound = get_or B at' no_bound in
    let bounds = bounds-behind B l.done c.loop-done-test.true l.marks.items (list_at l.order 0) l.invariant.bounds in
    let step : length B - (l.done + 1) ≡ at' = omega (arith, c.loop-done-test.true) in
    let all : drop at' B ≡ b ∷ drop (at' + 1) B = drop-at B at' no_bound (within B l.done c.loop-done-test.true) in
    record {
      prefix = c.push.ensures.prefix;
      bounds = c.push.ensures.bounds ∙ ap (λ (p : List Bound). b ∷ p) bounds ∙ sym all ∙ ap (λ (k : ℕ). drop k B) (sym step);
      len = c.push.ensures.len ∙ l.invariant.len;
      rank = subst (λ (k : ℕ). IsFirstRank (rank_of c.push.new.marks.items) c.rank_before-rank.result k (drop k B)) (sym step)
          (subst (IsFirstRank (rank_of c.push.new.marks.items) c.rank_before-rank.result at') (sym all) (c.push.ensures.rank, c.rank_before-rank.ensures.low));
    }
