use Rattle.std.proofs.Common.{◌≡◌, ◌≤◌, ◌+◌, ◌∙◌, ℕ, List, length, inl, inr, refl, sym, arith, true≢false}
use Rattle.q_logic.specs.Prelude.{Literal, negation, size_of, resolve_all, clauses_at}
use Rattle.q_kernel.specs.Prelude.{Seen, slots, IsSound}
use Rattle.q_eliminate.specs.Gains.{no_gain}
use Rattle.q_eliminate.specs.Sides.{AreIdsOf}
use Rattle.q_eliminate.proofs.GainCounts.{gain-none}
use Rattle.q_eliminate.proofs.VariableClauses.{live-ids, plain-side, ids-small, gain-told, gain-passed, planned, unplanned}
use Rattle.q_eliminate.proofs.plan.plan_on.Goals as goal

pub weight-requires-clause-live : goal.weight-requires-clause-live
weight-requires-clause-live c = live-ids c.args.kernel.now c.args.lit c.args.ids.now c.requires.ids

pub weight-requires-clause-small : goal.weight-requires-clause-small
weight-requires-clause-small c = let s = (ids-small c.args.kernel.now c.args.lit c.args.ids.now c.requires.ids).0 in let z = c.sound.ensures.size in omega arith

pub weight-requires-2-clause-live : goal.weight-requires-2-clause-live
weight-requires-2-clause-live c = live-ids c.args.kernel.now (negation c.args.lit) c.args.others.now c.requires.others

pub weight-requires-2-clause-small : goal.weight-requires-2-clause-small
weight-requires-2-clause-small c = let s = (ids-small c.args.kernel.now (negation c.args.lit) c.args.others.now c.requires.others).0 in let z = c.sound.ensures.size in omega arith

-- the ids of both sides and what their clauses weigh
record AreCounted (ids others : List ℕ) (x y : ℕ) : Type 0 where
  one : length ids ≤ 8589934592
  other : length others ≤ 8589934592
  first : x ≤ 8589934592
  second : y ≤ 8589934592

counted : (k : Seen) (l : Literal) (ids others : List ℕ) (x y : ℕ) → IsSound k → AreIdsOf k l ids → AreIdsOf k (negation l) others → x ≡ size_of (clauses_at (slots k) ids) → y ≡ size_of (clauses_at (slots k) others) → AreCounted ids others x y
counted k l ids others x y s a b e f =
    let p = ids-small k l ids a in
    let q = ids-small k (negation l) others b in
    let p0 = p.0 in let p1 = p.1 in let q0 = q.0 in let q1 = q.1 in
    let z = s.size in
    record { one = omega arith; other = omega arith; first = omega arith; second = omega arith }

pub overflow_add-size : goal.overflow_add-size
overflow_add-size c =
    let n = counted c.args.kernel.now c.args.lit c.args.ids.now c.args.others.now c.weight.result c.weight-2.result c.sound.ensures c.requires.ids c.requires.others c.weight.ensures c.weight-2.ensures in
    let g = c.args.bounds.now.small_grow in
    omega arith

pub overflow_add-bound : goal.overflow_add-bound
overflow_add-bound c =
    let n = counted c.args.kernel.now c.args.lit c.args.ids.now c.args.others.now c.weight.result c.weight-2.result c.sound.ensures c.requires.ids c.requires.others c.weight.ensures c.weight-2.ensures in
    let g = c.args.bounds.now.small_grow in
    omega arith

pub gain_of-requires-clause-small : goal.gain_of-requires-clause-small
gain_of-requires-clause-small c =
    let n = counted c.args.kernel.now c.args.lit c.args.ids.now c.args.others.now c.weight.result c.weight-2.result c.sound.ensures c.requires.ids c.requires.others c.weight.ensures c.weight-2.ensures in
    let g = c.args.bounds.now.small_grow in
    omega arith

pub keeps_limits-requires-clause-count : goal.keeps_limits-requires-clause-count
keeps_limits-requires-clause-count c =
    let n = counted c.args.kernel.now c.args.lit c.args.ids.now c.args.others.now c.weight.result c.weight-2.result c.sound.ensures c.requires.ids c.requires.others c.weight.ensures c.weight-2.ensures in
    let g = c.args.bounds.now.small_grow in
    omega arith

pub keeps_limits-requires-clause-size : goal.keeps_limits-requires-clause-size
keeps_limits-requires-clause-size c =
    let n = counted c.args.kernel.now c.args.lit c.args.ids.now c.args.others.now c.weight.result c.weight-2.result c.sound.ensures c.requires.ids c.requires.others c.weight.ensures c.weight-2.ensures in
    let g = c.args.bounds.now.small_grow in
    omega arith

pub gain_of-requires-clause-live : goal.gain_of-requires-clause-live
gain_of-requires-clause-live c =
    live-ids c.args.kernel.now c.args.lit c.args.ids.now c.requires.ids

pub gain_of-requires-clause-others : goal.gain_of-requires-clause-others
gain_of-requires-clause-others c =
    live-ids c.args.kernel.now (negation c.args.lit) c.args.others.now c.requires.others

pub gain_of-requires-clause-plain : goal.gain_of-requires-clause-plain
gain_of-requires-clause-plain c =
    let s = c.in-Some.ensures.split c.in-Some.outer refl in
    plain-side c.args.kernel.now c.args.lit c.args.ids.now c.requires.ids (λ D m n. s.no_tautology D m (inl n))

pub gain_of-requires-clause-plain_others : goal.gain_of-requires-clause-plain_others
gain_of-requires-clause-plain_others c =
    let s = c.in-Some.ensures.split c.in-Some.outer refl in
    plain-side c.args.kernel.now (negation c.args.lit) c.args.others.now c.requires.others (λ D m n. s.no_tautology D m (inr n))

pub keeps_limits-requires-clause-gain : goal.keeps_limits-requires-clause-gain
keeps_limits-requires-clause-gain c =
    let n = counted c.args.kernel.now c.args.lit c.args.ids.now c.args.others.now c.weight.result c.weight-2.result c.sound.ensures c.requires.ids c.requires.others c.weight.ensures c.weight-2.ensures in
    let g = c.args.bounds.now.small_grow in
    let i = rw c.in-Some-2.is at c.in_ok-gain.ensures in
    let r = (gain-told c.args.kernel.now c.args.lit c.args.ids.now c.args.others.now c.requires.ids c.requires.others (c.weight.result + c.weight-2.result + c.args.bounds.now.grow) c.in-Some-2.gain i).2 in
    omega arith

pub returns-in_default-2-clause-none : goal.returns-in_default-2-clause-none
returns-in_default-2-clause-none c f m =
    let k = c.args.kernel.now in
    let grow = c.args.bounds.now.grow in
    let bound = c.weight.result + c.weight-2.result + grow in
    let e : bound ≡ size_of (clauses_at (slots k) c.args.ids.now) + size_of (clauses_at (slots k) c.args.others.now) + grow = (λ j. c.weight.ensures j + c.weight-2.ensures j + grow) in
    let i = rw c.in_default-2.is at c.in_ok-gain.ensures in
    gain-passed k c.args.lit c.args.ids.now c.args.others.now c.requires.ids c.requires.others bound grow e i m.small

pub returns-then-keeps_limits-clause-some : goal.returns-then-keeps_limits-clause-some
returns-then-keeps_limits-clause-some c p q =
    let i = rw c.in-Some-2.is at c.in_ok-gain.ensures in
    planned c.args.kernel.now c.args.lit c.args.ids.now c.args.others.now c.requires.ids c.requires.others c.args.bounds.now.grow (c.weight.result + c.weight-2.result) c.in-Some.outer c.in-Some-2.gain (λ j. c.weight.ensures j + c.weight-2.ensures j) c.requires.limits
    (c.in-Some.ensures.split c.in-Some.outer refl) (c.in-Some.ensures.sign c.in-Some.outer refl) i (c.keeps_limits.ensures.0 c.if-keeps_limits.true) p q

pub returns-else-keeps_limits-clause-none : goal.returns-else-keeps_limits-clause-none
returns-else-keeps_limits-clause-none c f m =
    let i = rw c.in-Some-2.is at c.in_ok-gain.ensures in
    true≢false (sym (c.keeps_limits.ensures.1 (unplanned c.args.kernel.now c.args.lit c.args.ids.now c.args.others.now c.requires.ids c.requires.others c.args.bounds.now.grow (c.weight.result + c.weight-2.result) c.in-Some-2.gain (λ j. c.weight.ensures j + c.weight-2.ensures j) i m)) ∙ c.if-keeps_limits.false)

pub pass_early-requires-clause-live : goal.pass_early-requires-clause-live
pass_early-requires-clause-live c = live-ids c.args.kernel.now c.args.lit c.args.ids.now c.requires.ids

pub pass_early-requires-clause-others : goal.pass_early-requires-clause-others
pass_early-requires-clause-others c = live-ids c.args.kernel.now (negation c.args.lit) c.args.others.now c.requires.others

pub returns-then-branch-clause-none : goal.returns-then-branch-clause-none
returns-then-branch-clause-none c f m =
    let k = c.args.kernel.now in
    let grow = c.args.bounds.now.grow in
    let bound = c.weight.result + c.weight-2.result + grow in
    let e : bound ≡ size_of (clauses_at (slots k) c.args.ids.now) + size_of (clauses_at (slots k) c.args.others.now) + grow = (λ j. c.weight.ensures j + c.weight-2.ensures j + grow) in
    let p = c.in_ok-pass_early.ensures c.if-branch.true
    (plain-side k c.args.lit c.args.ids.now c.requires.ids (λ D i n. m.split.no_tautology D i (inl n)))
    (plain-side k (negation c.args.lit) c.args.others.now c.requires.others (λ D i n. m.split.no_tautology D i (inr n))) in
    gain-passed k c.args.lit c.args.ids.now c.args.others.now c.requires.ids c.requires.others bound grow e
    (gain-none no_gain bound (resolve_all c.args.lit (clauses_at (slots k) c.args.ids.now) (clauses_at (slots k) c.args.others.now)) (omega arith)) m.small
