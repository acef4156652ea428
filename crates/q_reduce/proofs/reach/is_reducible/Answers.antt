use Rattle.std.proofs.Common.{◌≡◌, ◌∙◌, ◌<◌, ◌≤◌, true, false, Some, [], length, sym, subst, arith, refl, true≢false}
use Rattle.std.proofs.lemmas.Option.{same_Some}
use Rattle.q_logic.specs.Prelude.{negation, Clause, IsIn, slot, others}
use Rattle.q_kernel.specs.Prelude.{slots}
use Rattle.q_reduce.specs.Walks.{IsWidened}
use Rattle.q_reduce.proofs.ReachWalks.{visited-beside}
use Rattle.q_reduce.proofs.FinishedWalk.{IsWalk, walk-begun, walk-more, walk-refuted, walk-ended}
use Rattle.q_reduce.proofs.reach.is_reducible.Goals as goal

pub loop-head-init : goal.loop-head-init
loop-head-init c = begun
  where
    begun : (C : Clause) → slot (slots c.args.kernel.now) c.args.c ≡ Some C → IsWalk c.args.kernel.now.prefix (others c.args.c (slots c.args.kernel.now)) C c.args.lit 0 c.push_inner.new.queue
    begun C e =
        let k = c.args.kernel.now in
        let w = rw c.clear.ensures at c.in_ok-push_inner.ensures in
        let q = same_Some c.clause_of.result.now C (sym c.clause_of.ensures.clause ∙ e) in
        walk-begun k.prefix (others c.args.c (slots k)) C c.args.lit c.push_inner.new.queue (subst (λ (x : Clause). IsWidened k.prefix c.args.lit x [] c.push_inner.new.queue) q w)

pub returns-then-head-len : goal.returns-then-head-len
returns-then-head-len c C e =
    let k = c.args.kernel.now in
    let q = same_Some c.requires.live.0 C (sym c.requires.live.1 ∙ e) in
    let m : IsIn c.args.lit C = subst (λ (x : Clause). IsIn c.args.lit x) q c.requires.live.2 in
    let past : length c.loop-head.queue ≤ c.loop-head.head = omega (arith, c.if-head-len.true, c.len.ensures) in
    let r = walk-ended k.prefix (others c.args.c (slots k)) C c.args.lit c.loop-head.head c.loop-head.queue (c.loop-head.invariant C e) past c.requires.universal m (λ n. c.requires.live.3 (subst (λ (x : Clause). IsIn (negation c.args.lit) x) (sym q) n)) in
    ((λ t. r), (λ x. refl))

pub returns-then-not-branch : goal.returns-then-not-branch
returns-then-not-branch c C e =
    let k = c.args.kernel.now in
    let f = rw c.if-not-branch.true at c.in_ok-visit.ensures in
    let v = visited-beside k.prefix c.args.lit (slots k) c.args.c c.requires.live.0 c.at-next.result c.loop-head.queue c.visit.new.queue false c.requires.live.1 c.requires.live.2 f in
    ((λ t. absurd (true≢false (sym t))), (λ r. absurd (walk-refuted k.prefix (others c.args.c (slots k)) C c.args.lit c.loop-head.head c.at-next.result c.loop-head.queue c.visit.new.queue (c.loop-head.invariant C e) c.at-next.ensures v r)))

pub loop-head-preserved : goal.loop-head-preserved
loop-head-preserved c C e =
    let k = c.args.kernel.now in
    let f = rw c.if-not-branch.false at c.in_ok-visit.ensures in
    let v = visited-beside k.prefix c.args.lit (slots k) c.args.c c.requires.live.0 c.at-next.result c.loop-head.queue c.visit.new.queue true c.requires.live.1 c.requires.live.2 f in
    let room : c.loop-head.head < length c.loop-head.queue = omega (arith, c.if-head-len.false, c.len.ensures) in
    walk-more k.prefix (others c.args.c (slots k)) C c.args.lit c.loop-head.head c.at-next.result c.loop-head.queue c.visit.new.queue (c.loop-head.invariant C e) room c.at-next.ensures v
