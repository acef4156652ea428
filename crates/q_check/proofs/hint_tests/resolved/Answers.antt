use Rattle.std.proofs.Common.{◌<◌, ◌≤◌, ◌∙◌, length, sym, refl, arith, true≢false}
use Rattle.q_logic.specs.ProofParts.{group_at}
use Rattle.q_logic.proofs.Common.{test-false}
use Rattle.q_check.specs.Numbers.{left_out}
use Rattle.q_check.proofs.HolderGroups.{left-slot, group-fails, groups-more, groups-all}
use Rattle.q_check.proofs.hint_tests.resolved.Goals as goal

pub returns-then-not-branch-clause-exact : goal.returns-then-not-branch-clause-exact
returns-then-not-branch-clause-exact c =
    let F = c.args.book.now in
    let N = left_out c.args.sides.now.skip F.slots in
    let gs = c.args.proof.now.groups in
    let x = rw (c.loop-at.invariant.0, c.target.ensures, c.hints.ensures) at c.in_ok-chained_with.ensures.exact in
    let l : c.loop-at.at < length gs = omega (arith, c.loop-at-test.true, c.groups-at-end.ensures) in (
      (λ t. absurd (true≢false (sym t))),
      (λ r. absurd (group-fails F.prefix N c.args.sides.now.base.now c.args.sides.now.m gs c.loop-at.at l (λ D e w. test-false c.in_ok-chained_with.field-0 (x D (left-slot c.args.sides.now.skip F.slots (group_at gs c.loop-at.at).target D e)) c.if-not-branch.true w) r)),
    )

pub loop-at-preserved : goal.loop-at-preserved
loop-at-preserved c =
    let F = c.args.book.now in
    let N = left_out c.args.sides.now.skip F.slots in
    let gs = c.args.proof.now.groups in
    let x = rw (c.loop-at.invariant.0, c.target.ensures, c.hints.ensures) at c.in_ok-chained_with.ensures.exact in (
      c.in_ok-chained_with.ensures.same ∙ c.loop-at.invariant.0,
      groups-more F.prefix N c.args.sides.now.base.now c.args.sides.now.m gs c.loop-at.at c.loop-at.invariant.1 (λ D e. (x D (left-slot c.args.sides.now.skip F.slots (group_at gs c.loop-at.at).target D e)).0 c.if-not-branch.false),
    )

pub returns-clause-exact : goal.returns-clause-exact
returns-clause-exact c =
    let F = c.args.book.now in
    let N = left_out c.args.sides.now.skip F.slots in
    let gs = c.args.proof.now.groups in
    let t = rw (c.deref.ensures.value, c.in_ok-holding.ensures) at (c.are_targets.ensures.0 c.if-not-are_targets.false) in
    let l : length gs ≤ c.loop-at.at = omega (arith, c.loop-at-test.false, c.groups-at-end.ensures) in (
      (λ u. groups-all F.prefix N c.args.sides.now.base.now c.args.sides.now.m gs c.loop-at.at t l c.loop-at.invariant.1),
      (λ r. refl),
    )
