use Rattle.std.proofs.Common.{sym, ◌∙◌, arith}
use Rattle.q_kernel.specs.Prelude.{slots}
use Rattle.q_eliminate.specs.Plans.{IsPlain}
use Rattle.q_eliminate.proofs.IdWalks.{live-at, all-at}
use Rattle.q_eliminate.proofs.EarlySums.{sum-added, sum-skipped, sum-step}
use Rattle.q_eliminate.proofs.early.sum_with.Goals as goal
use Rattle.q_eliminate.proofs.early.sum_with.Goals.{in-Some+else-sum-bound, in_default}

pub lits-clause-requires : goal.lits-clause-requires
lits-clause-requires c = live-at (slots c.args.kernel.now) c.args.ids.now c.loop-id.id-index c.requires.live c.loop-id-test.true

pub returns-then-sum-bound-clause-none : goal.returns-then-sum-bound-clause-none
returns-then-sum-bound-clause-none c e a b =
    let N = slots c.args.kernel.now in
    let D = c.lits-clause.result.now in
    let r = sum-added N c.args.ids.now c.loop-id.id-index c.args.marks.now c.args.out D c.loop-id-test.true c.lits-clause.ensures.clause c.in-Some.len c.requires.ordered c.lits-clause.ensures.ordered a
    (all-at IsPlain N c.args.ids.now c.loop-id.id-index D c.loop-id-test.true c.lits-clause.ensures.clause b) (sym c.length_with.ensures ∙ c.in-Some.is) in
    let s = sum-step c.loop-id.sum c.in-Some.len c.saturating_add.result c.saturating_add-sum.result c.saturating_add.ensures c.saturating_add-sum.ensures in
    let i = c.loop-id.invariant a b in
    let t = c.if-sum-bound.true in omega arith

pub loop-id-preserved : goal.loop-id-preserved
loop-id-preserved c a b =
    let N = slots c.args.kernel.now in
    let D = c.lits-clause.result.now in
    let A = c.args.marks.now in
    let m = c.args.out in
    let ids = c.args.ids.now in
    let at = c.loop-id.id-index in
    let i = c.loop-id.invariant a b in
    elim c.match-length_with.branch [
      | in-Some+else-sum-bound w ↦
          let r = sum-added N ids at A m D c.loop-id-test.true c.lits-clause.ensures.clause w.in-Some.len c.requires.ordered c.lits-clause.ensures.ordered a
          (all-at IsPlain N ids at D c.loop-id-test.true c.lits-clause.ensures.clause b) (sym c.length_with.ensures ∙ w.in-Some.is) in
          let s = sum-step c.loop-id.sum w.in-Some.len w.saturating_add.result w.saturating_add-sum.result w.saturating_add.ensures w.saturating_add-sum.ensures in
          let e = w.sum-is in omega arith
      | in_default w ↦
          let r = sum-skipped N ids at A m D c.loop-id-test.true c.lits-clause.ensures.clause in
          let e = w.sum-is in omega arith
    ]
