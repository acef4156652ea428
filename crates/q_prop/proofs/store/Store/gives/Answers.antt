use Rattle.std.proofs.Common.{◌∙◌, get_or, inl, inr, arith, not-suc-le-zero}
use Rattle.std.proofs.lemmas.Bool.{cases_eq}
use Rattle.std.proofs.lemmas.Option.{slice_get_within}
use Rattle.q_prop.proofs.SlotLemmas.{slice_get-at, slice_get-Contains, same_slice_get}
use Rattle.q_prop.proofs.store.Store.gives.Goals as goal

pub loop-other-init : goal.loop-other-init
loop-other-init c j k h e = absurd (not-suc-le-zero h)

pub loop-other-preserved : goal.loop-other-preserved
loop-other-preserved c j k h e n =
    let part = c.args.part.now in
    let i = c.loop-other.other-index in
    let item = c.other-item.result in
    elim (cases_eq j i) [
      | inl q ↦
          let same = c.other-item.is ∙ same_slice_get part i (get_or part i item) k (slice_get-at part i item c.loop-other-test.true) (rw q at e) in
          let g = rw same at (c.is_given.ensures c.if-not-is_given.false) in
          g n
      | inr d ↦ c.loop-other.invariant j k (omega (arith, h, d)) e n
    ]

pub returns : goal.returns
returns c _ k m n =
    let p = slice_get-Contains c.args.part.now k m in
    c.loop-other.invariant p.0 k (let inside = slice_get_within c.args.part.now p.0 k p.1 in omega (arith, inside, c.loop-other-test.false)) p.1 n
