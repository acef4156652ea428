use Rattle.std.proofs.Common.{◌≡◌, get_or, inl, inr, sym, arith, not-suc-le-zero}
use Rattle.std.proofs.lemmas.Bool.{cases_eq}
use Rattle.std.proofs.lemmas.Option.{slice_get_within}
use Rattle.q_prop.proofs.SlotLemmas.{slice_get-at, slice_get-Contains, same_slice_get}
use Rattle.q_prop.proofs.store.Store.are_met.Goals as goal

pub loop-i-init : goal.loop-i-init
loop-i-init c j m d h e f = absurd (not-suc-le-zero h)

pub loop-i-preserved : goal.loop-i-preserved
loop-i-preserved c j m d h e f =
    let slots = c.args.slots.now in
    let i = c.loop-i.i in
    elim (cases_eq j i) [
      | inl q ↦
          let same : get_or slots i 0 ≡ m = same_slice_get slots i (get_or slots i 0) m (slice_get-at slots i 0 c.loop-i-test.true) (rw q at e) in
          c.is_met.ensures c.if-not-is_met.false d (rw (sym same) at f)
      | inr n ↦ c.loop-i.invariant j m d (omega (arith, h, n)) e f
    ]

pub returns : goal.returns
returns c _ m d k f =
    let p = slice_get-Contains c.args.slots.now m k in
    let inside = slice_get_within c.args.slots.now p.0 m p.1 in
    c.loop-i.invariant p.0 m d (omega (arith, inside, c.loop-i-test.false)) p.1 f
