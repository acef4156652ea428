use Rattle.std.proofs.Common.{◌∙◌, ◌<◌, length, List, Some, sym, ap, subst, arith}
use Rattle.std.proofs.lemmas.List.{length-set}
use Rattle.q_prop.proofs.SlotLemmas.{slice_get-at}
use Rattle.q_judge.specs.Regions.{RegionMap, AreRegions, AreRegionsOf}
use Rattle.q_judge.proofs.RegionSeparation.{regions-set, regions-relabelled}
use Rattle.q_judge.proofs.recent.RecentRegions.inherit.Goals as goal

pub loop-at-init : goal.loop-at-init
loop-at-init c = (
  omega (arith, c.len-at-end.ensures, c.self.inside.recent.ok.0),
  (λ P X n closed all. subst (λ (Rs : List RegionMap). AreRegionsOf P X Rs) (sym c.self.view_is) all),
)

pub returns-in_err-inherit : goal.returns-in_err-inherit
returns-in_err-inherit c P X n closed all =
    let Rs = c.loop-at.self-inside.recent.items in
    let i = c.loop-at.at in
    let l : i < length Rs = omega (arith, c.loop-at.invariant.0, c.loop-at-test.true) in
    regions-set (AreRegions P X) Rs i c.inherit.new.self l (c.loop-at.invariant.1 P X n closed all)
    (λ was. regions-relabelled P X c.index_mut.result.now c.inherit.new.self c.args.v closed n c.inherit.ensures.var c.inherit.ensures.others (was c.index_mut.result.now (slice_get-at Rs i c.index_mut.result.now l ∙ ap Some (sym c.index_mut.ensures.value))))

pub loop-at-preserved : goal.loop-at-preserved
loop-at-preserved c =
    let Rs = c.loop-at.self-inside.recent.items in
    let i = c.loop-at.at in
    let l : i < length Rs = omega (arith, c.loop-at.invariant.0, c.loop-at-test.true) in (
      length-set Rs i c.inherit.new.self ∙ c.loop-at.invariant.0,
      (λ P X n closed all. regions-set (AreRegions P X) Rs i c.inherit.new.self l (c.loop-at.invariant.1 P X n closed all)
          (λ was. regions-relabelled P X c.index_mut.result.now c.inherit.new.self c.args.v closed n c.inherit.ensures.var c.inherit.ensures.others (was c.index_mut.result.now (slice_get-at Rs i c.index_mut.result.now l ∙ ap Some (sym c.index_mut.ensures.value))))),
    )

pub returns : goal.returns
returns c = c.loop-at.invariant.1
