use Rattle.std.proofs.Common.{◌≡◌, ◌∙◌, ◌∷◌, ◌<◌, List, Some, sym, ap, subst, arith, slice_get, length}
use Rattle.std.proofs.lemmas.List.{length-set}
use Rattle.q_prop.proofs.SlotLemmas.{slice_get-at, same_slice_get}
use Rattle.q_judge.specs.Regions.{RegionMap, AreRegions, AreRegionsOf}
use Rattle.q_judge.proofs.RegionSeparation.{half-begun, half-more, half-ended}
use Rattle.q_judge.proofs.recent.RecentRegions.take.Goals as goal

pub loop-at-init : goal.loop-at-init
loop-at-init c = (
  omega (arith, c.len-at-end.ensures, c.self.inside.recent.ok.0),
  (λ X all. half-begun (AreRegions c.args.scope.now X) (AreRegions c.args.scope.now (c.args.clause.now ∷ X)) c.self.inside.recent.items (subst (λ (Rs : List RegionMap). AreRegionsOf c.args.scope.now X Rs) (sym c.self.view_is) all)),
)

pub loop-at-preserved : goal.loop-at-preserved
loop-at-preserved c =
    let Rs = c.loop-at.self-inside.recent.items in
    let n = c.loop-at.at in
    let l : n < length Rs = omega (arith, c.loop-at.invariant.0, c.loop-at-test.true) in (
      length-set Rs n c.take.new.self ∙ c.loop-at.invariant.0,
      (λ X all. half-more (AreRegions c.args.scope.now X) (AreRegions c.args.scope.now (c.args.clause.now ∷ X)) n Rs c.take.new.self l
          (λ R e q.
          let there : slice_get Rs n ≡ Some c.index_mut.result.now = slice_get-at Rs n c.index_mut.result.now l ∙ ap Some (sym c.index_mut.ensures.value) in
          c.take.ensures X (subst (λ (S : RegionMap). AreRegions c.args.scope.now X S) (same_slice_get Rs n R c.index_mut.result.now e there) q))
          (c.loop-at.invariant.1 X all)),
    )

pub returns : goal.returns
returns c X all = half-ended (AreRegions c.args.scope.now X) (AreRegions c.args.scope.now (c.args.clause.now ∷ X)) c.loop-at.at c.loop-at.self-inside.recent.items (omega (arith, c.loop-at.invariant.0, c.loop-at-test.false)) (c.loop-at.invariant.1 X all)
