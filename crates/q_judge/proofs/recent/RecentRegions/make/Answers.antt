use Rattle.std.proofs.Common.{List, [], ◌∷◌, sym, subst, inl, inr}
use Rattle.std.specs.List.{remove}
use Rattle.q_logic.specs.Prelude.{IsIn}
use Rattle.q_logic.proofs.Common.{IsIn-append}
use Rattle.q_prop.specs.Slots.{filled}
use Rattle.q_judge.specs.Regions.{RegionMap, AreRegions, AreRegionsOf}
use Rattle.q_judge.proofs.recent.RecentRegions.make.Goals as goal
use Rattle.q_judge.proofs.recent.RecentRegions.make.Goals.{then-len-ge-MOST, else-len-ge-MOST}

removed-first : (Rs : List RegionMap) (R : RegionMap) → IsIn R (remove Rs 0) → IsIn R Rs
removed-first [] R m = m
removed-first (S ∷ Rs) R m = inr m

pub returns : goal.returns
returns c =
    let P = c.args.view.now.prefix in
    let X = filled c.args.view.now.slots in
    let all = subst (λ (Rs : List RegionMap). AreRegionsOf P X Rs) (sym c.self.view_is) c.requires.regions in
    let kept : AreRegionsOf P X c.if-len-ge-MOST.self-inside.recent.items = elim c.if-len-ge-MOST.branch [
      | then-len-ge-MOST w ↦ rw (w.self-inside-is, w.remove.ensures.items) (λ R m. all R (removed-first c.self.inside.recent.items R m))
      | else-len-ge-MOST w ↦ rw w.self-inside-is all
    ] in
    λ R m. elim (IsIn-append R c.if-len-ge-MOST.self-inside.recent.items (c.make.new.self ∷ []) (subst (λ (Rs : List RegionMap). IsIn R Rs) c.in_ok-push.ensures.items m)) [
      | inl a ↦ kept R a
      | inr b ↦ elim b [ inl e ↦ subst (λ (S : RegionMap). AreRegions P X S) (sym e) c.make.ensures | inr n ↦ absurd n ]
    ]
