use Rattle.std.proofs.Common.{List, [], ◌∷◌, sym, subst, inl, inr}
use Rattle.std.specs.List.{remove}
use Rattle.q_logic.specs.Prelude.{IsIn, live}
use Rattle.q_logic.proofs.Common.{IsIn-append}
use Rattle.q_kernel.specs.Prelude.{slots}
use Rattle.q_reduce.specs.Regions.{RegionMap, AreRegions}
use Rattle.q_reduce.proofs.recent.RecentRegions.make.Goals as goal
use Rattle.q_reduce.proofs.recent.RecentRegions.make.Goals.{then-len-ge-BLOCKS, else-len-ge-BLOCKS}

later-in : (Rs : List RegionMap) (R : RegionMap) → IsIn R (remove Rs 0) → IsIn R Rs
later-in [] R m = m
later-in (S ∷ Rs) R m = inr m

pub returns : goal.returns
returns c R m =
    let k = c.args.kernel.now in
    let all = rw (← c.self.view_is) at c.requires.regions in
    elim (IsIn-append R c.if-len-ge-BLOCKS.self-inside.regions.items (c.build.new.self ∷ []) (subst (λ (Rs : List RegionMap). IsIn R Rs) c.in_ok-push.ensures.items m)) [
      | inl a ↦ elim c.if-len-ge-BLOCKS.branch [
        | then-len-ge-BLOCKS w ↦ all R (later-in c.self.inside.regions.items R (rw (w.self-inside-is, w.remove.ensures.items) at a))
        | else-len-ge-BLOCKS w ↦ all R (rw w.self-inside-is at a)
      ]
      | inr b ↦ elim b [
        | inl e ↦ subst (λ (S : RegionMap). AreRegions k.prefix (live (slots k)) S) (sym e) c.build.ensures
        | inr none ↦ absurd none
      ]
    ]

pub returns-in_err-build : goal.returns-in_err-build
returns-in_err-build c R m =
    let all = rw (← c.self.view_is) at c.requires.regions in
    elim c.if-len-ge-BLOCKS.branch [
      | then-len-ge-BLOCKS w ↦ all R (later-in c.self.inside.regions.items R (rw (w.self-inside-is, w.remove.ensures.items) at m))
      | else-len-ge-BLOCKS w ↦ all R (rw w.self-inside-is at m)
    ]

pub returns-in_err-push : goal.returns-in_err-push
returns-in_err-push c R m =
    let all = rw (← c.self.view_is) at c.requires.regions in
    let a = subst (λ (Rs : List RegionMap). IsIn R Rs) c.in_err-push.ensures.items m in
    elim c.if-len-ge-BLOCKS.branch [
      | then-len-ge-BLOCKS w ↦ all R (later-in c.self.inside.regions.items R (rw (w.self-inside-is, w.remove.ensures.items) at a))
      | else-len-ge-BLOCKS w ↦ all R (rw w.self-inside-is at a)
    ]
