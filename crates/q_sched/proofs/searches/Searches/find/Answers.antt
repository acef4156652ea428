use Rattle.std.proofs.Common.{◌≡◌, sym, subst}
use Rattle.q_reduce.specs.Learned.{Learned, IsFitFor}
use Rattle.q_sched.proofs.GroupTargets.{finds-same, found-plain, found-subsume, found-equiv, found-blocked, found-eliminate, found-expand}
use Rattle.q_sched.proofs.searches.Searches.find.Goals.{in-Reduce+in_ok-find-in-Reduce, in-Subsume+in_ok-find-in-Subsume, in-Merge+in_ok-find-in-Merge, in-Block+in_ok-find-in-Block, in-Eliminate+in_ok-find-in-Eliminate, in-Expand+in_ok-find-in-Expand}
use Rattle.q_sched.proofs.searches.Searches.find.Goals as goal

pub returns-clause-finds : goal.returns-clause-finds
returns-clause-finds c =
    let B = c.args.bounds.now in
    let k = c.args.kernel.now in
    let from = c.args.from in
    elim c.match-group.branch [
      | in-Reduce+in_ok-find-in-Reduce w ↦
          finds-same _ _ B k from _ _ w.in-Reduce.is w.found-is (found-plain B k from _ _ w.map-found.ensures.cases w.in_ok-find-in-Reduce.ensures.finds)
      | in-Subsume+in_ok-find-in-Subsume w ↦
          finds-same _ _ B k from _ _ w.in-Subsume.is w.found-is (found-subsume B k from _ _ w.map-found-in-Subsume.ensures.cases w.in_ok-find-in-Subsume.ensures.finds)
      | in-Merge+in_ok-find-in-Merge w ↦
          finds-same _ _ B k from _ _ w.in-Merge.is w.found-is (found-equiv B k from _ _ w.map-found-in-Merge.ensures.cases w.in_ok-find-in-Merge.ensures.finds)
      | in-Block+in_ok-find-in-Block w ↦
          finds-same _ _ B k from _ _ w.in-Block.is w.found-is (found-blocked B k from _ _ w.map-found-in-Block.ensures.cases w.in_ok-find-in-Block.ensures.finds)
      | in-Eliminate+in_ok-find-in-Eliminate w ↦
          finds-same _ _ B k from _ _ w.in-Eliminate.is w.found-is (found-eliminate B k from _ _ w.map-found-in-Eliminate.ensures.cases w.in_ok-find-in-Eliminate.ensures.finds)
      | in-Expand+in_ok-find-in-Expand w ↦
          finds-same _ _ B k from _ _ w.in-Expand.is w.found-is (found-expand B k from _ _ w.map-found-in-Expand.ensures.cases w.in_ok-find-in-Expand.ensures.finds)
    ]

pub returns-clause-fit : goal.returns-clause-fit
returns-clause-fit c =
    let same = λ (s : Learned) (e : c.match-group.self ≡ s) (h : IsFitFor c.args.kernel.now s). subst (λ (x : Learned). IsFitFor c.args.kernel.now x) (sym e) h in
    let q : c.args.self.now ≡ c.self.inside.plain = cc in
    let kept = subst (λ (x : Learned). IsFitFor c.args.kernel.now x) q c.requires.fit in
    elim c.match-group.branch [
      | in-Reduce+in_ok-find-in-Reduce w ↦ same _ w.self-is w.in_ok-find-in-Reduce.ensures.fit
      | in-Subsume+in_ok-find-in-Subsume w ↦ same _ w.self-is kept
      | in-Merge+in_ok-find-in-Merge w ↦ same _ w.self-is kept
      | in-Block+in_ok-find-in-Block w ↦ same _ w.self-is kept
      | in-Eliminate+in_ok-find-in-Eliminate w ↦ same _ w.self-is kept
      | in-Expand+in_ok-find-in-Expand w ↦ same _ w.self-is kept
    ]
