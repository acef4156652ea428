use Rattle.std.proofs.Common.{◌∙◌, ◌<◌, List, Some, sym, ap, subst, length}
use Rattle.q_prop.specs.Slots.{filled}
use Rattle.q_prop.proofs.SlotLemmas.{slice_get-at, Contains-slice_get}
use Rattle.q_logic.proofs.Common.{Contains-IsIn}
use Rattle.q_judge.specs.Walks.{WalkMap, IsEnclosed, AreEnclosed}
use Rattle.q_judge.proofs.RegionSeparation.{regions-set}
use Rattle.q_judge.proofs.kept_walks.RecentWalks.extend.Goals as goal

pub extend-requires-clause-walk : goal.extend-requires-clause-walk
extend-requires-clause-walk c =
    let Rs = c.self.inside.walks.items in
    let P = c.args.view.now.prefix in
    let X = filled c.args.view.now.slots in
    let n = c.in_ok-at.at in
    let W = c.index_mut.result.now in
    let was = subst (λ (Ys : List WalkMap). AreEnclosed P X Ys) (sym c.self.view_is) (c.choose.ensures.walks P X c.requires.walks) in
    let l = subst (λ (Ys : List WalkMap). n < length Ys) (sym c.self.view_is) c.in_ok-at.ensures.place in
    was W (Contains-IsIn W Rs (Contains-slice_get Rs n W (slice_get-at Rs n W l ∙ ap Some (sym c.index_mut.ensures.value))))

pub returns-clause-walks : goal.returns-clause-walks
returns-clause-walks c =
    let Rs = c.self.inside.walks.items in
    let P = c.args.view.now.prefix in
    let X = filled c.args.view.now.slots in
    let n = c.in_ok-at.at in
    let was = subst (λ (Ys : List WalkMap). AreEnclosed P X Ys) (sym c.self.view_is) (c.choose.ensures.walks P X c.requires.walks) in
    let l = subst (λ (Ys : List WalkMap). n < length Ys) (sym c.self.view_is) c.in_ok-at.ensures.place in
    regions-set (IsEnclosed P X) Rs n c.extend.new.self l was (λ _. c.extend.ensures.walk)
