use Rattle.std.proofs.Common.{◌≡◌, ◌<◌, List, ℕ, Some, slice_get, get_or, map, length, [], ap, ◌∙◌}
use Rattle.std.specs.List.{swap_remove}
use Rattle.std.proofs.lemmas.Option.{slice_get_within}
use Rattle.smallvec.specs.SmallVec.{SmallVec}
use Rattle.q_prop.proofs.RowLemmas.{row_at, row_room}
use Rattle.q_prop.proofs.ListLemmas.{lost-swapped, taken_out-set}
use Rattle.q_prop.proofs.lists.take_at.Goals as goal

pub returns : goal.returns
returns c slot here =
    let f : SmallVec ℕ → List ℕ = λ v. v.items in
    let vs = c.args.lists.now.items in
    let k = c.args.k in
    let i = c.args.place in
    let list = c.index_mut-list.result.now in
    let in' : i < length (get_or (map f vs) k []) = c.requires in
    let old = f (get_or vs k list) in
    let there : slice_get old i ≡ Some slot = rw (row_at f vs k i list in') at here in
    let items = c.swap_remove.ensures.items ∙ ap (λ (v : SmallVec ℕ). swap_remove v.items i c.swap_remove.result) c.index_mut-list.ensures.value in
    (taken_out-set f vs c.swap_remove.new.self list k slot (row_room f vs k i in') (lost-swapped old i c.swap_remove.result (slice_get_within old i slot there) slot c.swap_remove.new.self.items there items))
