use Rattle.std.proofs.Common.{◌≡◌, ◌+◌, ◌∙◌, length, arith, ap, List, Vec, Global, get_or}
use Rattle.q_watch.specs.declared.entry.Entry.{Entry}
use Rattle.std.specs.List.{swap_remove}
use Rattle.q_watch.proofs.RowLemmas.{row_at, row_room, row_set_other, removed-at}
use Rattle.q_watch.proofs.rows.remove_at.Goals as goal

pub returns-clause-here : goal.returns-clause-here
returns-clause-here c =
    let f : Vec Entry Global → List Entry = λ v. v.items in
    let vs = c.args.rows.now.items in
    let row = c.index_mut-row.result.now in
    let here = c.index_mut-row.ensures.value in
    let e = row_at f vs c.args.at c.args.i row c.requires in
    let room = rw e at c.requires in
    let items = c.swap_remove.ensures.items ∙ ap (λ (v : Vec Entry Global). swap_remove v.items c.args.i c.swap_remove.result) here in
    let len : length c.swap_remove.new.self.items + 1 ≡ length row.items = omega (arith, c.swap_remove.ensures.len, c.swap_remove.new.self.ok.0, row.ok.0) in
    let less : length c.swap_remove.new.self.items + 1 ≡ length (f (get_or vs c.args.at row)) = len ∙ ap (λ (v : Vec Entry Global). length v.items) here in
    removed-at f vs c.swap_remove.new.self row c.args.at c.args.i c.swap_remove.result (row_room f vs c.args.at c.args.i c.requires) room items less

pub returns-clause-others : goal.returns-clause-others
returns-clause-others c j n =
    let f : Vec Entry Global → List Entry = λ v. v.items in
    row_set_other f c.args.rows.now.items c.args.at j c.swap_remove.new.self n
