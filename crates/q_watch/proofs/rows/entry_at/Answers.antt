use Rattle.std.proofs.Common.{◌≡◌, ◌∙◌, [], List, Vec, Global, get_or, map, ap, sym}
use Rattle.q_watch.specs.declared.entry.Entry.{Entry}
use Rattle.q_watch.proofs.RowLemmas.{row_at, get-at}
use Rattle.q_watch.proofs.rows.entry_at.Goals as goal

pub returns : goal.returns
returns c =
    let f : Vec Entry Global → List Entry = λ v. v.items in
    let vs = c.args.rows.now.items in
    let row : get_or (map f vs) c.args.at [] ≡ c.index-row.result.now.items = row_at f vs c.args.at c.args.i c.index-row.result.now c.requires ∙ ap f (sym c.index-row.ensures) in
    rw (c.index.ensures, ← row) (get-at (get_or (map f vs) c.args.at []) c.args.i c.index.result.now c.requires)
