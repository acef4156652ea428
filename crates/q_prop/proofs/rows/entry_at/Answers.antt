use Rattle.std.proofs.Common.{◌≡◌, ◌<◌, ◌+◌, length, arith, ap, ◌∷◌, [], ◌++◌, List, sym, ◌∙◌, Vec, Global, get_or, map, set}
use Rattle.q_prop.specs.declared.rows.Entry.{Entry}
use Rattle.q_prop.proofs.RowLemmas.{row_at}
use Rattle.q_prop.proofs.SlotLemmas.{slice_get-at}
use Rattle.q_prop.proofs.rows.entry_at.Goals as goal

pub returns : goal.returns
returns c =
    let f : Vec Entry Global → List Entry = λ v. v.items in
    let vs = c.args.rows.now.items in
    let row : get_or (map f vs) c.args.place [] ≡ c.index-row.result.now.items = row_at f vs c.args.place c.args.i c.index-row.result.now c.requires ∙ ap f (sym c.index-row.ensures) in
    rw (c.index.ensures, ← row) (slice_get-at (get_or (map f vs) c.args.place []) c.args.i c.index.result.now c.requires)
