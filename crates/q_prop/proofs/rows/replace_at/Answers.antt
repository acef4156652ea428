use Rattle.std.proofs.Common.{◌≡◌, ◌<◌, ◌+◌, length, arith, ap, ◌∷◌, [], ◌++◌, List, sym, ◌∙◌, Vec, Global, get_or, map, set}
use Rattle.q_prop.specs.declared.rows.Entry.{Entry}
use Rattle.q_prop.proofs.RowLemmas.{row_room, row_set_other, replaced-at}
use Rattle.q_prop.proofs.rows.replace_at.Goals as goal

pub returns-clause-here : goal.returns-clause-here
returns-clause-here c =
    let f : Vec Entry Global → List Entry = λ v. v.items in
    let vs = c.args.rows.now.items in
    let new = ap (λ (v : Vec Entry Global). set v.items c.args.i c.args.entry) c.index_mut-row.ensures.value in
    replaced-at f vs _ c.index_mut-row.result.now c.args.place (row_room f vs c.args.place c.args.i c.requires) c.args.i c.args.entry new

pub returns-clause-others : goal.returns-clause-others
returns-clause-others c j n =
    let f : Vec Entry Global → List Entry = λ v. v.items in
    row_set_other f c.args.rows.now.items c.args.place j _ n
