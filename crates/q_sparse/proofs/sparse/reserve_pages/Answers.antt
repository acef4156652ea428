use Rattle.std.proofs.Common.{◌≡◌, List, length, ap, arith}
use Rattle.q_sparse.proofs.SparseRows.{given-along}
use Rattle.q_sparse.proofs.sparse.reserve_pages.Goals as goal

pub returns-clause-long : goal.returns-clause-long
returns-clause-long g c =
    let e = given-along c.args.pages.now.items c.extend.new.pages.items c.extend.ensures.same in
    let same = ap (λ (xs : List g.row.T.Denot). length xs) c.reserve.ensures.same in
    omega (arith, e, same, c.requires.long, c.fill.ensures.end, c.max.ensures, c.len-2.ensures, c.reserve.new.values.ok.0)
