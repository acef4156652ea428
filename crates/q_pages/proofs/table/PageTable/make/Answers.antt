use Rattle.std.proofs.Common.{◌≡◌, ◌∙◌, ◌/◌, sym, arith, get_or, length}
use Rattle.std.proofs.lemmas.List.{get_or_past, get_or_default}
use Rattle.q_pages.proofs.TableRows.{given-made}
use Rattle.q_pages.proofs.table.PageTable.make.Goals.{else-page-len-via-then-page-len+else-index-ne0, else-page-len-via-else-page-len}
use Rattle.q_pages.proofs.table.PageTable.make.Goals as goal

pub returns-clause-given : goal.returns-clause-given
returns-clause-given c =
    let pages = c.self.inside.pages.items in
    let k = c.args.at / 1024 in
    let was : get_or pages k 0 ≡ 0 = elim c.else-page-len.branch [
      | else-page-len-via-then-page-len+else-index-ne0 w ↦ (let h = get_or_default pages k w.index.result.now 0 (omega (arith, w.if-page-len.true, c.len.ensures, c.self.inside.pages.ok.0)) in omega (arith, h, w.index.ensures, w.if-index-ne0.false))
      | else-page-len-via-else-page-len w ↦ get_or_past pages k 0 (omega (arith, w.if-page-len.false, c.len.ensures, c.self.inside.pages.ok.0))
    ] in
    rw (← c.self.view_is) (given-made pages c.extend.new.pages.items c.self.inside.last k c.self.invariant c.extend.ensures.kept c.extend.ensures.same (omega (arith, c.in_ok-extend.ensures.end)) was)
