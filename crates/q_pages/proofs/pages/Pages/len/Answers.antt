use Rattle.std.proofs.Common.{arith}
use Rattle.q_pages.proofs.PageEntries.{length-row}
use Rattle.q_pages.proofs.pages.Pages.len.Goals as goal

pub returns-clause-value : goal.returns-clause-value
returns-clause-value g c =
    rw (← c.self.view_is) (let n = length-row c.self.inside.none c.self.inside.pages.items c.self.inside.items.items in omega (arith, n, c.len.ensures))
