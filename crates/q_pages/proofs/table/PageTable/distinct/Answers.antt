use Rattle.q_pages.proofs.TableRows.{places-apart}
use Rattle.q_pages.proofs.table.PageTable.distinct.Goals as goal

pub returns : goal.returns
returns c = rw (← c.self.view_is) (places-apart c.self.inside.pages.items c.self.inside.last c.self.invariant)
