use Rattle.q_pages.proofs.PageEntries.{made-or-none}
use Rattle.q_pages.proofs.pages.Pages.blank.Goals as goal

pub returns : goal.returns
returns g c = rw (← c.self.view_is) (made-or-none c.self.inside.none c.self.inside.pages.items c.self.inside.items.items c.self.invariant)
