use Rattle.std.proofs.Common.{◌∙◌}
use Rattle.q_herbrand.proofs.MergedRows.{some-put}
use Rattle.q_herbrand.proofs.drafting.put_some.Goals as goal

pub returns-in-None : goal.returns-in-None
returns-in-None c = some-put c.args.row.now.items c.args.at c.args.lit c.requires c.in-None.is
