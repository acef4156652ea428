use Rattle.q_resolve.proofs.Scanned.{holds-has}
use Rattle.q_resolve.proofs.marked.Marked.has.Goals as goal

pub returns : goal.returns
returns c = holds-has c.is_marked.result c.args.lit c.args.self.now c.is_marked.ensures
