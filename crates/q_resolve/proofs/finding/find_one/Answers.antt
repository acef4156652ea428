use Rattle.std.proofs.Common.{◌∙◌, sym}
use Rattle.q_resolve.specs.Judged.{entries_of}
use Rattle.q_resolve.proofs.Deriving.{earlier-there}
use Rattle.q_resolve.proofs.finding.find_one.Goals as goal

pub returns-in-Some-clause-before : goal.returns-in-Some-clause-before
returns-in-Some-clause-before c = (earlier-there (entries_of c.args.trace.now.lines) c.args.n c.args.first c.in-Some.i (sym c.find.ensures ∙ c.in-Some.is)).0
