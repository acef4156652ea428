use Rattle.std.proofs.Common.{◌∙◌, sym}
use Rattle.q_logic.proofs.Common.{has-IsIn}
use Rattle.q_resolve.proofs.Joined.{joined-had, joined-one}
use Rattle.q_resolve.proofs.resolving.join.Goals as goal

pub returns-then-has : goal.returns-then-has
returns-then-has c = joined-had c.args.row.now c.args.lit (has-IsIn c.args.lit c.args.row.now (sym c.has.ensures ∙ c.if-has.true))

pub returns : goal.returns
returns c = joined-one c.args.row.now c.push.new.self c.args.lit c.in_ok-push.ensures.ok
