use Rattle.q_blocked.specs.Targets.{target_of}
use Rattle.q_rule.proofs.TargetChanges.{swept-result}
use Rattle.q_blocked.proofs.dispatch.take.Goals as goal

pub returns : goal.returns
returns c = swept-result c.args.kernel.now c.make_change.new.kernel c.sweep_now.new.self (target_of c.args.target.now) c.make_change.ensures c.sweep_now.ensures.formula c.sweep_now.ensures.led
