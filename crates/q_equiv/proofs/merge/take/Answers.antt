use Rattle.q_logic.specs.Prelude.{merge}
use Rattle.q_rule.proofs.TargetChanges.{swept-result}
use Rattle.q_equiv.proofs.merge.take.Goals as goal

pub returns : goal.returns
returns c = swept-result c.args.kernel.now c.put_in_place.new.kernel c.sweep_now.new.self (merge c.args.keep c.args.gone) c.put_in_place.ensures c.sweep_now.ensures.formula c.sweep_now.ensures.led
