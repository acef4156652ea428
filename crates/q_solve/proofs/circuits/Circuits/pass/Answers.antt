use Rattle.q_logic.specs.declared.formulas.Quant.TheVariants.{Exists, Forall}
use Rattle.q_solve.proofs.DecisionReturns.{passed-at}
use Rattle.q_solve.proofs.circuits.Circuits.pass.Goals as goal

pub returns-in_ok-pick-in-Exists-true-clause-passed : goal.returns-in_ok-pick-in-Exists-true-clause-passed
returns-in_ok-pick-in-Exists-true-clause-passed c =
    passed-at c.args.last.bound.quant Exists c.args.last.value _ c.args.last.bound.var c.args.last.depth c.args.self.now c.pick.new.self c.in-Exists-true.is-0 c.in-Exists-true.is-1 (c.in_ok-pick-in-Exists-true.ensures c.args.last.bound.var)

pub returns-in_ok-put_aside-in-Forall-false-clause-passed : goal.returns-in_ok-put_aside-in-Forall-false-clause-passed
returns-in_ok-put_aside-in-Forall-false-clause-passed c =
    passed-at c.args.last.bound.quant Forall c.args.last.value _ c.args.last.bound.var c.args.last.depth c.args.self.now c.put_aside.new.self c.in-Forall-false.is-0 c.in-Forall-false.is-1 (c.in_ok-put_aside-in-Forall-false.ensures c.args.last.bound.var c.args.last.depth)
