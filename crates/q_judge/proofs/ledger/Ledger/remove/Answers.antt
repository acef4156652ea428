use Rattle.q_prop.specs.Slots.{filled}
use Rattle.q_judge.proofs.RegionSeparation.{all-removed}
use Rattle.q_judge.proofs.KeptWalks.{walks-removed}
use Rattle.q_judge.proofs.SlotFormula.{counted-removed}
use Rattle.q_judge.proofs.ledger.Ledger.remove.Goals as goal

pub invariant_of-self : goal.invariant_of-self
invariant_of-self c =
    let i = c.self.inside in
    let X = filled i.store in
    let b = rw (← c.self.view_is) at c.requires.bound in
    let a = rw (← c.self.view_is) at c.requires.absent in
    rw c.remove.ensures (
      counted-removed i.scope X c.args.var i.clauses i.lits b a c.self.invariant.0,
      all-removed i.scope c.leave.new.self X c.args.var c.self.invariant.0.formula.distinct a (c.leave.ensures X c.self.invariant.1),
      walks-removed i.scope i.walks X c.args.var c.self.invariant.0.formula.distinct a c.self.invariant.2,
    )
