use Rattle.q_prop.specs.Slots.{filled}
use Rattle.q_judge.proofs.RegionSeparation.{all-inserted}
use Rattle.q_judge.proofs.KeptWalks.{walks-inserted}
use Rattle.q_judge.proofs.SlotFormula.{counted-inserted}
use Rattle.q_judge.proofs.ledger.Ledger.insert.Goals as goal

pub invariant_of-self-2 : goal.invariant_of-self-2
invariant_of-self-2 c =
    let i = c.self.inside in
    let X = filled i.store in
    let closed = c.self.invariant.0.formula.closed in
    let a = rw (← c.self.view_is) at c.requires.absent in
    let e = rw (← c.self.view_is) at c.requires.there in
    rw c.in_ok-insert_after.ensures.ok (
      counted-inserted i.scope X c.args.w c.args.v i.clauses i.lits a e c.self.invariant.0,
      all-inserted i.scope c.inherit.new.self X c.args.w c.args.v e closed a (c.inherit.ensures i.scope X a closed c.self.invariant.1),
      walks-inserted i.scope i.walks X c.args.w c.args.v e closed a c.self.invariant.2,
    )
