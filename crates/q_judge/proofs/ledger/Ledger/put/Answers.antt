use Rattle.std.proofs.Common.{◌∷◌, inr}
use Rattle.q_judge.proofs.RegionSeparation.{all-put, all-rest}
use Rattle.q_judge.proofs.KeptWalks.{walks-put, walks-fewer}
use Rattle.q_judge.proofs.SlotFormula.{counted-put}
use Rattle.q_prop.specs.Slots.{filled}
use Rattle.q_judge.proofs.ledger.Ledger.put.Goals as goal

pub invariant_of-self-2 : goal.invariant_of-self-2
invariant_of-self-2 c =
    let i = c.self.inside in
    let C = c.args.clause.now in
    let t = c.add.new.self in
    let n = c.in_ok-at.at in
    let p = c.in_ok-at.ensures.ok in
    let w = rw (← c.self.view_is) at c.requires.within in (
      counted-put i.scope i.store t n C i.clauses i.lits c.self.invariant.0 w p,
      all-put i.scope c.take.new.self i.store t n C p (c.take.ensures (filled i.store) c.self.invariant.1),
      walks-put i.scope c.take-2.new.self i.store t n C p (c.take-2.ensures (filled i.store) c.self.invariant.2),
    )

pub invariant_of-self : goal.invariant_of-self
invariant_of-self c =
    let i = c.self.inside in
    let X = filled i.store in
    let C = c.args.clause.now in
    rw c.in_err-at.ensures.err (
      c.self.invariant.0,
      all-rest i.scope c.take.new.self X C (c.take.ensures X c.self.invariant.1),
      walks-fewer i.scope c.take-2.new.self (C ∷ X) X (λ D m. inr m) (c.take-2.ensures X c.self.invariant.2),
    )

pub take-requires-2 : goal.take-requires-2
take-requires-2 c = record { within = rw (← c.self.view_is) at c.requires.within }
