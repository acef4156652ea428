use Rattle.std.proofs.Common.{Err, IfErr, subst}
use Rattle.q_prop.specs.Slots.{filled, without}
use Rattle.q_judge.specs.Ledgers.{Slotted}
use Rattle.q_judge.specs.Warrants.{IsAnswered}
use Rattle.q_judge.proofs.ledger.Ledger.permit.Goals as goal

pub returns-clause-ok : goal.returns-clause-ok
returns-clause-ok c = rw (← c.self.view_is) c.permit_of.ensures.ok

pub returns-clause-refused : goal.returns-clause-refused
returns-clause-refused c =
    subst (λ (L : Slotted). IfErr c.permit_of.result (λ e. IsAnswered L.prefix (filled (without L.slots c.args.skip)) c.args.clause.now c.args.first (Err e))) c.self.view_is c.permit_of.ensures.refused
