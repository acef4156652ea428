use Rattle.std.proofs.Common.{Some}
use Rattle.q_logic.proofs.Common.{reducible-within}
use Rattle.q_prop.specs.Slots.{filled, without}
use Rattle.q_judge.proofs.SlotCollections.{left-in}
use Rattle.q_judge.proofs.ledger.Ledger.goes_on.Goals as goal

pub new-whole-requires : goal.new-whole-requires
new-whole-requires c = c.self.invariant.0.formula.closed

pub extend-requires-clause-within : goal.extend-requires-clause-within
extend-requires-clause-within c = rw c.new-whole.ensures (rw (← c.self.view_is) at c.requires.within)

pub extend-requires-clause-universal : goal.extend-requires-clause-universal
extend-requires-clause-universal c = rw c.new-whole.ensures (rw (← c.self.view_is) at c.requires.universal)

pub extend-requires-clause-walks : goal.extend-requires-clause-walks
extend-requires-clause-walks c = rw c.new-whole.ensures c.self.invariant.2

pub invariant_of-self : goal.invariant_of-self
invariant_of-self c = (c.self.invariant.0, c.self.invariant.1, rw c.new-whole.ensures at c.extend.ensures.walks)

pub invariant_of-self-2 : goal.invariant_of-self-2
invariant_of-self-2 c = (c.self.invariant.0, c.self.invariant.1, rw c.new-whole.ensures at c.extend.ensures.walks)

pub returns-clause-told : goal.returns-clause-told
returns-clause-told c t =
    let i = c.self.inside in
    let s = i.store in
    rw (← c.self.view_is) (reducible-within i.scope (filled s) (filled (without s (Some c.args.at))) c.args.clause.now c.args.lit (λ D m. left-in s (Some c.args.at) D m) (rw c.new-whole.ensures at (c.in_ok-told.ensures.told t)))
