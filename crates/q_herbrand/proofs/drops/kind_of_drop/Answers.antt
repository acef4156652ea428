use Rattle.std.proofs.Common.{Some}
use Rattle.q_logic.proofs.Common.{test-false, universal-is_bound}
use Rattle.q_prop.specs.Slots.{filled, without}
use Rattle.q_herbrand.proofs.drops.kind_of_drop.Goals as goal

pub kind_without_pivot-requires-clause-bound : goal.kind_without_pivot-requires-clause-bound
kind_without_pivot-requires-clause-bound c =
    rw (c.scope.ensures, c.in_ok-is_turned.ensures.same)
    (universal-is_bound c.args.ledger.now.prefix c.args.lit.var c.requires.universal)

pub returns-clause-kind : goal.returns-clause-kind
returns-clause-kind c =
    let k = rw (c.scope.ensures, c.in_ok-is_turned.ensures.same) at c.kind_without_pivot.ensures in
    k (filled (without c.args.ledger.now.slots (Some c.args.at)))
    (test-false c.in_ok-is_turned.field-0 c.in_ok-is_turned.ensures.exact c.if-branch.false)
