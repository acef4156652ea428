use Rattle.std.proofs.Common.{ap}
use Rattle.q_logic.specs.Prelude.{NumberedFormula, Slots}
use Rattle.q_check.proofs.FirstNumbers.{begun-numbered, begun-numbers}
use Rattle.q_check.proofs.numbered.NumberedBook.start.Goals as goal

pub invariant_of-result : goal.invariant_of-result
invariant_of-result c =
    rw (c.in_ok-ledger.ensures, c.in_ok-numbers.ensures) (begun-numbered c.args.formula.now.matrix c.clauses.result c.clauses.ensures.value)

pub returns : goal.returns
returns c =
    let make : Slots → NumberedFormula = λ N. record { prefix = c.args.formula.now.prefix; slots = N } in
    rw (c.in_ok-ledger.ensures, c.in_ok-numbers.ensures) (ap make (begun-numbers c.args.formula.now.matrix c.clauses.result c.clauses.ensures.value))
