use Rattle.std.proofs.Common.{◌≡◌, refl, sym, ap, subst, map}
use Rattle.q_logic.specs.Prelude.{PrenexFormula, copies, AreAlike}
use Rattle.q_judge.specs.Ledgers.{Slotted, slotted, formula_in}
use Rattle.q_judge.proofs.StartFormula.{filled-numbered}
use Rattle.q_herbrand.specs.Entries.{entry_of}
use Rattle.q_herbrand.proofs.RunReversals.{made-begun, noted-begun}
use Rattle.q_herbrand.proofs.trail.Trail.start.Goals as goal

begun-alike : (F : PrenexFormula) (L : Slotted) → L ≡ slotted F → AreAlike F (formula_in L)
begun-alike F L e =
    subst (λ (M : Slotted). AreAlike F (formula_in M)) (sym e)
    (record { prefix = refl; clauses = λ C. ap (copies C) (sym (filled-numbered F.matrix)) })

pub returns-clause-formula : goal.returns-clause-formula
returns-clause-formula c = begun-alike c.args.formula.now c.in_ok-ledger.ledger c.in_ok-ledger.ensures

pub returns-clause-noted : goal.returns-clause-noted
returns-clause-noted c =
    noted-begun c.args.formula.now
    (record { formula = formula_in c.in_ok-ledger.ledger; reversals = map entry_of c.new.result.items })
    (begun-alike c.args.formula.now c.in_ok-ledger.ledger c.in_ok-ledger.ensures)
    (ap (map entry_of) c.new.ensures.items)

pub returns-clause-made : goal.returns-clause-made
returns-clause-made c =
    made-begun c.args.formula.now
    (record { formula = formula_in c.in_ok-ledger.ledger; reversals = map entry_of c.new.result.items })
    (begun-alike c.args.formula.now c.in_ok-ledger.ledger c.in_ok-ledger.ensures)
    (ap (map entry_of) c.new.ensures.items)
