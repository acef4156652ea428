use Rattle.std.proofs.Common.{refl, sym, ap, subst, map}
use Rattle.q_logic.specs.Prelude.{PrenexFormula, copies, AreAlike}
use Rattle.q_judge.specs.Entries.{entry_of}
use Rattle.q_judge.specs.Ledgers.{Slotted, slotted, formula_in}
use Rattle.q_judge.proofs.StartFormula.{filled-numbered}
use Rattle.q_check.proofs.ProperSteps.{alike-proper}
use Rattle.q_check.proofs.checker.Checker.start.Goals as goal

slotted-alike : (F : PrenexFormula) → AreAlike F (formula_in (slotted F))
slotted-alike F = record { prefix = refl; clauses = λ C. ap (copies C) (sym (filled-numbered F.matrix)) }

pub returns-clause-started : goal.returns-clause-started
returns-clause-started c =
    let F = c.args.formula.now in (
      subst (λ (L : Slotted). AreAlike F (formula_in L)) (sym c.in_ok-ledger.ensures) (slotted-alike F),
      ap (map entry_of) c.new.ensures.items,
      refl,
      refl,
    )

pub invariant_of-result : goal.invariant_of-result
invariant_of-result c =
    let F = c.args.formula.now in
    let a = subst (λ (L : Slotted). AreAlike F (formula_in L)) (sym c.in_ok-ledger.ensures) (slotted-alike F) in
    (c.requires, alike-proper F (formula_in c.in_ok-ledger.ledger) a c.prefix.ensures.proper)
