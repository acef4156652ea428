use Rattle.q_logic.specs.Prelude.{after}
use Rattle.q_judge.specs.Ledgers.{formula_in}
use Rattle.q_same_steps.proofs.MadeSteps.{valid-applies}
use Rattle.q_check.proofs.ProperSteps.{made-proper, alike-proper}
use Rattle.q_check.proofs.checker.Checker.step.Goals as goal

pub invariant_of-self-in-Some : goal.invariant_of-self-in-Some
invariant_of-self-in-Some c =
    let m = c.self.inside.settings.limits in
    let F = formula_in c.self.inside.ledger in
    let s = c.args.step.now in
    let h = c.in_ok-entry.ensures in
    (c.self.invariant.0, alike-proper (after F s) (formula_in c.try_step.new.ledger) h.1 (made-proper m F s c.self.invariant.0 c.self.invariant.1 c.lits.ensures.lawful (valid-applies m F s h.0)))

pub invariant_of-self-in_default : goal.invariant_of-self-in_default
invariant_of-self-in_default c =
    let m = c.self.inside.settings.limits in
    let F = formula_in c.self.inside.ledger in
    let s = c.args.step.now in
    let h = c.in_ok-entry.ensures in
    (c.self.invariant.0, alike-proper (after F s) (formula_in c.try_step.new.ledger) h.1 (made-proper m F s c.self.invariant.0 c.self.invariant.1 c.lits.ensures.lawful (valid-applies m F s h.0)))
