use Rattle.std.proofs.Common.{sym, subst}
use Rattle.q_logic.specs.Prelude.{IsProper, after}
use Rattle.q_judge.specs.Ledgers.{Slotted, formula_in}
use Rattle.q_check.proofs.ProperSteps.{made-proper, alike-proper}
use Rattle.q_check.proofs.checker.Checker.pass.Goals as goal

pub invariant_of-self : goal.invariant_of-self
invariant_of-self c = (c.self.invariant.0, subst (λ (L : Slotted). IsProper (formula_in L)) (sym c.in_err-make.ensures.unchanged) c.self.invariant.1)

pub invariant_of-self-2 : goal.invariant_of-self-2
invariant_of-self-2 c =
    let m = c.self.inside.settings.limits in
    let F = formula_in c.self.inside.ledger in
    let s = c.args.step.now in
    (c.self.invariant.0, alike-proper (after F s) (formula_in c.make.new.ledger) c.in_ok-make.ensures.after (made-proper m F s c.self.invariant.0 c.self.invariant.1 c.lits.ensures.lawful c.in_ok-make.ensures.fit))
