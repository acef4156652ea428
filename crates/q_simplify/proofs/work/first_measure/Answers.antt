use Rattle.std.proofs.Common.{◌≤◌, ◌^◌, ℕ, sym, subst}
use Rattle.q_simplify.proofs.DriveMeasure.{measure-small}
use Rattle.q_simplify.proofs.work.first_measure.Goals as goal

pub returns-clause-small : goal.returns-clause-small
returns-clause-small c =
    subst (λ (n : ℕ). n ≤ 2 ^ 60) (sym c.measure.ensures) (measure-small c.args.bounds.now c.args.kernel.now c.sound.ensures)
