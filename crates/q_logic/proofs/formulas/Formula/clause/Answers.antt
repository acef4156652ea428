use Rattle.std.proofs.Common.{ap, subst}
use Rattle.q_logic.specs.Prelude.{PrenexFormula, IsProper}
use Rattle.q_logic.proofs.FormulaParts.{proper-bound}
use Rattle.q_logic.proofs.formulas.Formula.clause.Goals as goal

pub returns-clause-bound : goal.returns-clause-bound
returns-clause-bound c =
    let e = ap (λ (F : PrenexFormula). F.matrix) c.self.view_is in
    proper-bound c.args.self.now c.args.at c.clause.result.now (subst IsProper c.self.view_is c.self.invariant) (cc)
