use Rattle.std.proofs.Common.{Some, sym, subst}
use Rattle.q_logic.specs.Prelude.{Clause}
use Rattle.q_kernel.specs.Prelude.{MayAdd, IsAdded}
use Rattle.q_expand.specs.Steps.{linked}
use Rattle.q_expand.proofs.StepQueue.{add-may, add-took, add-keeps}
use Rattle.q_expand.proofs.changing.add_link.Goals as goal

pub add_pivot-requires : goal.add_pivot-requires
add_pivot-requires c =
    let l = linked c.args.u.var c.args.a c.args.b in
    let e = c.link_clause-clause.ensures in
    subst (λ (x : Clause). MayAdd c.args.kernel.now (Some c.args.a) x) (sym e.clause) (add-may c.args.kernel.now (Some c.args.a) l c.sound.ensures e.ordered e.first c.requires.steps)

pub returns-clause-taken : goal.returns-clause-taken
returns-clause-taken c =
    let l = linked c.args.u.var c.args.a c.args.b in
    let e = c.link_clause-clause.ensures in
    add-took c.args.kernel.now c.add_pivot.new.self (Some c.args.a) l c.add_pivot.result c.sound.ensures e.ordered e.first c.requires.steps (subst (λ (x : Clause). IsAdded c.args.kernel.now c.add_pivot.new.self (Some c.args.a) x c.add_pivot.result) e.clause c.add_pivot.ensures)

pub returns-clause-keeps : goal.returns-clause-keeps
returns-clause-keeps c = add-keeps c.args.kernel.now c.add_pivot.new.self (Some c.args.a) c.link_clause-clause.result c.add_pivot.result c.add_pivot.ensures
