use Rattle.std.proofs.Common.{◌≡◌, ◌∙◌, Some, ap}
use Rattle.q_logic.specs.Prelude.{slot}
use Rattle.q_kernel.specs.Prelude.{slots}
use Rattle.q_expand.specs.Steps.{linked}
use Rattle.q_expand.proofs.StepQueue.{delete-may, delete-took}
use Rattle.q_expand.proofs.changing.delete_link.Goals as goal

pub delete_pivot-requires : goal.delete_pivot-requires
delete_pivot-requires c =
    let l = linked c.args.u.var c.args.a c.args.b in
    let e = c.link_clause-clause.ensures in
    let s : slot (slots c.args.kernel.now) c.in-Some.id ≡ Some l = c.find_clause.ensures.some c.in-Some.id c.in-Some.is ∙ ap Some e.clause in
    delete-may c.args.kernel.now c.in-Some.id (λ C. Some c.args.b) l c.sound.ensures s e.last c.requires.steps

pub returns-in-Some : goal.returns-in-Some
returns-in-Some c =
    let l = linked c.args.u.var c.args.a c.args.b in
    let e = c.link_clause-clause.ensures in
    let s : slot (slots c.args.kernel.now) c.in-Some.id ≡ Some l = c.find_clause.ensures.some c.in-Some.id c.in-Some.is ∙ ap Some e.clause in
    delete-took c.args.kernel.now c.delete_pivot.new.self c.in-Some.id (λ C. Some c.args.b) l c.sound.ensures s e.last c.requires.steps c.delete_pivot.ensures
