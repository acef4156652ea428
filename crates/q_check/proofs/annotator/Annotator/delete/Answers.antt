use Rattle.std.proofs.Common.{ap}
use Rattle.std.proofs.lemmas.Result.{err_from_is_err_and}
use Rattle.q_logic.specs.Prelude.{NumberedFormula}
use Rattle.q_check.specs.Annotations.{Annotating}
use Rattle.q_check.proofs.UnfitNumbered.{deletion-refused, deletion-same}
use Rattle.q_check.proofs.annotator.Annotator.delete.Goals as goal

pub returns-in_err-proof-clause-refused : goal.returns-in_err-proof-clause-refused
returns-in_err-proof-clause-refused c =
    let i = c.self.inside in
    let r = err_from_is_err_and c.from_residual.result c.from_residual.ensures.1 in
    rw (← c.self.view_is) (rw (r.1, r.2) (deletion-refused i.limits i.book c.name_deleted.new.book c.args.step.now c.in_err-proof.field-0.0 (c.in_err-proof.ensures i.limits)))

pub returns-in_err-proof-clause-unchanged : goal.returns-in_err-proof-clause-unchanged
returns-in_err-proof-clause-unchanged c =
    let i = c.self.inside in
    let r = err_from_is_err_and c.from_residual.result c.from_residual.ensures.1 in
    let same = deletion-same i.limits i.book c.name_deleted.new.book c.args.step.now c.in_err-proof.field-0.0 (c.in_err-proof.ensures i.limits) in
    rw (← c.self.view_is) (rw r.1 (ap (λ (F : NumberedFormula). let a : Annotating = record { formula = F; limits = i.limits; steps = i.steps } in a) same))

pub returns-clause-after : goal.returns-clause-after
returns-clause-after c = rw (← c.self.view_is) (c.in_ok-proof.ensures c.self.inside.limits).1

pub returns-clause-form : goal.returns-clause-form
returns-clause-form c = (c.in_ok-proof.ensures c.self.inside.limits).2
