use Rattle.std.proofs.Common.{◌≤◌, ◌*◌, ◌∙◌, refl, sym, subst, ap}
use Rattle.std.specs.Vec.{vec_capacity}
use Rattle.q_logic.specs.Prelude.{Literal, negation, size_of, live, with_literal, expand_universal}
use Rattle.q_kernel.specs.Prelude.{slots}
use Rattle.q_rule.proofs.TargetChanges.{swept-result}
use Rattle.q_expand.specs.Apart.{MayLose, HasLost}
use Rattle.q_expand.proofs.StepsToCome.{may-first, bytes-first, may-second, bytes-second, changed}
use Rattle.q_expand.proofs.ExpansionRequirements.{u-range, part-copies, room-for, can-part, arrived}
use Rattle.q_expand.proofs.expand.take.Goals as goal

pub new-lit-requires-clause-positive : goal.new-lit-requires-clause-positive
new-lit-requires-clause-positive c =
    (u-range c.requires.applies.0 c.args.kernel.now c.args.u c.args.dependents.now c.sound.ensures c.requires.whole c.requires.applies.1).0

pub new-lit-requires-clause-small : goal.new-lit-requires-clause-small
new-lit-requires-clause-small c =
    (u-range c.requires.applies.0 c.args.kernel.now c.args.u c.args.dependents.now c.sound.ensures c.requires.whole c.requires.applies.1).1

pub part-requires-clause-copies : goal.part-requires-clause-copies
part-requires-clause-copies c =
    part-copies c.requires.applies.0 c.args.kernel.now c.args.u c.args.dependents.now c.sound.ensures c.requires.whole c.requires.applies.1 c.new-lit.result.var c.args.order.now c.greatest_var.result (ap (λ (l : Literal). l.var) c.new-lit.ensures) c.requires.order c.greatest_var.ensures c.new-lit.result (ap (λ (l : Literal). l.negative) c.new-lit.ensures) refl

pub part-requires-clause-room : goal.part-requires-clause-room
part-requires-clause-room c =
    room-for c.args.kernel.now c.args.u c.args.dependents.now (vec_capacity c.args.spare.now) c.requires.whole c.requires.spare

pub part-requires-clause-steps : goal.part-requires-clause-steps
part-requires-clause-steps c =
    can-part c.requires.applies.0 c.args.kernel.now c.args.u c.args.dependents.now c.sound.ensures c.requires.whole c.requires.applies.1 c.new-lit.result.var c.args.order.now c.greatest_var.result (ap (λ (l : Literal). l.var) c.new-lit.ensures) c.requires.order c.greatest_var.ensures c.requires.limits c.requires.room

pub drop_all-requires-clause-apart : goal.drop_all-requires-clause-apart
drop_all-requires-clause-apart c =
    subst (λ (l : Literal). MayLose c.part.new.kernel l) (sym c.new-lit.ensures) (may-first c.requires.applies.0 c.args.kernel.now c.args.u c.args.dependents.now c.sound.ensures c.requires.whole c.requires.applies.1 c.part.new.kernel (arrived c.requires.applies.0 c.args.kernel.now c.args.u c.args.dependents.now c.sound.ensures c.requires.whole c.requires.applies.1 c.new-lit.result.var c.args.order.now c.greatest_var.result (ap (λ (l : Literal). l.var) c.new-lit.ensures) c.requires.order c.greatest_var.ensures c.part.new.kernel c.requires.limits c.requires.room c.part.ensures))

pub drop_all-requires-clause-bytes : goal.drop_all-requires-clause-bytes
drop_all-requires-clause-bytes c =
    subst (λ (l : Literal). 16 * size_of (with_literal l (live (slots c.part.new.kernel))) ≤ c.part.new.kernel.spare_bytes) (sym c.new-lit.ensures) (bytes-first c.requires.applies.0 c.args.kernel.now c.args.u c.args.dependents.now c.sound.ensures c.requires.whole c.requires.applies.1 c.part.new.kernel (arrived c.requires.applies.0 c.args.kernel.now c.args.u c.args.dependents.now c.sound.ensures c.requires.whole c.requires.applies.1 c.new-lit.result.var c.args.order.now c.greatest_var.result (ap (λ (l : Literal). l.var) c.new-lit.ensures) c.requires.order c.greatest_var.ensures c.part.new.kernel c.requires.limits c.requires.room c.part.ensures))

pub drop_all-requires-2-clause-apart : goal.drop_all-requires-2-clause-apart
drop_all-requires-2-clause-apart c =
    subst (λ (l : Literal). MayLose c.drop_all.new.kernel l) (sym (c.negated.ensures ∙ ap negation c.new-lit.ensures)) (may-second c.requires.applies.0 c.args.kernel.now c.args.u c.args.dependents.now c.sound.ensures c.requires.whole c.requires.applies.1 c.part.new.kernel (arrived c.requires.applies.0 c.args.kernel.now c.args.u c.args.dependents.now c.sound.ensures c.requires.whole c.requires.applies.1 c.new-lit.result.var c.args.order.now c.greatest_var.result (ap (λ (l : Literal). l.var) c.new-lit.ensures) c.requires.order c.greatest_var.ensures c.part.new.kernel c.requires.limits c.requires.room c.part.ensures) c.drop_all.new.kernel (subst (λ (l : Literal). HasLost c.part.new.kernel c.drop_all.new.kernel l) c.new-lit.ensures c.drop_all.ensures))

pub drop_all-requires-2-clause-bytes : goal.drop_all-requires-2-clause-bytes
drop_all-requires-2-clause-bytes c =
    subst (λ (l : Literal). 16 * size_of (with_literal l (live (slots c.drop_all.new.kernel))) ≤ c.drop_all.new.kernel.spare_bytes) (sym (c.negated.ensures ∙ ap negation c.new-lit.ensures)) (bytes-second c.requires.applies.0 c.args.kernel.now c.args.u c.args.dependents.now c.sound.ensures c.requires.whole c.requires.applies.1 c.part.new.kernel (arrived c.requires.applies.0 c.args.kernel.now c.args.u c.args.dependents.now c.sound.ensures c.requires.whole c.requires.applies.1 c.new-lit.result.var c.args.order.now c.greatest_var.result (ap (λ (l : Literal). l.var) c.new-lit.ensures) c.requires.order c.greatest_var.ensures c.part.new.kernel c.requires.limits c.requires.room c.part.ensures) c.drop_all.new.kernel (subst (λ (l : Literal). HasLost c.part.new.kernel c.drop_all.new.kernel l) c.new-lit.ensures c.drop_all.ensures))

pub sweep_now-requires : goal.sweep_now-requires
sweep_now-requires c =
    (changed c.requires.applies.0 c.args.kernel.now c.args.u c.args.dependents.now c.sound.ensures c.requires.whole c.requires.applies.1 c.part.new.kernel (arrived c.requires.applies.0 c.args.kernel.now c.args.u c.args.dependents.now c.sound.ensures c.requires.whole c.requires.applies.1 c.new-lit.result.var c.args.order.now c.greatest_var.result (ap (λ (l : Literal). l.var) c.new-lit.ensures) c.requires.order c.greatest_var.ensures c.part.new.kernel c.requires.limits c.requires.room c.part.ensures) c.drop_all.new.kernel (subst (λ (l : Literal). HasLost c.part.new.kernel c.drop_all.new.kernel l) c.new-lit.ensures c.drop_all.ensures) c.drop_all-2.new.kernel (subst (λ (l : Literal). HasLost c.drop_all.new.kernel c.drop_all-2.new.kernel l) (c.negated.ensures ∙ ap negation c.new-lit.ensures) c.drop_all-2.ensures) c.part.ensures.led).bytes

pub returns : goal.returns
returns c =
    swept-result c.args.kernel.now c.drop_all-2.new.kernel c.sweep_now.new.self (expand_universal c.args.u) (changed c.requires.applies.0 c.args.kernel.now c.args.u c.args.dependents.now c.sound.ensures c.requires.whole c.requires.applies.1 c.part.new.kernel (arrived c.requires.applies.0 c.args.kernel.now c.args.u c.args.dependents.now c.sound.ensures c.requires.whole c.requires.applies.1 c.new-lit.result.var c.args.order.now c.greatest_var.result (ap (λ (l : Literal). l.var) c.new-lit.ensures) c.requires.order c.greatest_var.ensures c.part.new.kernel c.requires.limits c.requires.room c.part.ensures) c.drop_all.new.kernel (subst (λ (l : Literal). HasLost c.part.new.kernel c.drop_all.new.kernel l) c.new-lit.ensures c.drop_all.ensures) c.drop_all-2.new.kernel (subst (λ (l : Literal). HasLost c.drop_all.new.kernel c.drop_all-2.new.kernel l) (c.negated.ensures ∙ ap negation c.new-lit.ensures) c.drop_all-2.ensures) c.part.ensures.led) c.sweep_now.ensures.formula c.sweep_now.ensures.led
