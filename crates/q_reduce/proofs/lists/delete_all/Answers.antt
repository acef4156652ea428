use Rattle.std.proofs.Common.{◌≡◌, true, sym, ◌∙◌, refl, subst, arith}
use Rattle.std.proofs.lemmas.Option.{same_Some}
use Rattle.q_logic.specs.Prelude.{Clause, IsIn, is_existential}
use Rattle.q_kernel.specs.Prelude.{HoldsLiteral}
use Rattle.q_rule.proofs.RuleSteps.{may-go_pure}
use Rattle.q_rule.proofs.RemovalLoops.{deleting-more, deleting-done, size-deleted, clause-bytes}
use Rattle.q_reduce.proofs.lists.delete_all.Goals as goal

pub loop-id-init : goal.loop-id-init
loop-id-init c = record {
  led = Rattle.q_kernel.proofs.KernelRuns.led-itself c.args.kernel.now;
  prefix = refl;
  same = refl;
  pure = c.requires.pure;
  limits = c.requires.limits;
  bytes = c.requires.bytes;
}

pub delete_pivot-requires : goal.delete_pivot-requires
delete_pivot-requires c =
    let k = c.loop-id.kernel in
    let held : HoldsLiteral k c.in-Some.id c.args.l = c.in-Some.ensures.some c.in-Some.id refl in
    may-go_pure k c.in-Some.id held.0 c.sound.ensures held.1 c.args.l held.2
    (subst (λ P. is_existential P c.args.l.var ≡ true) (sym c.loop-id.invariant.prefix) c.requires.existential)
    c.loop-id.invariant.pure (clause-bytes k c.in-Some.id held.0 held.1 c.loop-id.invariant.bytes)

pub loop-id-smaller : goal.loop-id-smaller
loop-id-smaller c =
    let d = c.delete_pivot.ensures in
    let z = size-deleted c.loop-id.kernel c.delete_pivot.new.self c.in-Some.id d.clause d.was d.change in
    omega arith

pub loop-id-preserved : goal.loop-id-preserved
loop-id-preserved c =
    let k = c.loop-id.kernel in
    let held : HoldsLiteral k c.in-Some.id c.args.l = c.in-Some.ensures.some c.in-Some.id refl in
    deleting-more c.args.l c.args.kernel.now k c.delete_pivot.new.self c.in-Some.id c.sound.ensures
    (λ C e. subst (λ (x : Clause). IsIn c.args.l x) (same_Some held.0 C (sym held.1 ∙ e)) held.2)
    c.loop-id.invariant c.delete_pivot.ensures

pub returns : goal.returns
returns c = deleting-done c.args.l c.args.kernel.now c.loop-id.kernel (c.in_default.ensures.none refl) c.loop-id.invariant
