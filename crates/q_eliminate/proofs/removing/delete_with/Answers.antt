use Rattle.std.proofs.Common.{◌∙◌, refl, sym, subst, arith}
use Rattle.std.proofs.lemmas.Option.{same_Some}
use Rattle.q_logic.specs.Prelude.{Clause, IsIn}
use Rattle.q_kernel.specs.Prelude.{HoldsLiteral}
use Rattle.q_rule.proofs.RemovalLoops.{size-deleted}
use Rattle.q_eliminate.proofs.DeletedClauses.{shrinking-begun, may-shrink, shrinking-more, shrinking-done}
use Rattle.q_eliminate.proofs.removing.delete_with.Goals as goal

pub loop-id-init : goal.loop-id-init
loop-id-init c = shrinking-begun c.args.lit c.args.kernel.now c.requires.bytes

pub delete_pivot-requires : goal.delete_pivot-requires
delete_pivot-requires c =
    let k = c.loop-id.kernel in
    let held : HoldsLiteral k c.in-Some.id c.args.lit = c.in-Some.ensures.some c.in-Some.id refl in
    may-shrink c.args.lit c.args.kernel.now k c.in-Some.id held.0 c.requires.pivot c.loop-id.invariant c.sound.ensures held.1 held.2

pub loop-id-smaller : goal.loop-id-smaller
loop-id-smaller c =
    let d = c.delete_pivot.ensures in
    let z = size-deleted c.loop-id.kernel c.delete_pivot.new.self c.in-Some.id d.clause d.was d.change in
    omega arith

pub loop-id-preserved : goal.loop-id-preserved
loop-id-preserved c =
    let k = c.loop-id.kernel in
    let held : HoldsLiteral k c.in-Some.id c.args.lit = c.in-Some.ensures.some c.in-Some.id refl in
    shrinking-more c.args.lit c.args.kernel.now k c.delete_pivot.new.self c.in-Some.id c.sound.ensures
    (λ C e. subst (λ (x : Clause). IsIn c.args.lit x) (same_Some held.0 C (sym held.1 ∙ e)) held.2)
    c.loop-id.invariant c.delete_pivot.ensures

pub returns : goal.returns
returns c = shrinking-done c.args.lit c.args.kernel.now c.loop-id.kernel (c.in_default.ensures.none refl) c.loop-id.invariant
