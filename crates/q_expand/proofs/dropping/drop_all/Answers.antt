use Rattle.std.proofs.Common.{◌∙◌, sym, subst, refl}
use Rattle.std.proofs.lemmas.Option.{same_Some}
use Rattle.q_logic.specs.Prelude.{IsIn}
use Rattle.q_kernel.specs.Prelude.{HoldsLiteral}
use Rattle.q_rule.proofs.RemovalLoops.{with-falls}
use Rattle.q_expand.proofs.LiteralLosses.{losing-begun, may-lose, losing-room, losing-more, losing-done}
use Rattle.q_expand.proofs.dropping.drop_all.Goals as goal

pub loop-place-init : goal.loop-place-init
loop-place-init c = losing-begun c.args.lit c.args.kernel.now c.requires.apart

pub owner-id-requires : goal.owner-id-requires
owner-id-requires c = (c.args.lit, c.in-Some.ensures.there c.in-Some.place refl)

pub drop_lit-requires : goal.drop_lit-requires
drop_lit-requires c =
    let k = c.loop-place.kernel in
    let held : HoldsLiteral k c.owner-id.result c.args.lit = c.owner-id.ensures.holds c.args.lit (c.in-Some.ensures.there c.in-Some.place refl) in
    may-lose c.args.lit k c.owner-id.result held.0 c.sound.ensures held.1 held.2 c.loop-place.invariant.may (losing-room c.args.lit c.args.kernel.now k c.owner-id.result held.0 held.1 held.2 c.requires.bytes c.loop-place.invariant)

pub loop-place-smaller : goal.loop-place-smaller
loop-place-smaller c =
    let k = c.loop-place.kernel in
    let held : HoldsLiteral k c.owner-id.result c.args.lit = c.owner-id.ensures.holds c.args.lit (c.in-Some.ensures.there c.in-Some.place refl) in
    let d = c.drop_lit.ensures in
    with-falls c.args.lit k c.drop_lit.new.self c.owner-id.result d.clause d.was (subst (IsIn c.args.lit) (same_Some held.0 d.clause (sym held.1 ∙ d.was)) held.2) d.change

pub loop-place-preserved : goal.loop-place-preserved
loop-place-preserved c =
    let k = c.loop-place.kernel in
    let held : HoldsLiteral k c.owner-id.result c.args.lit = c.owner-id.ensures.holds c.args.lit (c.in-Some.ensures.there c.in-Some.place refl) in
    losing-more c.args.lit c.args.kernel.now k c.drop_lit.new.self c.owner-id.result c.sound.ensures (λ C e. subst (IsIn c.args.lit) (same_Some held.0 C (sym held.1 ∙ e)) held.2) c.loop-place.invariant c.drop_lit.ensures

pub returns : goal.returns
returns c = losing-done c.args.lit c.args.kernel.now c.loop-place.kernel (c.first.ensures.none c.in_default.is) c.loop-place.invariant
