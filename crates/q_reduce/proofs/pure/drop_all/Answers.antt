use Rattle.std.proofs.Common.{◌≡◌, true, sym, ◌∙◌, refl, subst}
use Rattle.q_logic.specs.Prelude.{negation, Clause, IsIn, is_universal, Slots, live, OccursIn, drop_literal}
use Rattle.q_log.specs.Texts.{step_text}
use Rattle.std.proofs.Common.{length}
use Rattle.std.proofs.lemmas.Option.{same_Some}
use Rattle.q_kernel.specs.Prelude.{slots, HoldsLiteral}
use Rattle.q_kernel.proofs.KernelRuns.{led-itself}
use Rattle.q_rule.proofs.RuleSteps.{may-drop_pure, drop-cost}
use Rattle.q_rule.proofs.LoopChanges.{shorter-in}
use Rattle.q_rule.proofs.RemovalLoops.{clearing-bytes, clearing-more, clearing-done, with-falls}
use Rattle.q_reduce.proofs.pure.drop_all.Goals as goal

pub loop-id-init : goal.loop-id-init
loop-id-init c = record {
  clearing = record { led = led-itself c.args.kernel.now; prefix = refl; same = refl; limits = c.requires.limits; bytes = c.requires.bytes };
  pure = c.requires.pure;
}

pub drop_lit-requires : goal.drop_lit-requires
drop_lit-requires c =
    let k = c.loop-id.kernel in
    let held : HoldsLiteral k c.in-Some.id c.args.l = c.in-Some.ensures.some c.in-Some.id refl in
    may-drop_pure k c.in-Some.id held.0 c.sound.ensures held.1 c.args.l held.2
    (subst (λ P. is_universal P c.args.l.var ≡ true) (sym c.loop-id.invariant.clearing.prefix) c.requires.universal)
    c.loop-id.invariant.pure (clearing-bytes 16 c.args.l k c.in-Some.id held.0 held.1 held.2 c.loop-id.invariant.clearing.bytes)

pub loop-id-smaller : goal.loop-id-smaller
loop-id-smaller c =
    let k = c.loop-id.kernel in
    let held : HoldsLiteral k c.in-Some.id c.args.l = c.in-Some.ensures.some c.in-Some.id refl in
    let d = c.drop_lit.ensures in
    with-falls c.args.l k c.drop_lit.new.self c.in-Some.id d.clause d.was (subst (λ (x : Clause). IsIn c.args.l x) (same_Some held.0 d.clause (sym held.1 ∙ d.was)) held.2) d.change

pub loop-id-preserved : goal.loop-id-preserved
loop-id-preserved c =
    let k = c.loop-id.kernel in
    let held : HoldsLiteral k c.in-Some.id c.args.l = c.in-Some.ensures.some c.in-Some.id refl in
    let d = c.drop_lit.ensures in
    let m : IsIn c.args.l d.clause = subst (λ (x : Clause). IsIn c.args.l x) (same_Some held.0 d.clause (sym held.1 ∙ d.was)) held.2 in
    record {
      clearing = clearing-more 16 c.args.l c.args.kernel.now k c.drop_lit.new.self c.in-Some.id (length (step_text (drop_literal c.args.l d.clause))) d.clause d.was m d.change d.prefix d.logged.led d.logged.bytes
          (drop-cost k c.in-Some.id d.clause c.sound.ensures d.was c.args.l m) c.loop-id.invariant.clearing;
      pure = λ o. c.loop-id.invariant.pure (shorter-in c.args.l (negation c.args.l) (slots k) c.in-Some.id d.clause d.was (subst (λ (N : Slots). OccursIn (negation c.args.l) (live N)) d.change o));
    }

pub returns : goal.returns
returns c = clearing-done 16 c.args.l c.args.kernel.now c.loop-id.kernel (c.in_default.ensures.none refl) c.loop-id.invariant.clearing
