use Rattle.std.proofs.Common.{◌≡◌, ◌≢◌, ◌+◌, ◌∷◌, [], ℕ, Some, sym, ◌∙◌, ap, refl, subst, length}
use Rattle.std.proofs.lemmas.Option.{same_Some}
use Rattle.q_logic.specs.Prelude.{Literal, negation, Clause, IsIn, without, Slots, slot, add, delete, first_of}
use Rattle.q_logic.proofs.Common.{live-slot, slot-set_other}
use Rattle.q_log.specs.Texts.{step_text}
use Rattle.q_kernel.specs.Prelude.{slots, HoldsLiteral, MayShrink, IsShrunk}
use Rattle.q_kernel.proofs.KernelRuns.{led-itself}
use Rattle.q_rule.proofs.RuleSteps.{may-shrink_unit, shrink-cost}
use Rattle.q_rule.proofs.RemovalLoops.{clearing-bytes, clearing-more, clearing-done, with-falls, not_own}
use Rattle.q_reduce.proofs.unit.shrink_all.Goals as goal

-- the clause that was shortened is not the unit clause
other : (N : Slots) (c id : ℕ) (l : Literal) (C : Clause) → slot N c ≡ Some (l ∷ []) → slot N id ≡ Some C → IsIn (negation l) C → c ≢ id
other N c id l C u e m q = not_own l C m (same_Some C (l ∷ []) (sym e ∙ (ap (slot N) (sym q) ∙ u)))

pub loop-id-init : goal.loop-id-init
loop-id-init c = record {
  clearing = record { led = led-itself c.args.kernel.now; prefix = refl; same = refl; limits = c.requires.limits; bytes = c.requires.bytes };
  unit = c.requires.unit;
}

pub shrink-requires : goal.shrink-requires
shrink-requires c =
    let k = c.loop-id.kernel in
    let held : HoldsLiteral k c.in-Some.id (negation c.args.l) = subst (λ (x : Literal). HoldsLiteral k c.in-Some.id x) c.negated-gone.ensures (c.in-Some.ensures.some c.in-Some.id refl) in
    subst (λ (x : Literal). MayShrink k c.in-Some.id x) (sym c.negated-gone.ensures)
    (may-shrink_unit k c.in-Some.id held.0 c.sound.ensures held.1 c.args.l held.2 (live-slot (slots k) c.loop-id.invariant.unit.0 (c.args.l ∷ []) c.loop-id.invariant.unit.1) c.loop-id.invariant.clearing.limits
    (clearing-bytes 32 (negation c.args.l) k c.in-Some.id held.0 held.1 held.2 c.loop-id.invariant.clearing.bytes))

pub loop-id-smaller : goal.loop-id-smaller
loop-id-smaller c =
    let k = c.loop-id.kernel in
    let held : HoldsLiteral k c.in-Some.id (negation c.args.l) = subst (λ (x : Literal). HoldsLiteral k c.in-Some.id x) c.negated-gone.ensures (c.in-Some.ensures.some c.in-Some.id refl) in
    let d : IsShrunk k c.shrink.new.self c.in-Some.id (negation c.args.l) = subst (λ (x : Literal). IsShrunk k c.shrink.new.self c.in-Some.id x) c.negated-gone.ensures c.shrink.ensures in
    with-falls (negation c.args.l) k c.shrink.new.self c.in-Some.id d.clause d.was (subst (λ (x : Clause). IsIn (negation c.args.l) x) (same_Some held.0 d.clause (sym held.1 ∙ d.was)) held.2) d.change

pub loop-id-preserved : goal.loop-id-preserved
loop-id-preserved c =
    let k = c.loop-id.kernel in
    let m = negation c.args.l in
    let held : HoldsLiteral k c.in-Some.id m = subst (λ (x : Literal). HoldsLiteral k c.in-Some.id x) c.negated-gone.ensures (c.in-Some.ensures.some c.in-Some.id refl) in
    let d : IsShrunk k c.shrink.new.self c.in-Some.id m = subst (λ (x : Literal). IsShrunk k c.shrink.new.self c.in-Some.id x) c.negated-gone.ensures c.shrink.ensures in
    let i : IsIn m d.clause = subst (λ (x : Clause). IsIn m x) (same_Some held.0 d.clause (sym held.1 ∙ d.was)) held.2 in
    record {
      clearing = clearing-more 32 m c.args.kernel.now k c.shrink.new.self c.in-Some.id (length (step_text (add (first_of (without m d.clause)) (without m d.clause))) + length (step_text (delete (first_of d.clause) d.clause))) d.clause d.was i d.change d.prefix d.led d.bytes
          (shrink-cost k c.in-Some.id d.clause c.sound.ensures d.was m) c.loop-id.invariant.clearing;
      unit = (
        c.loop-id.invariant.unit.0,
        subst (λ (N : Slots). slot N c.loop-id.invariant.unit.0 ≡ Some (c.args.l ∷ [])) (sym d.change)
            (slot-set_other c.in-Some.id c.loop-id.invariant.unit.0 (Some (without m d.clause)) (slots k) (other (slots k) c.loop-id.invariant.unit.0 c.in-Some.id c.args.l d.clause c.loop-id.invariant.unit.1 d.was i) ∙ c.loop-id.invariant.unit.1),
      );
    }

pub returns : goal.returns
returns c =
    let none = rw c.negated-gone.ensures at c.in_default.ensures.none refl in
    clearing-done 32 (negation c.args.l) c.args.kernel.now c.loop-id.kernel none c.loop-id.invariant.clearing
