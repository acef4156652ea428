use Rattle.std.proofs.Common.{◌≡◌, ◌∙◌, ℕ, List, [], ◌∷◌, Contains, Some, inl, inr, refl, sym, ap, subst, arith}
use Rattle.std.proofs.lemmas.List.Elements.{Contains-push_cases}
use Rattle.q_logic.specs.Prelude.{Literal, IsBelow, Clause, IsIn, slot, live, ArePairs}
use Rattle.q_logic.proofs.Common.{AllByRecursion-IsIn, not_itself_below, live-slot}
use Rattle.q_kernel.specs.Prelude.{slots}
use Rattle.q_kernel.proofs.ForLoops.{live-turn, all-came}
use Rattle.q_blocked.specs.Units.{IsSingle}
use Rattle.q_blocked.proofs.units.find_units.Goals as goal

-- an ordered clause of one literal is just that
single-one : (D : Clause) (s : IsSingle D) → ArePairs IsBelow D → D ≡ s.0 ∷ []
single-one [] s o = absurd s.1
single-one (i ∷ []) s o = ap (λ (j : Literal). j ∷ []) (s.2 i (inl refl))
single-one (i ∷ j ∷ D) s o = absurd (not_itself_below i j (s.2 i (inl refl) ∙ sym (s.2 j (inr (inl refl)))) o.0.0)

pub put_unit-requires : goal.put_unit-requires
put_unit-requires c = live-turn _ _ c.ids-id-items.ensures.live c.into_iter-id-iterator.ensures.into_iter_gives c.loop-id.yielded_by c.in-Some.ensures.steps

pub loop-id-init : goal.loop-id-init
loop-id-init c d D h = absurd (let i = h.1 in omega arith)

pub loop-id-preserved : goal.loop-id-preserved
loop-id-preserved c d D h e s = elim (Contains-push_cases c.loop-id.yielded c.in-Some.id d h) [
  | inl a ↦ c.in_ok-put_unit.ensures.kept d (c.loop-id.invariant d D a e s)
  | inr q ↦ subst (λ (x : ℕ). IsIn x c.put_unit.new.units.items) q (c.in_ok-put_unit.ensures.there D (subst (λ (x : ℕ). slot (slots c.args.kernel.now) x ≡ Some D) (sym q) e) s)
]

pub returns : goal.returns
returns c d D e s =
    let came = all-came _ c.into_iter-id-iterator.ensures.into_iter_gives c.loop-id.yielded_by c.in-None.ensures.steps.0 in
    c.loop-id.invariant d D (subst (λ (xs : List ℕ). Contains xs d) (sym came) (c.ids-id-items.ensures.all d (record { there = (D, e) }))) e s

pub returns-then-units-eq0 : goal.returns-then-units-eq0
returns-then-units-eq0 c d D e s =
    let k = c.args.kernel.now in
    let one = single-one D s (AllByRecursion-IsIn (ArePairs IsBelow) (live (slots k)) D c.sound.ensures.proper.ordered (live-slot (slots k) d D e)) in
    absurd (c.units.ensures.none (omega (arith, c.if-units-eq0.true)) d s.0 (e ∙ ap (λ (C : Clause). Some C) one))
