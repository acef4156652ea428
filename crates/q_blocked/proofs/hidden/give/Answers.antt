use Rattle.std.proofs.Common.{◌≡◌, ◌++◌, ◌∷◌, [], true, None, refl, sym, subst, inl}
use Rattle.q_logic.specs.Prelude.{Literal, negation, Clause, IsIn, is_bound, others}
use Rattle.q_logic.proofs.Common.{live-slot, others-slot, IsIn-append_right, test-false}
use Rattle.q_kernel.specs.Prelude.{slots}
use Rattle.q_blocked.specs.Walks.{GivesNoneAt}
use Rattle.q_blocked.specs.Growths.{IsGrowing, IsAsked, IsCovered}
use Rattle.q_rule.proofs.IdClauses.{slot-one}
use Rattle.q_blocked.proofs.ReachedSets.{reached-hidden, covered-tautology}
use Rattle.q_blocked.proofs.SetGrowth.{growing-hidden, gives_none-given}
use Rattle.q_blocked.proofs.AskedPlaces.{asked-hidden}
use Rattle.q_blocked.proofs.hidden.give.Goals as goal

pub returns-then-has : goal.returns-then-has
returns-then-has c =
    let k = c.args.kernel.now in
    let S : Clause = c.args.growth.now.set in
    let ss = c.args.growth.now.plan.stages.items in
    let base = c.args.growth.now.base in
    let new : Literal = c.args.new in
    let X = others c.args.c (slots k) in
    let h = c.requires.gives in
    let g = c.requires.growing.2 in
    let m : IsIn h.0 X = others-slot (slots k) c.args.d c.args.c h.0 h.1.0 h.1.1 in
    let b : is_bound k.prefix new.var ≡ true = c.sound.ensures.proper.formula.closed h.0 (live-slot (slots k) c.args.d h.0 h.1.1) (negation new) h.2.negated in
    let e : c.push.new.self ≡ S ++ new ∷ [] = c.in_ok-push.ensures.ok in
    let t : IsIn (negation new) c.push.new.self = (rw c.negated.ensures at c.has.ensures).0 c.if-has.true in (
      c.requires.growing.0,
      c.requires.growing.1,
      subst (λ (T : Clause). IsCovered k.prefix X c.requires.growing.0 T ss base None) (sym e)
          (covered-tautology k.prefix X c.requires.growing.0 (S ++ new ∷ []) ss base (reached-hidden k.prefix X c.requires.growing.0 S ss base g.reached h.0 new m h.2 b)
          (new, IsIn-append_right new S (new ∷ []) (inl refl), subst (λ (T : Clause). IsIn (negation new) T) e t)),
    )

pub returns : goal.returns
returns c =
    let k = c.args.kernel.now in
    let S : Clause = c.args.growth.now.set in
    let ss = c.args.growth.now.plan.stages.items in
    let base = c.args.growth.now.base in
    let worked = c.args.growth.now.worked in
    let places = c.args.growth.now.asked.items in
    let new : Literal = c.args.new in
    let X = others c.args.c (slots k) in
    let h = c.requires.gives in
    let g = c.requires.growing.2 in
    let m : IsIn h.0 X = others-slot (slots k) c.args.d c.args.c h.0 h.1.0 h.1.1 in
    let b : is_bound k.prefix new.var ≡ true = c.sound.ensures.proper.formula.closed h.0 (live-slot (slots k) c.args.d h.0 h.1.1) (negation new) h.2.negated in
    let e : c.push.new.self ≡ S ++ new ∷ [] = c.in_ok-push.ensures.ok in
    let n : IsIn (negation new) (S ++ new ∷ []) → ⊥ = subst (λ (T : Clause). IsIn (negation new) T → ⊥) e (test-false c.has.result (rw c.negated.ensures at c.has.ensures) c.if-has.false) in (
      (
        c.requires.growing.0,
        c.requires.growing.1,
        subst (λ (T : Clause). IsGrowing k.prefix X c.requires.growing.0 T ss base worked) (sym e) (growing-hidden k.prefix X c.requires.growing.0 S ss base worked g h.0 new m h.2 b n),
        subst (λ (T : Clause). IsAsked X T places) (sym e) (asked-hidden X S h.0 new places m h.2 c.requires.growing.3),
      ),
      record { added = new ∷ []; set = e; stages = refl; base = refl; worked = refl },
      λ E r. subst (λ (T : Clause). GivesNoneAt S T E) (sym e) (subst (λ (D : Clause). GivesNoneAt S (S ++ new ∷ []) D) (slot-one (slots k) c.args.d h.0 E h.1.1 r.1) (gives_none-given S h.0 new h.2 n)),
    )
