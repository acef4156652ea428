use Rattle.std.proofs.Common.{◌≡◌, slice_get, sym, ◌∙◌, ap, subst, inl, inr, arith}
use Rattle.std.proofs.lemmas.Option.{same_Some}
use Rattle.q_logic.specs.Prelude.{Literal, negation, IsIn, live, Mergeable}
use Rattle.q_kernel.specs.Prelude.{slots}
use Rattle.q_logic.proofs.Common.{test-false, before_or_at, slice_get-IsIn, IsIn-slice_get}
use Rattle.q_equiv.proofs.LiteralPairs.{back-way, both-gathered}
use Rattle.q_equiv.proofs.find.pick.Goals as goal
use Rattle.q_equiv.proofs.find.pick.Goals.{else-has-via-then-has+else-can_stand_for, else-has-via-else-has}

pub returns-then-can_stand_for : goal.returns-then-can_stand_for
returns-then-can_stand_for c =
    let k = c.args.kernel.now in
    let X = live (slots k) in
    let keep = c.at-keep.result in
    let s = c.can_stand_for.ensures.0 c.if-can_stand_for.true in
    let b : IsIn (negation keep) c.args.back.now = subst (λ (x : Literal). IsIn x c.args.back.now) c.negated.ensures (c.has.ensures.0 c.if-has.true) in
    let m : Mergeable k.prefix X keep c.args.gone = record {
      different = s.different;
      existential = s.existential;
      kept_outer = s.kept_outer;
      to_gone = back-way X keep c.args.gone (c.requires.3.linked (negation keep) b);
      to_keep = c.requires.2.linked keep (slice_get-IsIn c.args.there.now c.loop-place.place keep c.at-keep.ensures);
    } in
    record {
      some = λ x e. subst (λ (y : Literal). Mergeable k.prefix X y c.args.gone) (same_Some keep x e) m;
      none = λ e. absurd (cc);
    }

pub loop-place-preserved : goal.loop-place-preserved
loop-place-preserved c j x low e m = elim (before_or_at j c.loop-place.place low) [
  | inl l ↦ c.loop-place.invariant j x l e m
  | inr q ↦
      let k = c.args.kernel.now in
      let X = live (slots k) in
      let keep = c.at-keep.result in
      let s : x ≡ keep = same_Some x keep (sym e ∙ (ap (slice_get c.args.there.now) q ∙ c.at-keep.ensures)) in
      let n : Mergeable k.prefix X keep c.args.gone = subst (λ (y : Literal). Mergeable k.prefix X y c.args.gone) s m in
      let both = both-gathered c.requires.0 k.prefix X keep c.args.gone c.args.there.now c.args.back.now c.requires.1 c.requires.2 c.requires.3 n in
      elim c.else-has.branch [
        | else-has-via-then-has+else-can_stand_for w ↦ test-false w.can_stand_for.result w.can_stand_for.ensures w.if-can_stand_for.false (record { different = n.different; existential = n.existential; kept_outer = n.kept_outer })
        | else-has-via-else-has w ↦ test-false c.has.result c.has.ensures w.if-has.false (subst (λ (y : Literal). IsIn y c.args.back.now) (sym c.negated.ensures) both.1)
      ]
]

pub returns : goal.returns
returns c = record {
  some = λ keep e. absurd (cc);
  none = λ e keep m.
      let k = c.args.kernel.now in
      let both = both-gathered c.requires.0 k.prefix (live (slots k)) keep c.args.gone c.args.there.now c.args.back.now c.requires.1 c.requires.2 c.requires.3 m in
      let r = IsIn-slice_get c.args.there.now keep both.0 in
      c.loop-place.invariant r.0 keep (let l = r.1 in omega arith) r.2 m;
}
