use Rattle.std.proofs.Common.{◌≡◌, ◌∷◌, ◌++◌, [], sym, ◌∙◌, subst, refl, inl, inr}
use Rattle.std.proofs.lemmas.Option.{same_Some}
use Rattle.q_logic.specs.Prelude.{Clause}
use Rattle.q_equiv.specs.Walks.{IsSpread}
use Rattle.q_equiv.proofs.BinaryWalks.{spread-none, spread-there, spread-pushed}
use Rattle.q_equiv.proofs.joined.follow.Goals as goal
use Rattle.q_equiv.proofs.joined.follow.Goals.{else-of-via-then-of+else-not-has, else-of-via-else-of}

pub returns-in_ok-push : goal.returns-in_ok-push
returns-in_ok-push c D e =
    let q : c.clause_of.result.now ≡ D = same_Some c.clause_of.result.now D (sym c.clause_of.ensures.clause ∙ e) in
    let C = c.clause_of.result.now in
    let next = c.in-Some.next in
    rw c.in_ok-push.ensures.ok
    (subst (λ (E : Clause). IsSpread c.args.levels.now (E ∷ []) c.args.lit c.args.queue.now (c.args.queue.now ++ next ∷ [])) q
    (spread-pushed c.args.levels.now C c.args.lit next c.args.queue.now (λ y b. same_Some next y ((c.in-Some.ensures y).1 b)) ((c.in-Some.ensures next).0 refl) (sym c.of.ensures ∙ (c.if-of.true ∙ c.of-in-Some.ensures))))

pub returns-else-of : goal.returns-else-of
returns-else-of c D e =
    let q : c.clause_of.result.now ≡ D = same_Some c.clause_of.result.now D (sym c.clause_of.ensures.clause ∙ e) in
    let C = c.clause_of.result.now in
    let next = c.in-Some.next in
    subst (λ (E : Clause). IsSpread c.args.levels.now (E ∷ []) c.args.lit c.args.queue.now c.args.queue.now) q
    (spread-there c.args.levels.now C c.args.lit next c.args.queue.now (λ y b. same_Some next y ((c.in-Some.ensures y).1 b))
    (elim c.else-of.branch [
      | else-of-via-then-of+else-not-has w ↦ inl (w.has.ensures.0 w.if-not-has.false)
      | else-of-via-else-of w ↦ inr (λ g. w.if-of.false (c.of.ensures ∙ (g ∙ sym c.of-in-Some.ensures)))
    ]))

pub returns-in_default : goal.returns-in_default
returns-in_default c D e =
    let q : c.clause_of.result.now ≡ D = same_Some c.clause_of.result.now D (sym c.clause_of.ensures.clause ∙ e) in
    let C = c.clause_of.result.now in
    subst (λ (E : Clause). IsSpread c.args.levels.now (E ∷ []) c.args.lit c.args.queue.now c.args.queue.now) q
    (spread-none c.args.levels.now C c.args.lit c.args.queue.now (λ y b. c.in_default.not-Some y ((c.partner.ensures y).1 b)))
