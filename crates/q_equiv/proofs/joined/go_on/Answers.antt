use Rattle.std.proofs.Common.{◌≡◌, ◌∷◌, ◌++◌, [], sym, ◌∙◌, subst, refl, inl}
use Rattle.std.proofs.lemmas.Option.{same_Some}
use Rattle.q_logic.specs.Prelude.{Clause}
use Rattle.q_equiv.specs.Walks.{IsSpread}
use Rattle.q_equiv.proofs.BinaryWalks.{spread-none, spread-there, spread-pushed}
use Rattle.q_equiv.proofs.joined.go_on.Goals as goal

pub returns-in_ok-push : goal.returns-in_ok-push
returns-in_ok-push c D e =
    let q : c.clause_of.result.now ≡ D = same_Some c.clause_of.result.now D (sym c.clause_of.ensures.clause ∙ e) in
    let C = c.clause_of.result.now in
    let next = c.in-Some.next in
    rw c.in_ok-push.ensures.ok
    (subst (λ (E : Clause). IsSpread [] (E ∷ []) c.args.lit c.args.queue.now (c.args.queue.now ++ next ∷ [])) q
    (spread-pushed [] C c.args.lit next c.args.queue.now (λ y b. same_Some next y ((c.in-Some.ensures y).1 b)) ((c.in-Some.ensures next).0 refl) refl))

pub returns-else-not-has : goal.returns-else-not-has
returns-else-not-has c D e =
    let q : c.clause_of.result.now ≡ D = same_Some c.clause_of.result.now D (sym c.clause_of.ensures.clause ∙ e) in
    let C = c.clause_of.result.now in
    let next = c.in-Some.next in
    subst (λ (E : Clause). IsSpread [] (E ∷ []) c.args.lit c.args.queue.now c.args.queue.now) q
    (spread-there [] C c.args.lit next c.args.queue.now (λ y b. same_Some next y ((c.in-Some.ensures y).1 b)) (inl (c.has.ensures.0 c.if-not-has.false)))

pub returns-in_default : goal.returns-in_default
returns-in_default c D e =
    let q : c.clause_of.result.now ≡ D = same_Some c.clause_of.result.now D (sym c.clause_of.ensures.clause ∙ e) in
    let C = c.clause_of.result.now in
    subst (λ (E : Clause). IsSpread [] (E ∷ []) c.args.lit c.args.queue.now c.args.queue.now) q
    (spread-none [] C c.args.lit c.args.queue.now (λ y b. c.in_default.not-Some y ((c.partner.ensures y).1 b)))
