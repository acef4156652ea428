use Rattle.std.proofs.Common.{◌∙◌, Some, refl, sym, inl, inr, true≢false}
use Rattle.q_logic.specs.Prelude.{Literal, negation, Clause, Matrix, Prefix, without, Reducible, IsDroppable}
use Rattle.q_logic.proofs.Common.{ok-iff, test-false}
use Rattle.q_prop.specs.Slots.{filled}
use Rattle.q_prop.specs.Slots.{without as without_slot}
use Rattle.q_judge.specs.Warrants.{Resolves}
use Rattle.q_judge.proofs.ledger.Ledger.is_droppable.Goals as goal

still : (P : Prefix) (X : Matrix) (C : Clause) (l : Literal) → (Reducible P X C l → ⊥) → IsDroppable P X C l → Resolves P X (without l C) (negation l)
still P X C l n (inl h) = h.implied
still P X C l n (inr h) = absurd (n h)

pub returns-then-not-may_go-clause-exact : goal.returns-then-not-may_go-clause-exact
returns-then-not-may_go-clause-exact c =
    let X = filled (without_slot c.args.self.now.slots (Some c.args.at)) in
    ((λ t. absurd (true≢false (sym t))), (λ h. absurd (true≢false (sym (c.may_go.ensures.no X h) ∙ c.if-not-may_go.true))))

pub returns-then-is_told-clause-exact : goal.returns-then-is_told-clause-exact
returns-then-is_told-clause-exact c = ((λ t. inr (c.is_told.ensures c.if-is_told.true)), (λ h. refl))

pub returns-clause-exact : goal.returns-clause-exact
returns-clause-exact c =
    let P = c.args.self.now.prefix in
    let X = filled (without_slot c.args.self.now.slots (Some c.args.at)) in
    let C = c.args.clause.now in
    let may = c.may_go.ensures.yes c.if-not-may_go.false in
    let reach = rw c.in_ok-resolves_evidently.ensures.same at c.in_ok-is_reducible.ensures.exact in
    let gone : Reducible P X C c.args.lit → ⊥ = test-false c.in_ok-is_reducible.field-0 reach c.if-branch-2.false in
    ok-iff c.resolves.result (
      (λ r. inl (record { universal_pivot = may.0; in_clause = c.requires.held; not_negated = may.1; implied = r })),
      still P X C c.args.lit gone,
    )
    (rw (c.in_ok-is_reducible.ensures.same, c.in_ok-resolves_evidently.ensures.same, c.negated-2.ensures, c.requires.rest) at c.resolves.ensures.exact)
