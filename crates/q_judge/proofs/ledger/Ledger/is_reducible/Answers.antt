use Rattle.std.proofs.Common.{Some, inr, sym, ◌∙◌, true≢false}
use Rattle.q_prop.specs.Slots.{filled, without}
use Rattle.q_judge.proofs.ledger.Ledger.is_reducible.Goals as goal

pub returns-then-not-may_go-clause-exact : goal.returns-then-not-may_go-clause-exact
returns-then-not-may_go-clause-exact c =
    let X = filled (without c.args.self.now.slots (Some c.args.at)) in
    ((λ t. absurd (true≢false (sym t))), (λ h. absurd (true≢false (sym (c.may_go.ensures.no X (inr h)) ∙ c.if-not-may_go.true))))
