use Rattle.std.proofs.Common.{◌↔◌, [], Bool, IsTrue, ℕ, sym, subst}
use Rattle.std.specs.Prelude.{MatchOption}
use Rattle.q_logic.specs.Prelude.{IsIn, Slots}
use Rattle.q_prop.specs.Slots.{filled, Holds}
use Rattle.q_check.specs.Checked.{Checked}
use Rattle.q_check.proofs.EmptyClause.{found-empty}
use Rattle.q_check.proofs.checker.Checker.has_empty.Goals as goal

pub returns : goal.returns
returns c =
    let s : Slots = c.self.inside.ledger.slots in
    let f : MatchOption c.find.result ((at : ℕ) → Holds s at [] → ⊥) (λ at. Holds s at []) =
    subst (λ (t : Slots). MatchOption c.find.result ((at : ℕ) → Holds t at [] → ⊥) (λ at. Holds t at [])) c.store.ensures c.find.ensures in
    subst (λ (x : Checked). IsTrue c.is_some.result ↔ IsIn [] x.formula.matrix) c.self.view_is
    (subst (λ (b : Bool). IsTrue b ↔ IsIn [] (filled s)) (sym c.is_some.ensures) (found-empty s [] c.find.result f))
