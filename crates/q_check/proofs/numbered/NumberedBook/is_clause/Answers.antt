use Rattle.std.proofs.Common.{◌≡◌, ◌∙◌, Some, sym, ap, true≢false}
use Rattle.q_logic.specs.Prelude.{Clause}
use Rattle.q_prop.proofs.HintSteps.{slot-Holds, Holds-slot}
use Rattle.q_check.proofs.HintSlots.{placed-there, nothing-there}
use Rattle.q_check.proofs.numbered.NumberedBook.is_clause.Goals as goal

same_some : (C D : Clause) → Some C ≡ Some D → C ≡ D
same_some C D e = cc

pub returns-in_default : goal.returns-in_default
returns-in_default c =
    let s = c.self.inside.ledger.slots in
    let ps = c.self.inside.numbers in
    rw (← c.self.view_is) ((λ t. absurd (true≢false (sym t))), (λ e. absurd (nothing-there s ps c.args.number c.args.clause.now (sym c.slot_of.ensures ∙ c.in_default.is) e)))

pub returns-in-Some-slot : goal.returns-in-Some-slot
returns-in-Some-slot c =
    let s = c.self.inside.ledger.slots in
    let ps = c.self.inside.numbers in
    let held = c.in-Some-slot.held.now in
    let h = rw c.store.ensures at c.in-Some-slot.ensures in
    let e = placed-there s ps c.args.number c.in-Some.at (sym c.slot_of.ensures ∙ c.in-Some.is) ∙ Holds-slot s c.in-Some.at held h in
    rw (← c.self.view_is) ((λ t. e ∙ ap Some (c.are_same.ensures.0 t)), (λ f. c.are_same.ensures.1 (same_some held c.args.clause.now (sym e ∙ f))))

pub returns-in-None : goal.returns-in-None
returns-in-None c =
    let s = c.self.inside.ledger.slots in
    let ps = c.self.inside.numbers in
    let n = rw c.store.ensures at c.in-None.ensures in
    let e = placed-there s ps c.args.number c.in-Some.at (sym c.slot_of.ensures ∙ c.in-Some.is) in
    rw (← c.self.view_is) ((λ t. absurd (true≢false (sym t))), (λ f. absurd (n c.args.clause.now (slot-Holds s c.in-Some.at c.args.clause.now (sym e ∙ f)))))
