use Rattle.std.proofs.Common.{List, ℕ, Option, subst, sym, refl}
use Rattle.q_logic.specs.Prelude.{Prefix, Distinct}
use Rattle.q_certificate.specs.Prelude.{IsNamed, AreLiterals, InputsAt, is_there, look_at}
use Rattle.q_logic.specs.Exchanging.{exchanged}
use Rattle.q_logic.proofs.Exchanged.{exchanged-distinct}
use Rattle.q_herbrand.specs.Slots.{AreOwned}
use Rattle.q_herbrand.specs.Inputs.{AreOpened}
use Rattle.q_herbrand.specs.Drafted.{IsChosen}
use Rattle.q_herbrand.proofs.InputEntries.{inputs-literals, inputs-at}
use Rattle.q_herbrand.proofs.RunCircuits.{end-follows, widened}
use Rattle.q_herbrand.proofs.ChosenCircuits.{chosen-literals}
use Rattle.q_herbrand.proofs.carrying.carry.Goals as goal

pub settle-requires-clause-slots : goal.settle-requires-clause-slots
settle-requires-clause-slots c = c.in_ok-draft.ensures.ready.slots

pub settle-requires-clause-owned : goal.settle-requires-clause-owned
settle-requires-clause-owned c =
    subst (λ (ins : List (Option ℕ)). AreOwned c.in_ok-draft.draft.aig.inputs ins c.in_ok-draft.draft.slots)
    (sym c.in_ok-draft.ensures.inputs) c.in_ok-draft.ensures.ready.owned

pub settle-requires-clause-inputs : goal.settle-requires-clause-inputs
settle-requires-clause-inputs c =
    subst (AreLiterals c.open.new.aig) (sym c.in_ok-draft.ensures.inputs)
    (inputs-literals c.open.new.aig c.open.new.aig.inputs c.in_ok-inputs.inputs.items c.in_ok-inputs.ensures.inputs
    refl)

pub settle-requires-clause-at : goal.settle-requires-clause-at
settle-requires-clause-at c =
    subst (λ (ins : List (Option ℕ)). InputsAt c.open.new.aig ins (λ x. is_there (look_at ins x)))
    (sym c.in_ok-draft.ensures.inputs)
    (inputs-at c.open.new.aig c.open.new.aig.inputs c.in_ok-inputs.inputs.items c.in_ok-inputs.ensures.inputs refl)

pub settle-requires-clause-resolved : goal.settle-requires-clause-resolved
settle-requires-clause-resolved c =
    let opened : AreOpened c.open.new.aig c.in_ok-inputs.inputs.items c.args.input.now.prefix c.args.reversals.now =
    subst (λ (P : Prefix). AreOpened c.open.new.aig c.in_ok-inputs.inputs.items P c.args.reversals.now)
    c.prefix-prefix.ensures.value c.in_ok-inputs.ensures in
    let f = end-follows c.args.input.now c.args.reversals.now c.args.given.now c.open.new.aig
    c.in_ok-inputs.inputs.items c.in_ok-draft.draft c.prefix-prefix.ensures.proper.formula c.requires.run opened
    c.in_ok-draft.ensures in
    (f.resolution, f.resolved)

pub choose-requires-clause-distinct : goal.choose-requires-clause-distinct
choose-requires-clause-distinct c = subst Distinct (sym c.requires.turned)
    (exchanged-distinct c.args.input.now.prefix c.prefix-prefix.ensures.proper.formula.distinct)

pub choose-requires-clause-written : goal.choose-requires-clause-written
choose-requires-clause-written c = record {
  circuits = c.in_ok-draft.ensures.ready.circuits;
  room = c.in_ok-settled.ensures.rows.gates_room;
}

pub name_outputs-requires-clause-distinct : goal.name_outputs-requires-clause-distinct
name_outputs-requires-clause-distinct c = subst Distinct (sym c.requires.turned)
    (exchanged-distinct c.args.input.now.prefix c.prefix-prefix.ensures.proper.formula.distinct)

pub name_outputs-requires-clause-literals : goal.name_outputs-requires-clause-literals
name_outputs-requires-clause-literals c =
    chosen-literals c.args.turned.now c.in_ok-draft.draft c.in_ok-settled.settled c.settle.new.aig
    c.in_ok-draft.draft.slots c.in_ok-row.row.items c.in_ok-settled.ensures.rows c.in_ok-row.ensures

pub returns : goal.returns
returns c =
    let opened : AreOpened c.open.new.aig c.in_ok-inputs.inputs.items c.args.input.now.prefix c.args.reversals.now =
    subst (λ (P : Prefix). AreOpened c.open.new.aig c.in_ok-inputs.inputs.items P c.args.reversals.now)
    c.prefix-prefix.ensures.value c.in_ok-inputs.ensures in
    let chosen : IsChosen (exchanged c.args.input.now.prefix) c.in_ok-draft.draft c.in_ok-settled.settled
    c.in_ok-row.row.items = subst (λ (P : Prefix). IsChosen P c.in_ok-draft.draft c.in_ok-settled.settled
    c.in_ok-row.row.items) c.requires.turned c.in_ok-row.ensures in
    let named : IsNamed c.settle.new.aig c.in_ok-made.made c.in_ok-row.row.items
    (exchanged c.args.input.now.prefix) = subst (IsNamed c.settle.new.aig c.in_ok-made.made c.in_ok-row.row.items)
    c.requires.turned c.in_ok-made.ensures in
    widened c.args.input.now c.args.reversals.now c.args.given.now c.open.new.aig c.in_ok-inputs.inputs.items
    c.in_ok-draft.draft c.prefix-prefix.ensures.proper.formula c.requires.run opened c.in_ok-draft.ensures
    c.settle.new.aig c.in_ok-settled.settled c.in_ok-row.row.items c.in_ok-made.made c.in_ok-settled.ensures
    chosen named
