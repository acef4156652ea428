use Rattle.std.proofs.Common.{◌∙◌, List, ℕ, subst, sym, ap}
use Rattle.q_aig.specs.Prelude.{AreDistinct}
use Rattle.q_herbrand.specs.Slots.{IsBegun}
use Rattle.q_herbrand.specs.Inputs.{AreInputs}
use Rattle.q_herbrand.specs.Drafted.{IsCopiedInto}
use Rattle.q_herbrand.proofs.FirstDraft.{begun-ready, drafted}
use Rattle.q_herbrand.proofs.drafting.make_draft.Goals as goal

pub copy_into-requires : goal.copy_into-requires
copy_into-requires c = record {
  inputs = subst (λ (xs : List ℕ). AreInputs xs c.args.inputs.items) (sym c.in_ok-named.ensures.inputs) c.requires.inputs;
}

pub begin-requires : goal.begin-requires
begin-requires c = subst AreDistinct (sym c.inputs-2.ensures.value) c.inputs-2.ensures.net.distinct

pub take_all-requires : goal.take_all-requires
take_all-requires c =
    let copied : IsCopiedInto c.in_ok-named.named c.copy_into.new.aig c.args.inputs.items c.args.given.now
    c.in_ok-circuits.circuits.items = c.in_ok-circuits.ensures in
    let begun : IsBegun c.args.opened.now.inputs c.in_ok-slots.slots =
    subst (λ (xs : List ℕ). IsBegun xs c.in_ok-slots.slots) c.inputs-2.ensures.value c.in_ok-slots.ensures in
    begun-ready c.copy_into.new.aig c.in_ok-aig.aig c.args.opened.now.inputs c.args.inputs.items
    c.in_ok-circuits.circuits.items c.in_ok-slots.slots c.requires.inputs
    (copied.inputs ∙ c.in_ok-named.ensures.inputs) c.in_ok-aig.ensures copied.literals begun

pub returns : goal.returns
returns c =
    let copied : IsCopiedInto c.in_ok-named.named c.copy_into.new.aig c.args.inputs.items c.args.given.now
    c.in_ok-circuits.circuits.items = c.in_ok-circuits.ensures in
    let begun : IsBegun c.args.opened.now.inputs c.in_ok-slots.slots =
    subst (λ (xs : List ℕ). IsBegun xs c.in_ok-slots.slots) c.inputs-2.ensures.value c.in_ok-slots.ensures in
    drafted c.args.opened.now c.in_ok-named.named c.copy_into.new.aig c.in_ok-aig.aig c.args.inputs.items
    c.in_ok-circuits.circuits.items c.in_ok-slots.slots c.args.given.now c.args.reversals.now _
    c.in_ok-named.ensures.inputs c.in_ok-named.ensures.gates copied c.in_ok-aig.ensures begun
    (ap (λ v. v.items) c.in_ok-take_all.ensures.inputs) c.in_ok-take_all.ensures.taken
