use Rattle.std.proofs.Common.{◌≡◌, ◌+◌, ◌<◌, ℕ, List, length, get_or, Option, Some, sym, ◌∙◌, ap, arith}
use Rattle.std.proofs.lemmas.List.{get_or_default}
use Rattle.q_arena.specs.declared.slots.Slot.{Slot}
use Rattle.q_arena.specs.Layout.{slot_at, no_slot, end_in}
use Rattle.q_arena.proofs.slots.end_at.Goals as goal

end-is : (slots : List Slot) (id : Option ℕ) (i : ℕ) (x : Slot) → id ≡ Some i → i < length slots → x ≡ get_or slots i x → x.start + x.len ≡ end_in (slot_at slots) id
end-is slots id i x e l g = ap (λ (y : Slot). y.start + y.len) (g ∙ get_or_default slots i x no_slot l) ∙ sym (ap (end_in (slot_at slots)) e)

pub index-slot-requires : goal.index-slot-requires
index-slot-requires c = omega (arith, c.requires.there c.in-Some.id c.in-Some.is, c.args.slots.now.ok.0)

pub overflow_add-result : goal.overflow_add-result
overflow_add-result c =
    let e = end-is c.args.slots.now.items c.args.id c.in-Some.id c.index-slot.result.now c.in-Some.is (c.requires.there c.in-Some.id c.in-Some.is) c.index-slot.ensures in
    omega (arith, e, c.requires.fits)

pub returns-in-Some : goal.returns-in-Some
returns-in-Some c = end-is c.args.slots.now.items c.args.id c.in-Some.id c.index-slot.result.now c.in-Some.is (c.requires.there c.in-Some.id c.in-Some.is) c.index-slot.ensures
