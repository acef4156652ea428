use Rattle.std.proofs.Common.{◌≡◌, ◌≤◌, ◌-◌, ◌∷◌, sym, ◌∙◌, ap, arith, length, map, Some, None, Option, List, subst, refl, ℕ, false, set, get_or}
use Rattle.std.proofs.lemmas.List.{get_or_default}
use Rattle.std.proofs.lemmas.Option.{none-some}
use Rattle.q_logic.specs.Prelude.{Literal}
use Rattle.q_arena.specs.Rings.{Has, without}
use Rattle.q_arena.specs.declared.slots.Slot.{Slot}
use Rattle.q_arena.specs.Layout.{slot_at, no_slot, top_of, Order, AreLaid}
use Rattle.q_arena.specs.Gaps.{IsSound}
use Rattle.q_arena.specs.Seen.{clause_in}
use Rattle.q_arena.proofs.Layouts.{used-below, AreLaid-delete, slot-set_other, without-gone}
use Rattle.q_arena.proofs.MovedClauses.{Stands, stands}
use Rattle.q_arena.proofs.ClauseWords.{live-of, clauses-set, starts-same, ordered-same, ordered-set}
use Rattle.q_arena.proofs.GapLemmas.{gap-delete, gap-same}
use Rattle.q_arena.proofs.arena.Arena.delete.Goals as goal

-- the slot of a clause that is gone
abbrev freed : Slot → Slot
freed x = record { start = x.start; len = x.len; live = false }

module _ {words : List Literal} {slots : List Slot} {ids : Order} {end total : ℕ} {gap : Option ℕ} (a : IsSound words slots ids end total gap) (id : ℕ) {C : List Literal} (there : get_or (map (clause_in words) slots) id None ≡ Some C) where
  met : Stands (length words) slots ids total id
  met = stands a id (live-of words slots id C there)

  slot-is : (x : Slot) → x ≡ get_or slots id x → x ≡ slot_at slots id
  slot-is x e = e ∙ get_or_default slots id x no_slot met.index

  clauses-freed : (x : Slot) → map (clause_in words) (set slots id (freed x)) ≡ set (map (clause_in words) slots) id None
  clauses-freed x = clauses-set words words slots id (freed x) None met.index (λ j n l. refl) refl

  laid-freed : (new : Order) (x : Slot) → x ≡ get_or slots id x → new.used ≡ without id ids.used → new.free ≡ id ∷ ids.free
      → (top_of (slot_at (set slots id (freed x))) new.used ≤ end)
      × AreLaid (length words) (set slots id (freed x)) new (top_of (slot_at (set slots id (freed x))) new.used) (total - (slot_at slots id).len)
  laid-freed new x e u f = AreLaid-delete (length words) slots ids new end total id (freed x) a.laid met.used u f (ap freed (slot-is x e))

pub give-requires : goal.give-requires
give-requires c = (met c.self.invariant c.args.id (rw (← c.self.view_is) at c.requires.1)).used

pub overflow_sub-self : goal.overflow_sub-self
overflow_sub-self c =
    let q = rw (← c.self.view_is) at c.requires.1 in
    let m = met c.self.invariant c.args.id q in
    let n = ap (λ (k : Slot). k.len) (slot-is c.self.invariant c.args.id q c.index-slot.result.now c.index-slot.ensures) in
    omega arith

pub end_of-self-inside-requires-clause-used : goal.end_of-self-inside-requires-clause-used
end_of-self-inside-requires-clause-used c =
    let i = c.self.inside in
    let x = c.index_mut.result.now in
    let d = laid-freed c.self.invariant c.args.id (rw (← c.self.view_is) at c.requires.1) c.give.new.self x c.index_mut.ensures.value c.give.ensures.used c.give.ensures.free in
    λ j u. used-below (length i.words.items) (set i.slots.items c.args.id (freed x)) c.give.new.self _ _ j d.1 u

pub end_of-self-inside-requires-clause-fits : goal.end_of-self-inside-requires-clause-fits
end_of-self-inside-requires-clause-fits c =
    let top = (laid-freed c.self.invariant c.args.id (rw (← c.self.view_is) at c.requires.1) c.give.new.self c.index_mut.result.now c.index_mut.ensures.value c.give.ensures.used c.give.ensures.free).0 in
    omega (arith, top, c.self.invariant.laid.within, c.self.inside.words.ok.0)

pub invariant_of-self : goal.invariant_of-self
invariant_of-self c =
    let i = c.self.inside in
    let a = c.self.invariant in
    let id = c.args.id in
    let x = c.index_mut.result.now in
    let q = rw (← c.self.view_is) at c.requires.1 in
    let d = laid-freed a id q c.give.new.self x c.index_mut.ensures.value c.give.ensures.used c.give.ensures.free in
    let gap = gap-delete (slot_at i.slots.items) id i.ids.used a.laid.stack a.laid.apart (met a id q).used in
    let same = gap-same (slot_at i.slots.items) (slot_at (set i.slots.items id (freed x))) (without id i.ids.used) (λ j g. slot-set_other i.slots.items id j (freed x) (λ z. without-gone id i.ids.used a.laid.apart (subst (λ (k : ℕ). Has (without id i.ids.used) k) z g))) in
    record {
      ordered = ordered-same _ _ (clauses-freed a id q x) (ordered-set _ id None a.ordered (λ d' e'. absurd (none-some d' e')));
      laid = rw (c.end_of-self-inside.ensures, slot-is a id q c.index-slot.result.now c.index-slot.ensures) d.1;
      few_words = a.few_words;
      known = rw (c.give.ensures.used, c.gap_after_delete-gap.ensures, c.after-up.ensures, a.known) (sym (same ∙ gap));
    }

pub returns-clause-clauses : goal.returns-clause-clauses
returns-clause-clauses c = rw (← c.self.view_is) (clauses-freed c.self.invariant c.args.id (rw (← c.self.view_is) at c.requires.1) c.index_mut.result.now)

pub returns-clause-starts : goal.returns-clause-starts
returns-clause-starts c =
    let x = c.index_mut.result.now in
    let e = slot-is c.self.invariant c.args.id (rw (← c.self.view_is) at c.requires.1) x c.index_mut.ensures.value in
    rw (← c.self.view_is) (starts-same c.self.inside.slots.items c.args.id (freed x) (ap (λ (k : Slot). k.start) e))

pub returns-clause-words : goal.returns-clause-words
returns-clause-words c =
    let top = (laid-freed c.self.invariant c.args.id (rw (← c.self.view_is) at c.requires.1) c.give.new.self c.index_mut.result.now c.index_mut.ensures.value c.give.ensures.used c.give.ensures.free).0 in
    rw (← c.self.view_is) (rw c.end_of-self-inside.ensures (omega (arith, top, c.self.invariant.laid.within)))
