use Rattle.std.proofs.Common.{◌≡◌, ◌+◌, ◌<◌, ◌≤◌, sym, ◌∙◌, ap, arith, length, map, Some, Option, List, subst, refl, ℕ, true, set, get_or, None}
use Rattle.std.proofs.lemmas.List.{set-get_or}
use Rattle.q_logic.specs.Prelude.{Literal}
use Rattle.q_arena.specs.Rings.{Has}
use Rattle.q_arena.specs.Chains.{preceding}
use Rattle.q_arena.specs.declared.slots.Slot.{Slot}
use Rattle.q_arena.specs.Layout.{slot_at, top_of, below, Order, AreLaid}
use Rattle.q_arena.specs.Gaps.{IsSound, first_gap}
use Rattle.q_arena.specs.Seen.{piece, clause_in}
use Rattle.q_arena.proofs.Layouts.{used-below, AreLaid-moved, slot-set_other, slot-set_here, top-same, size-same, below-misses}
use Rattle.q_arena.proofs.GapLemmas.{gap-in, gap-slide, gap-low, gap-full}
use Rattle.q_arena.proofs.FilledWords.{filled-below}
use Rattle.q_arena.proofs.MovedClauses.{Stands, stands, others-stay}
use Rattle.q_arena.proofs.ClauseWords.{clause-live, clauses-set, piece-moved, starts-set, start-is, blank_lit, ordered-same}
use Rattle.q_arena.proofs.arena.Arena.slide.Goals as goal

-- the first clause with dead words before it
record Slides (room : ℕ) (slots : List Slot) (ids : Order) (total id : ℕ) : Type 0 where
  live : (slot_at slots id).live ≡ true
  first : first_gap (slot_at slots) ids.used ≡ Some id
  stands : Stands room slots ids total id
  lower : top_of (slot_at slots) (below id ids.used) < (slot_at slots id).start

-- its slot, once it begins at another place
abbrev moved_to : ℕ → Slot → Slot
moved_to to x = record { start = to; len = x.len; live = true }

module _ {words : List Literal} {slots : List Slot} {ids : Order} {end total : ℕ} {gap : Option ℕ} (a : IsSound words slots ids end total gap) (id : ℕ) where
  slides : gap ≡ Some id → Slides (length words) slots ids total id
  slides next =
      let first = sym a.known ∙ next in
      let l = a.laid.live id (gap-in (slot_at slots) ids.used id first) in
      record { live = l; first = first; stands = stands a id l; lower = gap-low (slot_at slots) id ids.used a.laid.stack a.laid.apart first }

  module _ (m : Slides (length words) slots ids total id) (to : ℕ) (x : Slot) (low : to ≡ top_of (slot_at slots) (below id ids.used)) (e : x ≡ slot_at slots id) where
    laid-slid : (top_of (slot_at (set slots id (moved_to to x))) ids.used ≤ end) × AreLaid (length words) (set slots id (moved_to to x)) ids (top_of (slot_at (set slots id (moved_to to x))) ids.used) total
    laid-slid =
        let n = ap (λ (y : Slot). y.len) e in
        AreLaid-moved (length words) slots ids end total total id (moved_to to x) a.laid m.stands.used refl (omega arith) (omega arith) (omega arith)

    slot-slid : slot_at (set slots id (moved_to to x)) id ≡ moved_to to x
    slot-slid = slot-set_here slots id (moved_to to x) m.stands.index

    start-slid : get_or (map (λ (s : Slot). s.start) (set slots id (moved_to to x))) id 0 ≡ to
    start-slid = start-is (set slots id (moved_to to x)) id ∙ ap (λ (y : Slot). y.start) slot-slid

    gap-slid : first_gap (slot_at (set slots id (moved_to to x))) ids.used ≡ preceding id ids.used
    gap-slid =
        gap-slide (slot_at slots) (slot_at (set slots id (moved_to to x))) id ids.used a.laid.stack a.laid.apart m.first (λ j n. slot-set_other slots id j (moved_to to x) n)
        (ap (λ (y : Slot). y.start) slot-slid ∙ low) (ap (λ (y : Slot). y.len) slot-slid ∙ ap (λ (y : Slot). y.len) e)

    clauses-slid : (v : List Literal) → length v ≡ length words
        → ((k : ℕ) (d : Literal) → k < x.len → get_or v (to + k) d ≡ get_or words (x.start + k) d)
        → ((k : ℕ) (d : Literal) → k < to → get_or v k d ≡ get_or words k d)
        → ((k : ℕ) (d : Literal) → to + x.len ≤ k → get_or v k d ≡ get_or words k d)
        → map (clause_in v) (set slots id (moved_to to x)) ≡ map (clause_in words) slots
    clauses-slid v vl moved under above =
        let s = (slot_at slots id).start in
        let n = (slot_at slots id).len in
        let hs = ap (λ (y : Slot). y.start) e in
        let hl = ap (λ (y : Slot). y.len) e in
        let here : piece v to n ≡ piece words s n = piece-moved v words to s n (omega (arith, vl)) m.stands.within (λ k h. rw hs at (moved k blank_lit (omega (arith, h)))) in
        let old = clause-live words slots id m.live in
        clauses-set v words slots id (moved_to to x) (Some (piece words s n)) m.stands.index
        (others-stay a id m.live v to x.len vl (omega arith) (omega arith) under above)
        (ap (λ (p : List Literal). Some p) (rw hl here))
        ∙ rw (← old) (set-get_or _ id None)

pub end_below-to-requires-clause-at : goal.end_below-to-requires-clause-at
end_below-to-requires-clause-at c = (slides c.self.invariant c.args.id (rw (← c.self.view_is) at c.requires.next)).stands.used

pub end_below-to-requires-clause-fits : goal.end_below-to-requires-clause-fits
end_below-to-requires-clause-fits c =
    let m = slides c.self.invariant c.args.id (rw (← c.self.view_is) at c.requires.next) in
    omega (arith, c.self.inside.words.ok.0)

pub overflow_cast-to : goal.overflow_cast-to
overflow_cast-to c =
    let m = slides c.self.invariant c.args.id (rw (← c.self.view_is) at c.requires.next) in
    omega (arith, c.end_below-to.ensures, c.self.invariant.few_words)

pub end_below-to-requires-clause-used : goal.end_below-to-requires-clause-used
end_below-to-requires-clause-used c = λ j g.
    let i = c.self.inside in
    used-below (length i.words.items) i.slots.items i.ids i.end i.total j c.self.invariant.laid g

pub move_down-requires-clause-from : goal.move_down-requires-clause-from
move_down-requires-clause-from c =
    let m = slides c.self.invariant c.args.id (rw (← c.self.view_is) at c.requires.next) in
    omega (arith, ap (λ (y : Slot). y.start) c.slot_of-slot.ensures, ap (λ (y : Slot). y.len) c.slot_of-slot.ensures)

pub move_down-requires-clause-to : goal.move_down-requires-clause-to
move_down-requires-clause-to c =
    let m = slides c.self.invariant c.args.id (rw (← c.self.view_is) at c.requires.next) in
    omega (arith, c.end_below-to.ensures, ap (λ (y : Slot). y.start) c.slot_of-slot.ensures)

pub end_of-self-inside-requires-clause-used : goal.end_of-self-inside-requires-clause-used
end_of-self-inside-requires-clause-used c =
    let i = c.self.inside in
    let to = c.end_below-to.result in
    let x = c.slot_of-slot.result in
    let m = slides c.self.invariant c.args.id (rw (← c.self.view_is) at c.requires.next) in
    let d = laid-slid c.self.invariant c.args.id m to x c.end_below-to.ensures c.slot_of-slot.ensures in
    λ j g. used-below (length i.words.items) (set i.slots.items c.args.id (moved_to to x)) i.ids _ _ j d.1 g

pub end_of-self-inside-requires-clause-fits : goal.end_of-self-inside-requires-clause-fits
end_of-self-inside-requires-clause-fits c =
    let m = slides c.self.invariant c.args.id (rw (← c.self.view_is) at c.requires.next) in
    let top = (laid-slid c.self.invariant c.args.id m c.end_below-to.result c.slot_of-slot.result c.end_below-to.ensures c.slot_of-slot.ensures).0 in
    omega (arith, top, c.self.invariant.laid.within, c.self.inside.words.ok.0)

pub invariant_of-self : goal.invariant_of-self
invariant_of-self c =
    let a = c.self.invariant in
    let id = c.args.id in
    let to = c.end_below-to.result in
    let x = c.slot_of-slot.result in
    let m = slides a id (rw (← c.self.view_is) at c.requires.next) in
    let same = clauses-slid a id m to x c.end_below-to.ensures c.slot_of-slot.ensures c.move_down.new.words.items c.move_down.ensures.len c.move_down.ensures.moved c.move_down.ensures.below c.move_down.ensures.above in
    record {
      ordered = ordered-same _ _ same a.ordered;
      laid = rw (c.end_of-self-inside.ensures, c.move_down.ensures.len) (laid-slid a id m to x c.end_below-to.ensures c.slot_of-slot.ensures).1;
      few_words = rw c.move_down.ensures.len a.few_words;
      known = rw c.after-up.ensures (sym (gap-slid a id m to x c.end_below-to.ensures c.slot_of-slot.ensures));
    }

pub returns-clause-words : goal.returns-clause-words
returns-clause-words c =
    let m = slides c.self.invariant c.args.id (rw (← c.self.view_is) at c.requires.next) in
    let top = (laid-slid c.self.invariant c.args.id m c.end_below-to.result c.slot_of-slot.result c.end_below-to.ensures c.slot_of-slot.ensures).0 in
    rw (← c.self.view_is) (rw (c.end_of-self-inside.ensures, c.move_down.ensures.len) (omega (arith, top, c.self.invariant.laid.within)))

pub returns-clause-filled : goal.returns-clause-filled
returns-clause-filled c =
    let i = c.self.inside in
    let a = c.self.invariant in
    let id = c.args.id in
    let to = c.end_below-to.result in
    let x = c.slot_of-slot.result in
    let m = slides a id (rw (← c.self.view_is) at c.requires.next) in
    let s = slot_at i.slots.items in
    let t = slot_at (set i.slots.items id (moved_to to x)) in
    let st = start-slid a id m to x c.end_below-to.ensures c.slot_of-slot.ensures in
    let under : List ℕ = below id i.ids.used in
    let same : (j : ℕ) → Has under j → t j ≡ s j = λ j h. slot-set_other i.slots.items id j (moved_to to x) (λ e. below-misses id i.ids.used a.laid.apart (subst (Has under) e h)) in
    let tops = top-same s t under same in
    let full = gap-full s id i.ids.used a.laid.stack a.laid.apart m.first in
    let laid : AreLaid (length c.move_down.new.words.items) (set i.slots.items id (moved_to to x)) i.ids (top_of t i.ids.used) i.total = rw c.move_down.ensures.len (laid-slid a id m to x c.end_below-to.ensures c.slot_of-slot.ensures).1 in
    λ p h. filled-below c.move_down.new.words.items (set i.slots.items id (moved_to to x)) i.ids (top_of t i.ids.used) i.total laid _ refl refl id (size-same s t under same ∙ full ∙ sym tops) p (omega (arith, h, st, c.end_below-to.ensures, tops))

pub returns-clause-moved : goal.returns-clause-moved
returns-clause-moved c =
    let m = slides c.self.invariant c.args.id (rw (← c.self.view_is) at c.requires.next) in
    let st = start-slid c.self.invariant c.args.id m c.end_below-to.result c.slot_of-slot.result c.end_below-to.ensures c.slot_of-slot.ensures in
    rw (← c.self.view_is) (rw st (starts-set c.self.inside.slots.items c.args.id (moved_to c.end_below-to.result c.slot_of-slot.result)))

pub returns-clause-lower : goal.returns-clause-lower
returns-clause-lower c =
    let m = slides c.self.invariant c.args.id (rw (← c.self.view_is) at c.requires.next) in
    let st = start-slid c.self.invariant c.args.id m c.end_below-to.result c.slot_of-slot.result c.end_below-to.ensures c.slot_of-slot.ensures in
    let old = start-is c.self.inside.slots.items c.args.id in
    rw (← c.self.view_is) (omega (arith, st, c.end_below-to.ensures, old))

pub returns-clause-starts : goal.returns-clause-starts
returns-clause-starts c = λ j d e ne.
    let slots = c.self.inside.slots.items in
    let x = moved_to c.end_below-to.result c.slot_of-slot.result in
    rw (← c.self.view_is) (start-is (set slots c.args.id x) j ∙ ap (λ (k : Slot). k.start) (slot-set_other slots c.args.id j x ne) ∙ sym (start-is slots j))

pub returns-clause-clauses : goal.returns-clause-clauses
returns-clause-clauses c =
    let m = slides c.self.invariant c.args.id (rw (← c.self.view_is) at c.requires.next) in
    rw (← c.self.view_is) (clauses-slid c.self.invariant c.args.id m c.end_below-to.result c.slot_of-slot.result c.end_below-to.ensures c.slot_of-slot.ensures c.move_down.new.words.items c.move_down.ensures.len c.move_down.ensures.moved c.move_down.ensures.below c.move_down.ensures.above)

pub after-up-requires : goal.after-up-requires
after-up-requires c = (slides c.self.invariant c.args.id (rw (← c.self.view_is) at c.requires.next)).stands.used

pub index_mut-requires : goal.index_mut-requires
index_mut-requires c =
    let m = slides c.self.invariant c.args.id (rw (← c.self.view_is) at c.requires.next) in
    omega (arith, c.self.inside.slots.ok.0)
