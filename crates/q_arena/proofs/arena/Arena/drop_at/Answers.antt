use Rattle.std.proofs.Common.{◌≡◌, ◌+◌, ◌-◌, ◌<◌, ◌≤◌, sym, ◌∙◌, ap, arith, length, map, None, Some, Option, List, subst, refl, ℕ, true, set, get_or}
use Rattle.std.proofs.lemmas.Option.{same_Some}
use Rattle.q_logic.specs.Prelude.{Literal, IsBelow, ArePairs}
use Rattle.q_arena.specs.declared.slots.Slot.{Slot}
use Rattle.q_arena.specs.Layout.{slot_at, top_of, Order, AreLaid}
use Rattle.q_arena.specs.Chains.{preceding}
use Rattle.q_arena.specs.Gaps.{IsSound, first_gap, gap_past}
use Rattle.q_arena.specs.Seen.{piece, clause_in, without_at}
use Rattle.q_arena.proofs.Layouts.{used-below, AreLaid-moved, slot-set_other, slot-set_here}
use Rattle.q_arena.proofs.GapLemmas.{gap-drop}
use Rattle.q_arena.proofs.MovedClauses.{Stands, stands, others-stay}
use Rattle.q_arena.proofs.ClauseWords.{blank_lit, live-of, clause-live, clauses-set, piece-without, length-piece, starts-same, ordered-same, ordered-set, pairs-without_at}
use Rattle.q_arena.proofs.arena.Arena.drop_at.Goals as goal

-- The clause in the slot x loses the literal at k.
record Loses (words : List Literal) (slots : List Slot) (ids : Order) (total id k : ℕ) (c : List Literal) (x : Slot) : Type 0 where
  live : (slot_at slots id).live ≡ true
  stands : Stands (length words) slots ids total id
  start : x.start ≡ (slot_at slots id).start
  len : x.len ≡ (slot_at slots id).len
  long : k < (slot_at slots id).len
  is : piece words (slot_at slots id).start (slot_at slots id).len ≡ c

abbrev shorter : Slot → Slot
shorter x = record { start = x.start; len = x.len - 1; live = true }

module _ {words : List Literal} {slots : List Slot} {ids : Order} {end total : ℕ} {gap : Option ℕ} (a : IsSound words slots ids end total gap) (id k : ℕ) (c : List Literal) (x : Slot) where
  loses : get_or (map (clause_in words) slots) id None ≡ Some c → k < length c → x ≡ slot_at slots id → Loses words slots ids total id k c x
  loses there h e =
      let l = live-of words slots id c there in
      let m = stands a id l in
      let here : Some (piece words (slot_at slots id).start (slot_at slots id).len) ≡ Some c = sym (clause-live words slots id l) ∙ there in
      let is = same_Some (piece words (slot_at slots id).start (slot_at slots id).len) c here in
      let n = length-piece words (slot_at slots id).start (slot_at slots id).len m.within in
      record {
        live = l;
        stands = m;
        start = ap (λ (y : Slot). y.start) e;
        len = ap (λ (y : Slot). y.len) e;
        long = omega (arith, h, ap length is, n);
        is = is;
      }

  laid-shorter : Loses words slots ids total id k c x → (top_of (slot_at (set slots id (shorter x))) ids.used ≤ end) × AreLaid (length words) (set slots id (shorter x)) ids (top_of (slot_at (set slots id (shorter x))) ids.used) (total - 1)
  laid-shorter m = AreLaid-moved (length words) slots ids end total (total - 1) id (shorter x) a.laid m.stands.used refl (omega arith) (omega arith) (omega arith)

  gap-shorter : Loses words slots ids total id k c x → first_gap (slot_at (set slots id (shorter x))) ids.used ≡ gap_past (slot_at slots) (first_gap (slot_at slots) ids.used) id (preceding id ids.used)
  gap-shorter m =
      let t = slot_at (set slots id (shorter x)) in
      let here : t id ≡ shorter x = slot-set_here slots id (shorter x) m.stands.index in
      let n : (t id).len ≡ x.len - 1 = ap (λ (y : Slot). y.len) here in
      gap-drop (slot_at slots) t id ids.used a.laid.stack a.laid.apart m.stands.used (λ j n. slot-set_other slots id j (shorter x) n) (ap (λ (y : Slot). y.start) here ∙ m.start) (omega arith)

  clauses-shorter : Loses words slots ids total id k c x → (v : List Literal) → length v ≡ length words
      → ((i : ℕ) (d : Literal) → i < x.len - k - 1 → get_or v (x.start + k + i) d ≡ get_or words (x.start + k + 1 + i) d)
      → ((i : ℕ) (d : Literal) → i < x.start + k → get_or v i d ≡ get_or words i d)
      → ((i : ℕ) (d : Literal) → x.start + k + (x.len - k - 1) ≤ i → get_or v i d ≡ get_or words i d)
      → map (clause_in v) (set slots id (shorter x)) ≡ set (map (clause_in words) slots) id (Some (without_at k c))
  clauses-shorter m v vl moved under over =
      let s = (slot_at slots id).start in
      let n = (slot_at slots id).len in
      let cut = piece-without v words s n k m.stands.within vl m.long
      (λ i h. rw m.start at (moved i blank_lit (omega (arith, h))))
      (λ i h. under i blank_lit (omega (arith, h))) in
      let here : piece v x.start (x.len - 1) ≡ without_at k c = rw (m.start, m.len) (cut ∙ ap (without_at k) m.is) in
      clauses-set v words slots id (shorter x) (Some (without_at k c)) m.stands.index
      (others-stay a id m.live v (x.start + k) (x.len - k - 1) vl (omega arith) (omega arith) under over)
      (ap (λ (p : List Literal). Some p) here)

pub move_down-requires-clause-from : goal.move_down-requires-clause-from
move_down-requires-clause-from c =
    let m = loses c.self.invariant c.args.id c.args.k c.requires.0 c.slot_of-slot.result (rw (← c.self.view_is) at c.requires.1) c.requires.2 c.slot_of-slot.ensures in
    omega arith

pub overflow_add-from : goal.overflow_add-from
overflow_add-from c =
    let m = loses c.self.invariant c.args.id c.args.k c.requires.0 c.slot_of-slot.result (rw (← c.self.view_is) at c.requires.1) c.requires.2 c.slot_of-slot.ensures in
    omega (arith, c.self.inside.words.ok.0)

pub overflow_add-from-2 : goal.overflow_add-from-2
overflow_add-from-2 c =
    let m = loses c.self.invariant c.args.id c.args.k c.requires.0 c.slot_of-slot.result (rw (← c.self.view_is) at c.requires.1) c.requires.2 c.slot_of-slot.ensures in
    omega (arith, c.self.inside.words.ok.0)

pub overflow_sub-slot : goal.overflow_sub-slot
overflow_sub-slot c =
    let m = loses c.self.invariant c.args.id c.args.k c.requires.0 c.slot_of-slot.result (rw (← c.self.view_is) at c.requires.1) c.requires.2 c.slot_of-slot.ensures in
    omega arith

pub overflow_sub-slot-2 : goal.overflow_sub-slot-2
overflow_sub-slot-2 c =
    let m = loses c.self.invariant c.args.id c.args.k c.requires.0 c.slot_of-slot.result (rw (← c.self.view_is) at c.requires.1) c.requires.2 c.slot_of-slot.ensures in
    omega arith

pub overflow_sub-slot-3 : goal.overflow_sub-slot-3
overflow_sub-slot-3 c =
    let m = loses c.self.invariant c.args.id c.args.k c.requires.0 c.slot_of-slot.result (rw (← c.self.view_is) at c.requires.1) c.requires.2 c.slot_of-slot.ensures in
    omega arith

pub overflow_sub-self : goal.overflow_sub-self
overflow_sub-self c =
    let m = loses c.self.invariant c.args.id c.args.k c.requires.0 c.slot_of-slot.result (rw (← c.self.view_is) at c.requires.1) c.requires.2 c.slot_of-slot.ensures in
    omega arith

pub end_of-self-inside-requires-clause-used : goal.end_of-self-inside-requires-clause-used
end_of-self-inside-requires-clause-used c =
    let i = c.self.inside in
    let x = c.slot_of-slot.result in
    let m = loses c.self.invariant c.args.id c.args.k c.requires.0 x (rw (← c.self.view_is) at c.requires.1) c.requires.2 c.slot_of-slot.ensures in
    let d = laid-shorter c.self.invariant c.args.id c.args.k c.requires.0 x m in
    λ j g. used-below (length i.words.items) (set i.slots.items c.args.id (shorter x)) i.ids _ _ j d.1 g

pub end_of-self-inside-requires-clause-fits : goal.end_of-self-inside-requires-clause-fits
end_of-self-inside-requires-clause-fits c =
    let x = c.slot_of-slot.result in
    let m = loses c.self.invariant c.args.id c.args.k c.requires.0 x (rw (← c.self.view_is) at c.requires.1) c.requires.2 c.slot_of-slot.ensures in
    let top = (laid-shorter c.self.invariant c.args.id c.args.k c.requires.0 x m).0 in
    omega (arith, top, c.self.invariant.laid.within, c.self.inside.words.ok.0)

pub invariant_of-self : goal.invariant_of-self
invariant_of-self c =
    let a = c.self.invariant in
    let id = c.args.id in
    let k = c.args.k in
    let C = c.requires.0 in
    let x = c.slot_of-slot.result in
    let q = rw (← c.self.view_is) at c.requires.1 in
    let m = loses a id k C x q c.requires.2 c.slot_of-slot.ensures in
    let now = clauses-shorter a id k C x m c.move_down.new.words.items c.move_down.ensures.len c.move_down.ensures.moved c.move_down.ensures.below c.move_down.ensures.above in
    record {
      ordered = ordered-same _ _ now (ordered-set _ id _ a.ordered (λ d' e. subst (ArePairs IsBelow) (same_Some _ d' e) (pairs-without_at IsBelow k C (a.ordered id C q))));
      laid = rw (c.end_of-self-inside.ensures, c.move_down.ensures.len) (laid-shorter a id k C x m).1;
      few_words = rw c.move_down.ensures.len a.few_words;
      known = rw (c.gap_after_drop-gap.ensures, c.after-up.ensures, a.known) (sym (gap-shorter a id k C x m));
    }

pub returns-clause-words : goal.returns-clause-words
returns-clause-words c =
    let x = c.slot_of-slot.result in
    let m = loses c.self.invariant c.args.id c.args.k c.requires.0 x (rw (← c.self.view_is) at c.requires.1) c.requires.2 c.slot_of-slot.ensures in
    let top = (laid-shorter c.self.invariant c.args.id c.args.k c.requires.0 x m).0 in
    rw (← c.self.view_is) (rw (c.end_of-self-inside.ensures, c.move_down.ensures.len) (omega (arith, top, c.self.invariant.laid.within)))

pub returns-clause-starts : goal.returns-clause-starts
returns-clause-starts c =
    rw (← c.self.view_is) (starts-same c.self.inside.slots.items c.args.id (shorter c.slot_of-slot.result) (ap (λ (y : Slot). y.start) c.slot_of-slot.ensures))

pub returns-clause-clauses : goal.returns-clause-clauses
returns-clause-clauses c = λ d e.
    let x = c.slot_of-slot.result in
    let same = same_Some c.requires.0 d (sym c.requires.1 ∙ e) in
    let m = loses c.self.invariant c.args.id c.args.k d x (rw (← c.self.view_is) at e) (rw (← same) c.requires.2) c.slot_of-slot.ensures in
    rw (← c.self.view_is) (clauses-shorter c.self.invariant c.args.id c.args.k d x m c.move_down.new.words.items c.move_down.ensures.len c.move_down.ensures.moved c.move_down.ensures.below c.move_down.ensures.above)
