use Rattle.std.proofs.Common.{◌≡◌, ◌≢◌, ◌+◌, ◌-◌, ◌<◌, ◌≤◌, sym, ◌∙◌, ap, arith, length, map, None, Some, Option, List, subst, ℕ, true, set, get_or}
use Rattle.std.proofs.lemmas.Option.{same_Some}
use Rattle.q_logic.specs.Prelude.{Literal, IsBelow, ArePairs}
use Rattle.q_arena.specs.Rings.{Has, AreApart, without}
use Rattle.q_arena.proofs.RingLemmas.{length-without}
use Rattle.q_arena.proofs.FreeIds.{free-there}
use Rattle.q_arena.specs.declared.slots.Slot.{Slot}
use Rattle.q_arena.specs.Layout.{slot_at, top_of, Order}
use Rattle.q_arena.specs.Gaps.{IsSound}
use Rattle.q_arena.specs.Seen.{piece, clause_in}
use Rattle.q_arena.proofs.Layouts.{live-within, total-within, AreLaid-add, slot-set_other, slot-set_here}
use Rattle.q_arena.proofs.ClauseWords.{live-of, clause-is, clauses-set, piece-moved, piece-is, blank_lit, start-is, ordered-same, ordered-set}
use Rattle.q_arena.proofs.Layouts.{stack-same, top-same}
use Rattle.q_arena.proofs.GapLemmas.{gap-add, gap-same}
use Rattle.q_arena.proofs.arena.Arena.add_at.Goals as goal

-- the slot of the clause that comes
abbrev added : ℕ → List Literal → Slot
added end C = record { start = end; len = length C; live = true }

module _ {words : List Literal} {slots : List Slot} {ids : Order} {end total : ℕ} {gap : Option ℕ} (a : IsSound words slots ids end total gap) (id : ℕ) where
  free-id : AreApart ids.used → AreApart ids.free → ((i : ℕ) → Has ids.used i → Has ids.free i → ⊥) → id < length (map (clause_in words) slots) → get_or (map (clause_in words) slots) id None ≡ None → Has ids.free id
  free-id used free one within gone = free-there words slots ids end total a.laid used free one id within gone

  module _ (there : Has ids.free id) (v C : List Literal) (vl : length v ≡ length words) (fits : length C ≤ length words - end)
      (written : (k : ℕ) (d : Literal) → k < length C → get_or v (end + k) d ≡ get_or C k d) (under : (k : ℕ) (d : Literal) → k < end → get_or v k d ≡ get_or words k d) where
    piece-added : piece v end (length C) ≡ C
    piece-added = piece-is v C end (let w = a.laid.within in omega arith) (λ k h. written k blank_lit h)

    clause-added : get_or (map (clause_in v) (set slots id (added end C))) id None ≡ Some C
    clause-added = clause-is v (set slots id (added end C)) id ∙ ap (clause_in v) (slot-set_here slots id (added end C) (a.laid.frees id there).1) ∙ ap (λ (p : List Literal). Some p) piece-added

    clauses-added : map (clause_in v) (set slots id (added end C)) ≡ set (map (clause_in words) slots) id (Some C)
    clauses-added =
        clauses-set v words slots id (added end C) (Some C) (a.laid.frees id there).1
        (λ j n l.
        let in' = live-within (length words) slots ids end total j a.laid l in
        let s = (slot_at slots j).start in
        let w = a.laid.within in
        piece-moved v words s s (slot_at slots j).len (omega arith) (omega arith) (λ k h. under (s + k) blank_lit (omega arith)))
        (ap (λ (p : List Literal). Some p) piece-added)

pub take-requires : goal.take-requires
take-requires c =
    let f = rw (← c.self.view_is) at c.requires.free in
    free-id c.self.invariant c.args.id c.distinct.ensures.used c.distinct.ensures.free c.distinct.ensures.one f.within f.free

pub overflow_add-self-2 : goal.overflow_add-self-2
overflow_add-self-2 c =
    let i = c.self.inside in
    let t = total-within (length i.words.items) i.slots.items i.ids i.end i.total c.self.invariant.laid in
    let w = rw (← c.self.view_is) at c.requires.words in
    omega (arith, t, w, i.words.ok.0, c.self.invariant.laid.within)

pub invariant_of-self : goal.invariant_of-self
invariant_of-self c =
    let i = c.self.inside in
    let a = c.self.invariant in
    let f = rw (← c.self.view_is) at c.requires.free in
    let there = free-id c.self.invariant c.args.id c.distinct.ensures.used c.distinct.ensures.free c.distinct.ensures.one f.within f.free in
    let fits : i.end + length c.args.lits.now ≤ length i.words.items = omega (arith, rw (← c.self.view_is) at c.requires.words, a.laid.within) in
    let id = c.args.id in
    let x = added i.end c.args.lits.now in
    let t = slot_at (set i.slots.items id x) in
    let other : (j : ℕ) → Has i.ids.used j → j ≢ id = λ j u e. c.distinct.ensures.one j u (subst (λ (k : ℕ). Has i.ids.free k) (sym e) there) in
    let same : (j : ℕ) → Has i.ids.used j → t j ≡ slot_at i.slots.items j = λ j u. slot-set_other i.slots.items id j x (other j u) in
    let st = stack-same (slot_at i.slots.items) t i.ids.used same a.laid.stack in
    let top = top-same (slot_at i.slots.items) t i.ids.used same in
    let here : t id ≡ x = slot-set_here i.slots.items id x (a.laid.frees id there).1 in
    let start : (t id).start ≡ top_of t i.ids.used = ap (λ (k : Slot). k.start) here ∙ a.laid.top ∙ sym top in
    let gap = gap-add t id i.ids.used st start ∙ gap-same (slot_at i.slots.items) t i.ids.used same in
    let now = clauses-added a id there c.write.new.words.items c.args.lits.now c.write.ensures.len (rw (← c.self.view_is) at c.requires.words) c.write.ensures.there c.write.ensures.below in
    record {
      ordered = ordered-same _ _ now (ordered-set _ id _ a.ordered (λ d' e. subst (ArePairs IsBelow) (same_Some _ d' e) c.requires.ordered));
      known = rw (c.take.ensures.used, a.known) (sym gap);
      few_words = rw c.write.ensures.len a.few_words;
      laid =
          rw c.write.ensures.len
          (AreLaid-add (length i.words.items) i.slots.items i.ids c.take.new.self i.end i.total id (length c.args.lits.now) a.laid there c.take.ensures.used c.take.ensures.free c.distinct.ensures.free fits);
    }

pub returns-clause-clauses : goal.returns-clause-clauses
returns-clause-clauses c =
    let f = rw (← c.self.view_is) at c.requires.free in
    let there = free-id c.self.invariant c.args.id c.distinct.ensures.used c.distinct.ensures.free c.distinct.ensures.one f.within f.free in
    rw (← c.self.view_is) (clauses-added c.self.invariant c.args.id there c.write.new.words.items c.args.lits.now c.write.ensures.len (rw (← c.self.view_is) at c.requires.words) c.write.ensures.there c.write.ensures.below)

pub returns-clause-starts : goal.returns-clause-starts
returns-clause-starts c = λ j d e.
    let i = c.self.inside in
    let f = rw (← c.self.view_is) at c.requires.free in
    let there = free-id c.self.invariant c.args.id c.distinct.ensures.used c.distinct.ensures.free c.distinct.ensures.one f.within f.free in
    let x = added i.end c.args.lits.now in
    let l = live-of i.words.items i.slots.items j d (rw (← c.self.view_is) at e) in
    let n : j ≢ c.args.id = λ g. absurd (let h = sym l ∙ ap (λ (k : ℕ). (slot_at i.slots.items k).live) g ∙ (c.self.invariant.laid.frees c.args.id there).0 in (cc)) in
    rw (← c.self.view_is) (start-is (set i.slots.items c.args.id x) j ∙ ap (λ (k : Slot). k.start) (slot-set_other i.slots.items c.args.id j x n) ∙ sym (start-is i.slots.items j))

pub returns-clause-ids : goal.returns-clause-ids
returns-clause-ids c =
    let f = rw (← c.self.view_is) at c.requires.free in
    let there = free-id c.self.invariant c.args.id c.distinct.ensures.used c.distinct.ensures.free c.distinct.ensures.one f.within f.free in
    let d = length-without c.args.id c.self.inside.ids.free there in
    let e : length c.take.new.self.free ≡ length (without c.args.id c.self.inside.ids.free) = ap length c.take.ensures.free in
    rw (← c.self.view_is) (omega (arith, d, e))

pub returns-clause-there : goal.returns-clause-there
returns-clause-there c =
    let f = rw (← c.self.view_is) at c.requires.free in
    let there = free-id c.self.invariant c.args.id c.distinct.ensures.used c.distinct.ensures.free c.distinct.ensures.one f.within f.free in
    clause-added c.self.invariant c.args.id there c.write.new.words.items c.args.lits.now c.write.ensures.len (rw (← c.self.view_is) at c.requires.words) c.write.ensures.there c.write.ensures.below
