-- More words, and more ids.
use Rattle.std.proofs.Common.{◌≡◌, ℕ, ◌+◌, ◌<◌, ◌≤◌, Bool, true, false, List, length, map, get_or, Option, None, Some, refl, sym, ◌∙◌, ap, subst, inl, inr, arith}
use Rattle.std.proofs.lemmas.List.{get_or_past, ext_get_or}
use Rattle.q_logic.specs.Prelude.{Literal}
use Rattle.q_arena.specs.declared.slots.Slot.{Slot}
use Rattle.q_arena.specs.Rings.{Has}
use Rattle.q_arena.specs.Layout.{slot_at, no_slot, Order, AreLaid, AreMore}
use Rattle.q_arena.specs.Gaps.{IsSound}
use Rattle.q_arena.specs.Seen.{clause_in}
use Rattle.q_arena.proofs.ArenaView.{length-mapped}
use Rattle.q_arena.proofs.Layouts.{live-room, stack-same, top-same, size-same}
use Rattle.q_arena.proofs.GapLemmas.{gap-same}
use Rattle.q_arena.proofs.ClauseWords.{clause-is, clause-live, clause-free, piece-moved, start-is, blank_lit, ordered-same}

-- the words up to the room of the clauses are as before
pub clauses-grown : (w v : List Literal) (slots : List Slot) (ids : Order) (end total : ℕ) → AreLaid (length w) slots ids end total → length w ≤ length v
    → ((k : ℕ) (d : Literal) → k < length w → get_or v k d ≡ get_or w k d) → map (clause_in v) slots ≡ map (clause_in w) slots
clauses-grown w v slots ids end total a n f =
    let lv = length-mapped (clause_in v) no_slot slots in
    let lw = length-mapped (clause_in w) no_slot slots in
    ext_get_or None (map (clause_in v) slots) (map (clause_in w) slots) (lv ∙ sym lw) (λ i h. go i (slot_at slots i).live refl)
  where
    go : (i : ℕ) (b : Bool) → (slot_at slots i).live ≡ b → get_or (map (clause_in v) slots) i None ≡ get_or (map (clause_in w) slots) i None
    go i true e =
        let s = (slot_at slots i).start in
        let m = (slot_at slots i).len in
        let r : s + m ≤ length w = live-room (length w) slots ids end total i a e in
        let g : length w ≤ length v = n in
        let same = piece-moved v w s s m (omega (arith, r, g)) r (λ k h. f (s + k) blank_lit (omega (arith, r, h))) in
        clause-live v slots i e ∙ ap (λ (p : List Literal). Some p) same ∙ sym (clause-live w slots i e)
    go i false e = clause-free v slots i e ∙ sym (clause-free w slots i e)

pub sound-grown : (w v : List Literal) (slots : List Slot) (ids : Order) (end total : ℕ) (gap : Option ℕ) → IsSound w slots ids end total gap → length w ≤ length v
    → ((k : ℕ) (d : Literal) → k < length w → get_or v k d ≡ get_or w k d) → (length w < 4294967296 → length v < 4294967296) → IsSound v slots ids end total gap
sound-grown w v slots ids end total gap s n f few =
    let a = s.laid in
    let in_row : end ≤ length w = a.within in
    record {
      few_words = few s.few_words;
      laid = record {
        stack = a.stack;
        apart = a.apart;
        top = a.top;
        within = omega (arith, in_row, n);
        few = a.few;
        whole = a.whole;
        live = a.live;
        lives = a.lives;
        count = a.count;
        frees = a.frees;
      };
      known = s.known;
      ordered = ordered-same (map (clause_in v) slots) (map (clause_in w) slots) (clauses-grown w v slots ids end total a n f) s.ordered;
    }

module _ (slots more : List Slot) (ids grown : Order) (m : AreMore slots more ids grown) where
  pub clause-more : (w : List Literal) (i : ℕ) → get_or (map (clause_in w) more) i None ≡ get_or (map (clause_in w) slots) i None
  clause-more w i = clause-is w more i ∙ ap (clause_in w) (m.same i) ∙ sym (clause-is w slots i)

  pub start-more : (i : ℕ) → get_or (map (λ (s : Slot). s.start) more) i 0 ≡ get_or (map (λ (s : Slot). s.start) slots) i 0
  start-more i = start-is more i ∙ ap (λ (s : Slot). s.start) (m.same i) ∙ sym (start-is slots i)

  laid-more : (room end total : ℕ) → AreLaid room slots ids end total → length more ≤ 4294967295 → AreLaid room more grown end total
  laid-more room end total a few =
      let same : (i : ℕ) → Has ids.used i → slot_at more i ≡ slot_at slots i = λ i u. m.same i in
      record {
        stack = rw m.used (stack-same (slot_at slots) (slot_at more) ids.used same a.stack);
        apart = rw m.used a.apart;
        top = rw m.used (a.top ∙ sym (top-same (slot_at slots) (slot_at more) ids.used same));
        within = a.within;
        few = few;
        whole = rw m.used (a.whole ∙ sym (size-same (slot_at slots) (slot_at more) ids.used same));
        live = λ i u. ap (λ (k : Slot). k.live) (m.same i) ∙ a.live i (subst (λ (xs : List ℕ). Has xs i) m.used u);
        lives = λ i l. subst (λ (xs : List ℕ). Has xs i) (sym m.used) (a.lives i (sym (ap (λ (k : Slot). k.live) (m.same i)) ∙ l));
        count = let c : length slots ≡ length ids.used + length ids.free = a.count in let d = m.count in let u = ap length m.used in omega (arith, c, d, u);
        frees = λ i u. elim (m.frees i u) [
          | inl f ↦ let g = m.least in let b = (a.frees i f).1 in (ap (λ (k : Slot). k.live) (m.same i) ∙ (a.frees i f).0, omega (arith, g, b))
          | inr n ↦ (ap (λ (k : Slot). k.live) (m.same i ∙ get_or_past slots i no_slot n.0), n.1)
        ];
      }

  pub sound-more : (w : List Literal) (end total : ℕ) (gap : Option ℕ) → IsSound w slots ids end total gap → length more ≤ 4294967295 → IsSound w more grown end total gap
  sound-more w end total gap s few = record {
    laid = laid-more (length w) end total s.laid few;
    few_words = s.few_words;
    known = rw m.used (s.known ∙ sym (gap-same (slot_at slots) (slot_at more) ids.used (λ i u. m.same i)));
    ordered = λ i c e. s.ordered i c (sym (clause-more w i) ∙ e);
  }
