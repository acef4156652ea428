-- Where a live clause stands, and what stays of the others when its words are moved down.
use Rattle.std.proofs.Common.{◌≡◌, ◌≢◌, ℕ, ◌+◌, ◌<◌, ◌≤◌, true, List, length, get_or, Option, inl, inr, arith}
use Rattle.q_logic.specs.Prelude.{Literal}
use Rattle.q_arena.specs.declared.slots.Slot.{Slot}
use Rattle.q_arena.specs.Rings.{Has}
use Rattle.q_arena.specs.Layout.{slot_at, top_of, below, Order}
use Rattle.q_arena.specs.Gaps.{IsSound}
use Rattle.q_arena.specs.Seen.{piece}
use Rattle.q_arena.proofs.Layouts.{live-room, live-below, live-total, below-top, stack-sides}
use Rattle.q_arena.proofs.ClauseWords.{piece-moved, blank_lit}

-- where a live clause stands
pub record Stands (room : ℕ) (slots : List Slot) (ids : Order) (total id : ℕ) : Type 0 where
  pub used : Has ids.used id
  pub index : id < length slots
  pub within : (slot_at slots id).start + (slot_at slots id).len ≤ room
  pub low : top_of (slot_at slots) (below id ids.used) ≤ (slot_at slots id).start
  pub least : (slot_at slots id).len ≤ total

module _ {words : List Literal} {slots : List Slot} {ids : Order} {end total : ℕ} {gap : Option ℕ} (a : IsSound words slots ids end total gap) (id : ℕ) (live : (slot_at slots id).live ≡ true) where
  pub stands : Stands (length words) slots ids total id
  stands =
      let u = a.laid.lives id live in
      record {
        used = u;
        index = live-below slots id live;
        within = live-room (length words) slots ids end total id a.laid live;
        low = below-top (slot_at slots) id ids.used a.laid.stack u;
        least = live-total (length words) slots ids end total id a.laid live;
      }

  -- what is written between the clause below and the end of this one is in no other clause
  pub others-stay : (v : List Literal) (to n : ℕ) → length v ≡ length words
      → top_of (slot_at slots) (below id ids.used) ≤ to → to + n ≤ (slot_at slots id).start + (slot_at slots id).len
      → ((k : ℕ) (d : Literal) → k < to → get_or v k d ≡ get_or words k d)
      → ((k : ℕ) (d : Literal) → to + n ≤ k → get_or v k d ≡ get_or words k d)
      → (j : ℕ) → j ≢ id → (slot_at slots j).live ≡ true
      → piece v (slot_at slots j).start (slot_at slots j).len ≡ piece words (slot_at slots j).start (slot_at slots j).len
  others-stay v to n vl low high under above j ne jl =
      let s = (slot_at slots j).start in
      let m = (slot_at slots j).len in
      let jr = live-room (length words) slots ids end total j a.laid jl in
      let side = stack-sides (slot_at slots) id j ids.used a.laid.stack stands.used (a.laid.lives j jl) ne in
      elim side [
        | inl b ↦ piece-moved v words s s m (omega (arith, jr, vl)) jr (λ i l. under (s + i) blank_lit (omega (arith, b, l, low)))
        | inr b ↦ piece-moved v words s s m (omega (arith, jr, vl)) jr (λ i l. above (s + i) blank_lit (omega (arith, b, l, high)))
      ]
