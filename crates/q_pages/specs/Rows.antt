-- What a caller sees of a row in pages.
use Rattle.std.specs.Prelude.{◌≡◌, ◌≤◌, ◌<◌, ◌/◌, ℕ, Bool, true, false, List, length, slice_index_or, refl}
use Rattle.std.specs.Coded.{Coded, code_by, coded×, coded_list, coded_bool}

pub record Row (T : Type 0) : Type 0 where
  -- what stands where nothing was written
  pub none : T
  pub items : List T
  -- for each page whether it has memory of its own
  pub made : List Bool

-- a row is stored as the tuple of its fields
abbrev pub row_code : {T : Type 0} → Coded T → Coded (Row T)
row_code {T} code =
    code_by
    (T × (List T × List Bool))
    (coded× code (coded× (coded_list code) (coded_list coded_bool)))
    (λ r. (r.none, (r.items, r.made)))
    (λ p. record { none = p.0; items = p.1.0; made = p.1.1 })
    (λ _. refl)

module _ {T : Type 0} where
  -- the item at a number, also past the end
  abbrev pub item_at : Row T → ℕ → T
  item_at r i = slice_index_or r.items i r.none

  -- the number is one of the row, and its page has memory
  abbrev pub IsMade : Row T → ℕ → Type 0
  IsMade r i = (i < length r.items) × (slice_index_or r.made (i / 1024) false ≡ true)

  -- no number is lost, and no page
  pub record KeepsPages (old new : Row T) : Type 0 where
    pub none : new.none ≡ old.none
    pub length : length old.items ≤ length new.items
    pub made : (i : ℕ) → IsMade old i → IsMade new i

  -- each item is as before; numbers that came have what stands where nothing was written
  abbrev pub HasSameItems : Row T → Row T → Type 0
  HasSameItems old new = (i : ℕ) → item_at new i ≡ item_at old i
