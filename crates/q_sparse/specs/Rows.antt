-- What a caller sees of a sparse row.
use Rattle.std.specs.Prelude.{ℕ, List, Bool, slice_index_or, refl}
use Rattle.std.specs.Coded.{Coded, code_by, coded×, coded_list, coded_bool}

pub record Row (T : Type 0) : Type 0 where
  pub items : List T
  -- what stands where nothing was written
  pub none : T
  -- whether all its numbers stand in one row, where a look needs no comparison
  pub full : Bool

-- a row is stored as its fields
abbrev pub row_code : {T : Type 0} → Coded T → Coded (Row T)
row_code {T} code =
    code_by
    (List T × (T × Bool))
    (coded× (coded_list code) (coded× code coded_bool))
    (λ r. (r.items, (r.none, r.full)))
    (λ p. record { items = p.0; none = p.1.0; full = p.1.1 })
    (λ _. refl)

module _ {T : Type 0} where
  -- the item at a number, also past the end
  abbrev pub item_at : Row T → ℕ → T
  item_at r i = slice_index_or r.items i r.none
