-- How a sparse row lies in memory. No public clause cites this module.
use Rattle.std.specs.Prelude.{Bool, false, IsTrue, ◌≡◌, ◌⊎◌, ◌≤◌, ◌<◌, ◌+◌, ◌*◌, ℕ, zero, suc, nat_lt, cond, List, [], ◌∷◌, length, slice_index_or}
use Rattle.q_pages.specs.Layout.{values_from, entry, IsSound}
use Rattle.q_sparse.specs.Rows.{Row}

-- how many pages were made
abbrev pub given : List ℕ → ℕ
given [] = 0
given (p ∷ pages) = cond (nat_lt 0 p) (suc (given pages)) (given pages)

module _ {T : Type 0} where
  -- what stands at a number: below the edge in the plain row, else in pages
  abbrev pub item : ℕ → T → List T → List ℕ → List T → ℕ → T
  item edge none near pages far i = cond (nat_lt i edge) (slice_index_or near i none) (entry none pages far i)

  abbrev pub row_of : ℕ → T → ℕ → List T → List ℕ → List T → Row T
  row_of edge none len near pages far = record { items = values_from (item edge none near pages far) 0 len; none = none; full = false }

  -- the same, and whether all numbers stand in the plain row
  abbrev pub with_full : Bool → Row T → Row T
  with_full full r = record { items = r.items; none = r.none; full = full }

  -- a row of `len` numbers, over two rows of values that have so much room
  pub record IsRow (edge : ℕ) (none : T) (len : ℕ) (full : Bool) (near : List T) (near_room : ℕ) (pages : List ℕ) (far : List T) (far_room : ℕ) : Type 0 where
    pub within : length near ≤ len
    pub few_near : length near ≤ edge
    pub roomy_near : (len ≤ near_room) ⊎ (edge ≤ near_room)
    pub sound : IsSound none pages far
    pub whole : (len ≤ edge) ⊎ (len ≤ 1024 * length pages)
    pub long : length far ≤ 1024 * (given pages + 1)
    pub roomy_far : 0 < length pages → 1024 * (length pages + 1) ≤ far_room
    -- nothing is written past the end
    pub beyond : (i : ℕ) → len ≤ i → edge ≤ i → entry none pages far i ≡ none
    pub few : len ≤ 4294966272
    -- a full row has all numbers in the plain row
    pub all : IsTrue full → length near ≡ len
    pub wide : IsTrue full → 4294966272 ≤ edge
