-- How a row lies in its pages. No public clause cites this module.
use Rattle.std.specs.Prelude.{◌≡◌, ◌≤◌, ◌<◌, ◌+◌, ◌*◌, ◌/◌, ◌%◌, ℕ, zero, suc, nat_lt, List, [], ◌∷◌, length, map, slice_index_or}
use Rattle.q_pages.specs.Rows.{Row}
use Rattle.q_pages.specs.Tables.{page_of, IsFreePage}

-- so many values, of the numbers from one on
abbrev pub values_from : {T : Type 0} → (ℕ → T) → ℕ → ℕ → List T
values_from f k zero = []
values_from f k (suc n) = f k ∷ values_from f (suc k) n

module _ {T : Type 0} where
  -- what stands at a number
  abbrev pub entry : T → List ℕ → List T → ℕ → T
  entry none pages items i = slice_index_or items (page_of pages i * 1024 + i % 1024) none

  abbrev pub row_of : T → List ℕ → List T → Row T
  row_of none pages items = record {
    none = none;
    items = values_from (entry none pages items) 0 (1024 * length pages);
    made = map (λ p. nat_lt 0 p) pages;
  }

  pub record IsSound (none : T) (pages : List ℕ) (items : List T) : Type 0 where
    pub within : (k : ℕ) → k < length pages → slice_index_or pages k 0 * 1024 + 1024 ≤ length items
    pub free : (p r : ℕ) → r < 1024 → IsFreePage pages p → slice_index_or items (p * 1024 + r) none ≡ none
    pub apart : (k l : ℕ) → k < length pages → l < length pages → slice_index_or pages k 0 ≡ slice_index_or pages l 0 → 0 < slice_index_or pages k 0 → k ≡ l
    pub few : length pages ≤ 4194304
