-- The page of each number, and where its place is in a row of pages.
use Rattle.std.specs.Prelude.{◌≡◌, ◌⊎◌, ◌≤◌, ◌<◌, ◌+◌, ◌*◌, ◌/◌, ◌%◌, ℕ, List, length, slice_index_or}

-- the page of a number, which is 0 where it has none of its own
abbrev pub page_of : List ℕ → ℕ → ℕ
page_of pages i = slice_index_or pages (i / 1024) 0

abbrev pub place_in : List ℕ → ℕ → ℕ
place_in pages i = page_of pages i * 1024 + i % 1024

-- a page that no number has, and page 0
abbrev pub IsFreePage : List ℕ → ℕ → Type 0
IsFreePage pages p = (k : ℕ) → k < length pages → slice_index_or pages k 0 ≡ p → p ≡ 0

-- each number has the page that it had, or has got one that was free
pub record IsGiven (old new : List ℕ) : Type 0 where
  pub long : length old ≤ length new
  pub kept : (k : ℕ) → (slice_index_or new k 0 ≡ slice_index_or old k 0) ⊎ ((slice_index_or old k 0 ≡ 0) × IsFreePage old (slice_index_or new k 0))

-- the row has nothing in page 0, nor in a page that no number has
abbrev pub HasFreePages : {T : Type 0} → T → List ℕ → List T → Type 0
HasFreePages none pages items = (p r : ℕ) → r < 1024 → IsFreePage pages p → slice_index_or items (p * 1024 + r) none ≡ none

-- each page is one number's, and none is past the last
pub record IsTable (pages : List ℕ) (last : ℕ) : Type 0 where
  pub below : (k : ℕ) → k < length pages → slice_index_or pages k 0 ≤ last
  pub apart : (k l : ℕ) → k < length pages → l < length pages → slice_index_or pages k 0 ≡ slice_index_or pages l 0 → 0 < slice_index_or pages k 0 → k ≡ l
