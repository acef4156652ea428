-- A walk that closes gates once all that they use is closed.
use Rattle.std.specs.Prelude.{◌≡◌, ◌<◌, ◌+◌, ℕ, Bool, true, false, cond, List, [], ◌∷◌, length, slice_index_or}
use Rattle.q_gates.specs.declared.sorting.Sorted.{Sorted}
use Rattle.q_gates.specs.declared.sorting.Sorted.TheVariants.{Order, Cycle}
use Rattle.q_gates.specs.Uses.{Parts, Uses, IsOrder, IsFullOrder, IsFirstCycle}

abbrev pub is_marked : List Bool → ℕ → Bool
is_marked ms g = slice_index_or ms g false

abbrev pub unmarked_count : List Bool → ℕ
unmarked_count [] = 0
unmarked_count (b ∷ bs) = cond b (unmarked_count bs) (unmarked_count bs + 1)

-- the stack is a chain of uses; what is open and not closed is on it; what is closed is in the order
pub record IsWalk (ps : Parts) (opened closed : List Bool) (stack order : List ℕ) : Type 0 where
  pub opened_room : length opened ≡ length ps
  pub closed_room : length closed ≡ length ps
  pub on_stack : (g : ℕ) → is_marked opened g ≡ true → is_marked closed g ≡ false → (i : ℕ) × (i < length stack) × (slice_index_or stack i 0 ≡ g)
  pub stacked : (i : ℕ) → i < length stack → (is_marked opened (slice_index_or stack i 0) ≡ true) × (is_marked closed (slice_index_or stack i 0) ≡ false) × (slice_index_or stack i 0 < length ps)
  pub apart : (i j : ℕ) → i < length stack → j < length stack → slice_index_or stack i 0 ≡ slice_index_or stack j 0 → i ≡ j
  pub chain : (i : ℕ) → i + 1 < length stack → Uses ps (slice_index_or stack i 0) (slice_index_or stack (i + 1) 0)
  pub ordered : IsOrder ps order
  pub listed : (g : ℕ) → is_marked closed g ≡ true → (i : ℕ) × (i < length order) × (slice_index_or order i 0 ≡ g)
  pub listed_closed : (i : ℕ) → i < length order → is_marked closed (slice_index_or order i 0) ≡ true
  pub closed_opened : (g : ℕ) → is_marked closed g ≡ true → is_marked opened g ≡ true

-- an order of all gates in which what is used comes first, or the first gate that depends on itself
abbrev pub IsSorted : Parts → Sorted → Type 0
IsSorted ps (Order order) = IsFullOrder ps order.items
IsSorted ps (Cycle g) = IsFirstCycle ps g
