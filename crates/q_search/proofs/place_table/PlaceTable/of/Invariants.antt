use Rattle.std.proofs.Common.{◌≡◌, ◌+◌, ℕ, length, drop}
use Rattle.q_logic.specs.Prefixes.{place}
use Rattle.q_pages.specs.Rows.{item_at}
use Rattle.q_search.proofs.place_table.PlaceTable.of.Given as goal

abbrev pub invariant-loop-place : goal.invariant-loop-place
invariant-loop-place l = record {
  end : l.places.none ≡ length l.prefix;
  done : (v : ℕ) → item_at l.places v ≡ l.place + place (drop l.place l.prefix) v;
}
