-- Clauses in one row of literals, with which another one is joined in turn.
use Rattle.std.specs.Prelude.{◌≡◌, ◌≤◌, ℕ, List, Some, Contains, slice_get, slice_range, length, ◌++◌}
use Rattle.q_logic.specs.Prelude.{Literal, Clause, Matrix, Implied}
use Rattle.q_prop.specs.declared.tails.Span.{Span}

-- the clause of a span
abbrev pub tail_of : List Literal → Span → Clause
tail_of row p = slice_range row p.start p.end

-- the spans lie within the row
abbrev pub AreSpans : List Literal → List Span → Type 0
AreSpans row spans = (at' : ℕ) (p : Span) → slice_get spans at' ≡ Some p → (p.start ≤ p.end) × (p.end ≤ length row)

-- the clause is implied with each of the others joined to it
abbrev pub AreImplied : Matrix → Clause → List Clause → Type 0
AreImplied x c tails = (t : Clause) → Contains tails t → Implied x (c ++ t)
