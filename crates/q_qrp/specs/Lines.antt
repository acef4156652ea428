-- The lines of a resolution proof: what a trace in the format QRP says. The format is that of QRPcert (Niemetz, Preiner,
-- Lonsing, Seidl, Biere 2012), which DepQBF writes.
use Rattle.std.specs.Prelude.{◌≡◌, ◌<◌, ℕ, List, [], ◌∷◌, slice_get, Option, Some, None}
use Rattle.q_logic.specs.Prelude.{Literal}
use Rattle.q_qrp.specs.declared.trace.Row.{Row}
use Rattle.q_qrp.specs.declared.trace.Verdict.{Verdict}

-- a line of the proof: what it says besides its literals, and these in the order of the text
pub record Line : Type 0 where
  pub row : Row
  pub literals : List Literal

-- the lines in their order, and the verdict with its line of the text
pub record Proof : Type 0 where
  pub lines : List Line
  pub verdict : Verdict
  pub place : ℕ

abbrev pub lines_of : List Row → List (List Literal) → List Line
lines_of [] ts = []
lines_of (r ∷ rs) [] = []
lines_of (r ∷ rs) (t ∷ ts) = record { row = r; literals = t } ∷ lines_of rs ts

abbrev pub row_of : Option Line → Option Row
row_of None = None
row_of (Some l) = Some l.row

abbrev pub literals_of : Option Line → Option (List Literal)
literals_of None = None
literals_of (Some l) = Some l.literals

-- the numbers of the lines rise
abbrev pub AreRising : List Line → Type 0
AreRising lines = (i j : ℕ) → (a b : Line) → i < j → slice_get lines i ≡ Some a → slice_get lines j ≡ Some b → a.row.id < b.row.id

-- the same of rows
abbrev pub IsBefore : Row → Row → Type 0
IsBefore a b = a.id < b.id
