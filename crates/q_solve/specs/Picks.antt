-- Rows of literals for variables of a prefix, which are told by their depth: so many variables stand up to the variable,
-- itself included. Where a row has nothing, the literal is 0, which is the constant false.
use Rattle.std.specs.Prelude.{◌≡◌, ◌<◌, ◌≤◌, ℕ, cond, eqb, List, [], ◌∷◌}
use Rattle.q_solve.specs.declared.picks.Pick.{Pick}

-- the literal at a depth
abbrev pub lit_at : List Pick → ℕ → ℕ
lit_at [] k = 0
lit_at (p ∷ ps) k = cond (eqb p.depth k) p.lit (lit_at ps k)

-- all depths are below n
abbrev pub AreBelow : ℕ → List Pick → Type 0
AreBelow n [] = Unit {0}
AreBelow n (p ∷ ps) = (p.depth < n) × AreBelow n ps

-- the depths fall, and none is below low
abbrev pub IsRow : ℕ → List Pick → Type 0
IsRow low [] = Unit {0}
IsRow low (p ∷ ps) = (low ≤ p.depth) × AreBelow p.depth ps × IsRow low ps

-- the greatest depth, or 0
abbrev pub top_of : List Pick → ℕ
top_of [] = 0
top_of (p ∷ ps) = p.depth

-- a depth is taken from the front of a row: its literal, and what is left
pub record IsTaken (all left : List Pick) (depth lit : ℕ) : Type 0 where
  pub value : lit ≡ lit_at all depth
  pub rest : (k : ℕ) → k < depth → lit_at left k ≡ lit_at all k
  pub below : AreBelow depth left
  pub row : (low : ℕ) → IsRow low all → IsRow low left
  pub deep : (n : ℕ) → AreBelow n all → AreBelow n left
