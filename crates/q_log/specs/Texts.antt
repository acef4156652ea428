-- The canonical text of steps: a letter, the numbers of the literals, 0 and LF.
use Rattle.std.specs.Prelude.{◌≡◌, ◌≢◌, ◌≤◌, ◌<◌, ◌+◌, ◌^◌, ℕ, false, List, [], ◌∷◌, ◌++◌, map, Option, Some, None}
use Rattle.std.specs.List.{AllByRecursion}
use Rattle.q_logic.specs.declared.steps.Kind.{Kind}
use Rattle.q_logic.specs.declared.steps.Kind.TheVariants.{Add, Delete, Drop, Fresh, Remove}
use Rattle.q_logic.specs.Prelude.{Literal, number_of, ProofStep, add, delete, drop_literal, fresh, remove_variable, without, positive, first_of, kind_of, literals_of, IsStep}
use Rattle.q_text.specs.Numbers.{numbers_text, line_end}

-- a letter and a space, or nothing for an addition
abbrev pub letter_text : Kind → List ℕ
letter_text Add = []
letter_text Delete = 100 ∷ 32 ∷ []
letter_text Drop = 117 ∷ 32 ∷ []
letter_text Fresh = 101 ∷ 32 ∷ []
letter_text Remove = 114 ∷ 32 ∷ []

-- the numbers of literals, with a space behind each
abbrev pub literals_text : List Literal → List ℕ
literals_text ls = numbers_text (map number_of ls)

-- a step without the 0 and LF behind it
abbrev pub head_text : ProofStep → List ℕ
head_text s = letter_text (kind_of s) ++ literals_text (literals_of s)

-- the first literal stands first, then the others in literal order
abbrev pub step_text : ProofStep → List ℕ
step_text s = letter_text (kind_of s) ++ (literals_text (literals_of s) ++ line_end)

abbrev pub steps_text : List ProofStep → List ℕ
steps_text [] = []
steps_text (s ∷ ss) = step_text s ++ steps_text ss

-- a step as it is handed over to be written: its first literal, and its clause; for e the first
-- variable, and the second alone; for r the variable alone
abbrev pub written : Kind → Option Literal → List Literal → ProofStep
written Add p C = add p C
written Delete p C = delete p C
written Drop None C = drop_literal (positive 0) []
written Drop (Some l) C = drop_literal l C
written Fresh None ls = fresh 0 0
written Fresh (Some v) [] = fresh v.var 0
written Fresh (Some v) (w ∷ ls) = fresh v.var w.var
written Remove None ls = remove_variable 0
written Remove (Some v) ls = remove_variable v.var

-- the addition of a clause without one of its literals
abbrev pub shorter : Literal → List Literal → ProofStep
shorter out C = add (first_of (without out C)) (without out C)

abbrev pub IsWritable : Kind → Option Literal → List Literal → Type 0
IsWritable Add p C = Unit {0}
IsWritable Delete p C = Unit {0}
IsWritable Drop None C = ⊥
IsWritable Drop (Some l) C = Unit {0}
IsWritable Fresh None ls = ⊥
IsWritable Fresh (Some v) [] = ⊥
IsWritable Fresh (Some v) (w ∷ []) = (v.negative ≡ false) × (w.negative ≡ false) × (v.var ≢ w.var)
IsWritable Fresh (Some v) (w ∷ x ∷ ls) = ⊥
IsWritable Remove None ls = ⊥
IsWritable Remove (Some v) [] = v.negative ≡ false
IsWritable Remove (Some v) (w ∷ ls) = ⊥

-- a step that a log can hold: its variables are from 1 to 2147483647
pub record IsLogged (s : ProofStep) : Type 0 where
  pub step : IsStep s
  pub numbers : AllByRecursion (λ l. (1 ≤ l.var) × (l.var < 2 ^ 31)) (literals_of s)

-- steps, each on a line of its own, from line n on
abbrev pub on_lines : ℕ → List ProofStep → List (ℕ × ProofStep)
on_lines n [] = []
on_lines n (s ∷ ss) = (n, s) ∷ on_lines (n + 1) ss
