-- The canonical text of logs of the second profile: the header, and each step with its proof part on a line.
use Rattle.std.specs.Prelude.{ℕ, ◌+◌, List, [], ◌∷◌, ◌++◌, map, pos}
use Rattle.q_logic.specs.Prelude.{Hinted, ProofPart, kind_of, ProofStep}
use Rattle.q_text.specs.Numbers.{numbers_text, line_end}
use Rattle.q_log.specs.Texts.{head_text, IsLogged}
use Rattle.q_hinted.specs.Parts.{IsPartOf, line_numbers}

-- p qrat 2, and LF
abbrev pub header_text : List ℕ
header_text = 112 ∷ 32 ∷ 113 ∷ 114 ∷ 97 ∷ 116 ∷ 32 ∷ 50 ∷ 10 ∷ []

-- numbers without sign, with a space behind each
abbrev pub plain_text : List ℕ → List ℕ
plain_text ns = numbers_text (map pos ns)

abbrev pub hinted_text : ProofStep → ProofPart → List ℕ
hinted_text s t = head_text s ++ (plain_text (line_numbers (kind_of s) t) ++ line_end)

abbrev pub lines_text : List Hinted → List ℕ
lines_text [] = []
lines_text (h ∷ hs) = hinted_text h.step h.proof ++ lines_text hs

abbrev pub log_text : List Hinted → List ℕ
log_text hs = header_text ++ lines_text hs

-- a step with a proof part that a log can hold
pub record IsWritten (h : Hinted) : Type 0 where
  pub step : IsLogged h.step
  pub part : IsPartOf (kind_of h.step) h.proof

-- steps, each on a line of its own, from line n on
abbrev pub on_lines : ℕ → List Hinted → List (ℕ × Hinted)
on_lines n [] = []
on_lines n (h ∷ hs) = (n, h) ∷ on_lines (n + 1) hs
