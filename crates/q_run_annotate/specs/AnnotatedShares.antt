-- The lines of a share of a log's steps, with the numbers of the whole log.
use Rattle.std.specs.Prelude.{◌≡◌, ◌+◌, ℕ, Bool, cond, List, [], ◌∷◌, ◌++◌, Some}
use Rattle.q_logic.specs.Prelude.{PrenexFormula, Hinted, ProofPart, strip, standard, kind_of, ProofStep}
use Rattle.q_shares.specs.Shares.{Share, ShareRun, count, judged}
use Rattle.q_shares.specs.HintedShares.{HintedShareRun}
use Rattle.q_log.specs.Logs.{Steps}
use Rattle.q_hinted.specs.Parts.{IsPartOf}
use Rattle.q_hinted.specs.Texts.{header_text, hinted_text}
use Rattle.q_command.specs.Logs.{Entry, steps_of}

-- the line of a step, where it is of the share
abbrev pub line_if : Bool → ProofStep → ProofPart → List ℕ
line_if b s t = cond b (hinted_text s t) []

-- the lines of the steps that are of the share; the first step has the number k
abbrev pub lines_in : Share → ℕ → List Hinted → List ℕ
lines_in j k [] = []
lines_in j k (h ∷ hs) = line_if (j k) h.step h.proof ++ lines_in j (k + 1) hs

-- who has the first step writes the header
abbrev pub header_in : Share → List ℕ
header_in j = cond (j 0) header_text []

-- a log can hold the proof parts of the share
abbrev pub AreWritable : Share → ℕ → List Hinted → Type 0
AreWritable j k [] = Unit {0}
AreWritable j k (h ∷ hs) = judged (j k) (IsPartOf (kind_of h.step) h.proof) (Unit {0}) × AreWritable j (k + 1) hs

-- the canonical lines of a share of hinted steps: all these steps are made from F to G, those of the share are shown by their proof
-- parts, and without these parts the steps are ss
pub record IsShareText (j : Share) (F G : PrenexFormula) (ss : List ProofStep) (text : List ℕ) : Type 0 where
  pub hinted : List Hinted
  pub run : HintedShareRun j F hinted G
  pub steps : strip hinted ≡ ss
  pub parts : AreWritable j 0 hinted
  pub text_is : text ≡ header_in j ++ lines_in j 0 hinted

-- the lines of a share of LOG's steps, and how many these are; as far as the share tells, the steps are a run
pub record IsShareAnnotation (j : Share) (log : List ℕ) (steps : ℕ) (F G : PrenexFormula) (text : List ℕ) : Type 0 where
  pub entries : List Entry
  pub is_log : Steps standard.bytes log ≡ Some entries
  pub run : ShareRun j F (steps_of entries) G
  pub counted : steps ≡ count j 0 (steps_of entries)
  pub hinted : IsShareText j F G (steps_of entries) text
