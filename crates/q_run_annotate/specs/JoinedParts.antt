-- What all parts of `annotate` are together: their lines, each from the one whose share has the step, in the order of the steps.
use Rattle.std.specs.Prelude.{◌≡◌, ◌≤◌, ◌+◌, ◌==◌, ℕ, cond, List, [], ◌∷◌, ◌++◌, Some}
use Rattle.std.specs.List.{AllByRecursion}
use Rattle.q_logic.specs.Prelude.{PrenexFormula, Clause, Hinted, HintedRun, ProofStep, after, copies, strip, standard, kind_of}
use Rattle.q_shares.specs.Shares.{Share, judged}
use Rattle.q_log.specs.Logs.{Steps}
use Rattle.q_hinted.specs.Parts.{IsPartOf}
use Rattle.q_hinted.specs.Texts.{header_text, log_text}
use Rattle.q_command.specs.Logs.{Entry, steps_of}
use Rattle.q_run_annotate.specs.AnnotatedShares.{IsShareAnnotation}

-- a text cut behind each LF
abbrev pub onto_first : ℕ → List (List ℕ) → List (List ℕ)
onto_first b [] = (b ∷ []) ∷ []
onto_first b (l ∷ ls) = (b ∷ l) ∷ ls

abbrev pub lines_of : List ℕ → List (List ℕ)
lines_of [] = []
lines_of (b ∷ bs) = cond (b == 10) ((b ∷ []) ∷ lines_of bs) (onto_first b (lines_of bs))

abbrev pub text_of : List (List ℕ) → List ℕ
text_of [] = []
text_of (l ∷ ls) = l ++ text_of ls

-- the lines that are left of several files
abbrev pub Rows : Type 0
Rows = List (List (List ℕ))

abbrev pub AreEmpty : Rows → Type 0
AreEmpty [] = Unit {0}
AreEmpty (r ∷ rs) = (r ≡ []) × AreEmpty rs

-- the line l is taken where it stands first in the file of the one whose share has the number k; the other files stay
abbrev pub TakesLine : List Share → ℕ → List ℕ → Rows → Rows → Type 0
TakesLine [] k l [] [] = Unit {0}
TakesLine [] k l [] (n ∷ ns) = ⊥
TakesLine [] k l (o ∷ os) ns = ⊥
TakesLine (j ∷ js) k l [] ns = ⊥
TakesLine (j ∷ js) k l (o ∷ os) [] = ⊥
TakesLine (j ∷ js) k l (o ∷ os) (n ∷ ns) = judged (j k) (o ≡ l ∷ n) (o ≡ n) × TakesLine js k l os ns

-- so all lines of all files are taken, from number k on
abbrev pub AreTaken : List Share → ℕ → Rows → List (List ℕ) → Type 0
AreTaken js k rs [] = AreEmpty rs
AreTaken js k rs (l ∷ ls) = (more : Rows) × TakesLine js k l rs more × AreTaken js (k + 1) more ls

-- the lines of the files; who has the first step has the header before them
abbrev pub AreRows : List Share → List (List ℕ) → Rows → Type 0
AreRows [] [] [] = Unit {0}
AreRows [] [] (r ∷ rs) = ⊥
AreRows [] (t ∷ ts) rs = ⊥
AreRows (j ∷ js) [] rs = ⊥
AreRows (j ∷ js) (t ∷ ts) [] = ⊥
AreRows (j ∷ js) (t ∷ ts) (r ∷ rs) = (lines_of t ≡ cond (j 0) (header_text ∷ r) r) × AreRows js ts rs

-- the text is the header, and then the lines of the files, each from the one whose share has its number
pub record AreJoined (js : List Share) (texts : List (List ℕ)) (text : List ℕ) : Type 0 where
  pub rows : Rows
  pub are_rows : AreRows js texts rows
  pub lines : List (List ℕ)
  pub taken : AreTaken js 0 rows lines
  pub text_is : text ≡ header_text ++ text_of lines

-- each text is what a part of `annotate` writes of the log from F to G, and each number is what it says
abbrev pub AreAnnotations : List Share → List ℕ → List ℕ → PrenexFormula → PrenexFormula → List (List ℕ) → Type 0
AreAnnotations [] [] log F G [] = Unit {0}
AreAnnotations [] [] log F G (t ∷ ts) = ⊥
AreAnnotations [] (k ∷ ks) log F G ts = ⊥
AreAnnotations (j ∷ js) [] log F G ts = ⊥
AreAnnotations (j ∷ js) (k ∷ ks) log F G [] = ⊥
AreAnnotations (j ∷ js) (k ∷ ks) log F G (t ∷ ts) = IsShareAnnotation j log k F G t × AreAnnotations js ks log F G ts

-- no clause stands twice, at the start or behind a step
abbrev pub AreSingle : PrenexFormula → List ProofStep → Type 0
AreSingle F [] = (C : Clause) → copies C F.matrix ≤ 1
AreSingle F (s ∷ ss) = ((C : Clause) → copies C F.matrix ≤ 1) × AreSingle (after F s) ss

-- the canonical text of a log with hints that has the steps of LOG; where no clause stands twice, it leads from F to G
pub record IsHintedLogOf (log : List ℕ) (F G : PrenexFormula) (text : List ℕ) : Type 0 where
  pub entries : List Entry
  pub is_log : Steps standard.bytes log ≡ Some entries
  pub hinted : List Hinted
  pub steps : strip hinted ≡ steps_of entries
  pub parts : AllByRecursion (λ h. IsPartOf (kind_of h.step) h.proof) hinted
  pub text_is : text ≡ log_text hinted
  pub run : AreSingle F (steps_of entries) → HintedRun F hinted G
