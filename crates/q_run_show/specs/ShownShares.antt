-- The lines of a share of a proof's steps up to the empty clause, with the numbers of all steps.
use Rattle.std.specs.Prelude.{◌≡◌, ◌+◌, ℕ, Bool, List, [], ◌∷◌, ◌++◌}
use Rattle.std.specs.List.{AllByRecursion}
use Rattle.q_logic.specs.Prelude.{PrenexFormula, NumberedFormula, Hinted, ProofPart, begun, hinted_after, plain, strip, standard, kind_of, ProofStep}
use Rattle.q_log.specs.Logs.{Parsed}
use Rattle.q_log.specs.Texts.{IsLogged}
use Rattle.q_hinted.specs.Parts.{IsPartOf}
use Rattle.q_hinted.specs.Texts.{log_text}
use Rattle.q_shares.specs.Shares.{Share, count, judged}
use Rattle.q_same_steps.specs.HintedMaking.{HintedApplies}
use Rattle.q_refutation.specs.Refutations.{IsLost}
use Rattle.q_shown.specs.HintedRefutations.{HintedMayBeMade, HintedRefutation, HintedRefutedIn}
use Rattle.q_command.specs.Logs.{steps_of}
use Rattle.q_run_disprove.specs.SharedDisproofs.{IsShareRefutationIn}
use Rattle.q_run_annotate.specs.AnnotatedShares.{AreWritable, header_in, lines_in}

-- a step, where it is to be shown, may be made as its proof part shows, and else can be made
abbrev pub HintedMayBeTaken : Bool → NumberedFormula → ProofStep → ProofPart → Type 0
HintedMayBeTaken own N s t = judged own (HintedMayBeMade standard N s t) (HintedApplies standard N s t)

-- the steps, of which the first has the number k, are taken one after the other, the empty clause is there before none of them, and E is
-- the last formula
abbrev pub AreHintedTaken : Share → ℕ → NumberedFormula → List Hinted → NumberedFormula → Type 0
AreHintedTaken j k N [] E = N ≡ E
AreHintedTaken j k N (h ∷ hs) E =
    ¬ IsLost (plain N) × HintedMayBeTaken (j k) N h.step h.proof × AreHintedTaken j (k + 1) (hinted_after N h.step h.proof) hs E

-- the canonical lines of a share of hinted steps: all these lead from F to the empty clause, those of the share are shown by their proof
-- parts, and without these parts they are the front of ss
pub record IsShareText (j : Share) (F : PrenexFormula) (ss : List ProofStep) (text : List ℕ) : Type 0 where
  pub hinted : List Hinted
  pub last : NumberedFormula
  pub taken : AreHintedTaken j 0 (begun F) hinted last
  pub lost : IsLost (plain last)
  pub rest : List ProofStep
  pub front : ss ≡ strip hinted ++ rest
  pub logged : AllByRecursion IsLogged (strip hinted)
  pub parts : AreWritable j 0 hinted
  pub text_is : text ≡ header_in j ++ lines_in j 0 hinted

-- the lines of a share of a proof's steps up to the empty clause, and how many these are; as far as the share tells, the proof refutes F
pub record IsShareShown (j : Share) (steps : ℕ) (text : List ℕ) (F : PrenexFormula) (p : Parsed) : Type 0 where
  pub refutes : IsShareRefutationIn j steps F p
  pub hinted : IsShareText j F (steps_of p.steps) text
  pub counted : steps ≡ count j 0 (strip hinted.hinted)

-- the canonical text of a log with hints: its steps, so many, lead from F to the empty clause as their proof parts show; without these
-- parts they are the front of ss
pub record IsShownText (F : PrenexFormula) (ss : List ProofStep) (steps : ℕ) (text : List ℕ) : Type 0 where
  pub hinted : List Hinted
  pub refutes : HintedRefutation F hinted
  pub number : HintedRefutedIn standard (begun F) hinted steps
  pub rest : List ProofStep
  pub front : ss ≡ strip hinted ++ rest
  pub logged : AllByRecursion IsLogged (strip hinted)
  pub parts : AllByRecursion (λ h. IsPartOf (kind_of h.step) h.proof) hinted
  pub text_is : text ≡ log_text hinted
