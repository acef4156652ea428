-- A plain log whose share is written with hints while it is read: what some bytes of it do, and what its end says.
use Rattle.std.specs.Prelude.{◌≡◌, ◌≤◌, ◌+◌, ◌^◌, ℕ, Bool, cond, List, [], ◌++◌, length, take, drop, slice_get, None, Some}
use Rattle.q_logic.specs.Prelude.{PrenexFormula, Hinted, HintedValid, ProofPart, begun, hinted_after, plain, strip, standard, SameFormula, kind_of, ProofStep, Cause}
use Rattle.q_same_steps.specs.Making.{Unfit}
use Rattle.q_same_steps.specs.HintedMaking.{HintedApplies, hinted_made}
use Rattle.q_shares.specs.Shares.{Share, count, judged}
use Rattle.q_shares.specs.HintedShares.{AreHintedMade}
use Rattle.q_log.specs.Logs as logs
use Rattle.q_log.specs.Reading.{to_come}
use Rattle.q_hinted.specs.Parts.{IsPartOf}
use Rattle.q_judge.specs.declared.error.CheckError.TheVariants as check
use Rattle.q_judge.specs.Tried.{IsEndRefusal}
use Rattle.q_check.specs.Annotations.{Annotating}
use Rattle.q_command.specs.Judging.{LeadsMade}
use Rattle.q_command.specs.Logs.{Entry, steps_of}
use Rattle.q_command.specs.Parts.{share_of}
use Rattle.q_command.specs.declared.part.Part.{Part}
use Rattle.q_command.specs.declared.outcome.Outcome.{Outcome}
use Rattle.q_command.specs.declared.outcome.Outcome.TheVariants.{Verified, RefusedLine, RefusedEnd, RefusedInput, ReadFault, NoMemory}
use Rattle.q_run_annotate.specs.AnnotatedShares.{AreWritable, IsShareAnnotation, header_in, line_if, lines_in}
use Rattle.q_run_annotate.specs.AnnotatedParts.{IsRefusedPlainShared, LogRefusesShared}
use Rattle.q_run_annotate.specs.declared.reading.Reading.{Reading}
use Rattle.q_run_annotate.specs.declared.scribe.HintedText.{HintedText}
use Rattle.q_run_annotate.specs.declared.scribe.Scribe.{Scribe}

-- an annotator that has taken some steps from a formula of the program
pub record IsUnderWay (a : Annotating) : Type 0 where
  pub limits : a.limits ≡ standard
  pub no_clause : slice_get a.formula.slots 0 ≡ Some None
  pub few : length a.formula.slots ≤ 2 ^ 60 + a.steps + 1

-- the header is put where it is due, and no step is taken
pub record IsBegun (F : PrenexFormula) (p : Part) (s : Scribe) : Type 0 where
  pub annotator : s.annotator ≡ record { formula = begun F; limits = standard; steps = 0 }
  pub few : length F.matrix ≤ 2 ^ 60
  pub part : s.part ≡ p
  pub text : s.text.items ≡ header_in (share_of p)
  pub written : s.written ≡ 0

-- whether the next step is of the part
abbrev pub turn : Scribe → Bool
turn s = share_of s.part s.annotator.steps

-- a step, where it is to be shown, is valid as its proof part shows, and else can be made
abbrev pub Fits : Bool → Annotating → ProofStep → ProofPart → Type 0
Fits b a s t = judged b (HintedValid standard a.formula s t) (HintedApplies standard a.formula s t)

-- the step is taken; where it is of the part, it is shown by a proof part, and its line stands behind the text
pub record Goes (s : ProofStep) (old new : Scribe) : Type 0 where
  pub proof : ProofPart
  pub fits : judged (turn old) (IsPartOf (kind_of s) proof) (Unit {0})
  pub made : Fits (turn old) old.annotator s proof
  pub formula : new.annotator.formula ≡ hinted_after old.annotator.formula s proof
  pub under_way : IsUnderWay new.annotator
  pub steps : new.annotator.steps ≡ old.annotator.steps + 1
  pub part : new.part ≡ old.part
  pub text : new.text.items ≡ old.text.items ++ line_if (turn old) s proof
  pub written : new.written ≡ cond (turn old) (old.written + 1) old.written

-- what is said of a step that is of the part and not valid, or can't be made
abbrev pub Convicts : Bool → Outcome → PrenexFormula → Entry → Type 0
Convicts b (Verified n) E e = ⊥
Convicts b (RefusedLine n c) E e = (n ≡ e.0) × judged b (Cause standard E e.1 c) (Unfit standard E e.1 c)
Convicts b (RefusedEnd c) E e = ⊥
Convicts b (RefusedInput r n c) E e = ⊥
Convicts b ReadFault E e = ⊥
Convicts b NoMemory E e = Unit {0}

-- the steps lead to the output
pub record EndsAs (s : Scribe) (G : PrenexFormula) (t : HintedText) : Type 0 where
  pub same : SameFormula (plain s.annotator.formula) G
  pub steps : t.steps ≡ s.written
  pub text : t.text.items ≡ s.text.items

-- why they do not
abbrev pub IsEndOutcome : Outcome → PrenexFormula → PrenexFormula → Type 0
IsEndOutcome (Verified n) E G = ⊥
IsEndOutcome (RefusedLine n c) E G = ⊥
IsEndOutcome (RefusedEnd c) E G = IsEndRefusal E G (check.Refused c)
IsEndOutcome (RefusedInput r n c) E G = ⊥
IsEndOutcome ReadFault E G = ⊥
IsEndOutcome NoMemory E G = Unit {0}

-- so far these steps are taken, and the text has the lines of those in the share
pub record IsSoFar (j : Share) (F : PrenexFormula) (es : List Entry) (s : Scribe) : Type 0 where
  pub hinted : List Hinted
  pub made : AreHintedMade j standard 0 (begun F) hinted
  pub last : s.annotator.formula ≡ hinted_made (begun F) hinted
  pub leads : LeadsMade j F (steps_of es) (plain s.annotator.formula)
  pub steps : strip hinted ≡ steps_of es
  pub all : s.annotator.steps ≡ length es
  pub many : s.annotator.steps ≡ length hinted
  pub counted : s.written ≡ count j 0 (steps_of es)
  pub parts : AreWritable j 0 hinted
  pub text_is : s.text.items ≡ header_in j ++ lines_in j 0 hinted

-- there is room to count a step for each byte
pub record IsOpen (r : Reading) : Type 0 where
  pub under_way : IsUnderWay r.scribe.annotator
  pub room : r.scribe.annotator.steps + r.reader.left ≤ 1099511627776
  pub fewer : r.scribe.written ≤ r.scribe.annotator.steps

-- these bytes of the log are read, and all steps in them are taken
pub record Stands (F : PrenexFormula) (r : Reading) (bytes : List ℕ) : Type 0 where
  pub entries : List Entry
  pub log : (rest : List ℕ) → logs.read standard.bytes (bytes ++ rest) ≡ logs.behind entries (to_come r.reader rest)
  pub so_far : IsSoFar (share_of r.scribe.part) F entries r.scribe

-- these bytes more are read
pub record Advances (old new : Reading) (bytes : List ℕ) : Type 0 where
  pub stands : (F : PrenexFormula) → (front : List ℕ) → Stands F old front → Stands F new (front ++ bytes)
  pub part : new.scribe.part ≡ old.scribe.part
  pub left : new.reader.left + length bytes ≡ old.reader.left
  pub goes_on : IsOpen new

-- what is said of a log before its end
abbrev pub Stops : Share → Outcome → PrenexFormula → List ℕ → Type 0
Stops j (Verified n) F log = ⊥
Stops j (RefusedLine n c) F log = IsRefusedPlainShared j F log n c
Stops j (RefusedEnd c) F log = ⊥
Stops j (RefusedInput r n c) F log = ⊥
Stops j ReadFault F log = Unit {0}
Stops j NoMemory F log = Unit {0}

-- it is so of the log that has these bytes behind those that are read
abbrev pub Refuses : Outcome → Reading → List ℕ → Type 0
Refuses o r bytes = (F : PrenexFormula) → (front : List ℕ) → Stands F r front → Stops (share_of r.scribe.part) o F (front ++ bytes)

-- n bytes of the file were taken, from a place on
pub record HasTaken (file : List ℕ) (place n : ℕ) (old new : Reading) : Type 0 where
  pub piece : Advances old new (take n (drop place file))
  pub left : n ≤ length (drop place file)
  pub end : n ≡ 0 → length file ≤ place

-- these are all steps of the log, and they are taken
pub record IsAllOf (j : Share) (F : PrenexFormula) (log : List ℕ) (s : Scribe) : Type 0 where
  pub entries : List Entry
  pub is_log : logs.read standard.bytes log ≡ record { steps = entries; refused = None }
  pub so_far : IsSoFar j F entries s

-- the log has come to its end
abbrev pub HasEnded : Reading → Scribe → Type 0
HasEnded r s = (F : PrenexFormula) → (log : List ℕ) → Stands F r log → IsAllOf (share_of r.scribe.part) F log s

-- the log leads to the output, and this is the text of its share
abbrev pub Passes : Reading → PrenexFormula → HintedText → Type 0
Passes r G t = (F : PrenexFormula) → (log : List ℕ) → Stands F r log → IsShareAnnotation (share_of r.scribe.part) log t.steps F G t.text.items

-- what is said at the end, where the log does not end in the output G
abbrev pub Concludes : Outcome → Reading → PrenexFormula → Type 0
Concludes o r G = (F : PrenexFormula) → (log : List ℕ) → Stands F r log → LogRefusesShared (share_of r.scribe.part) o F G log

-- nothing is read yet, and the log begins with the formula
pub record IsStarted (F : PrenexFormula) (p : Part) (r : Reading) : Type 0 where
  pub stands : Stands F r []
  pub part : r.scribe.part ≡ p
  pub left : r.reader.left ≡ 1099511627776
  pub goes_on : IsOpen r
