-- A proof whose share is written with hints while it is read: what a step does, what some bytes do, and what is said at the end.
use Rattle.std.specs.Prelude.{◌≡◌, ◌≤◌, ◌<◌, ◌+◌, ◌^◌, ℕ, Bool, cond, List, [], ◌++◌, length, take, drop}
use Rattle.std.specs.List.{AllByRecursion}
use Rattle.q_logic.specs.Prelude.{PrenexFormula, AreAlike, Prefix, Hinted, ProofPart, begun, hinted_after, plain, strip, standard, kind_of, ProofStep, IsStep}
use Rattle.q_log.specs.Logs.{Parsed}
use Rattle.q_log.specs.Texts.{IsLogged}
use Rattle.q_hinted.specs.Logs.{Entry as BothEntry, behind}
use Rattle.q_hinted.specs.Parts.{IsPartOf}
use Rattle.q_binary.specs.Forms.{left_of, to_come}
use Rattle.q_shares.specs.Shares.{Share, count, judged}
use Rattle.q_refutation.specs.Refutations.{IsLost}
use Rattle.q_refutation.specs.SharedRefutations.{AreTakenUnlost, NotTaken}
use Rattle.q_command.specs.Judging.{bare}
use Rattle.q_command.specs.Logs.{Entry, steps_of}
use Rattle.q_command.specs.Parts.{share_of}
use Rattle.q_command.specs.declared.part.Part.{Part}
use Rattle.q_command.specs.declared.outcome.Outcome.{Outcome}
use Rattle.q_command.specs.declared.outcome.Outcome.TheVariants as outcome
use Rattle.q_run_annotate.specs.AnnotatedShares.{AreWritable, header_in, line_if, lines_in}
use Rattle.q_run_annotate.specs.Readings.{IsUnderWay as Annotates}
use Rattle.q_run_disprove.specs.Disproofs.{entries_in, proof_of}
use Rattle.q_run_disprove.specs.SharedDisproofs.{ShareEndFails, ShareLineFails}
use Rattle.q_run_show.specs.ShownShares.{AreHintedTaken, HintedMayBeTaken, IsShareShown}
use Rattle.q_run_show.specs.declared.ending.Ending.{Ending}
use Rattle.q_run_show.specs.declared.ending.Ending.TheVariants as ending
use Rattle.q_run_show.specs.declared.ending.HintedText.{HintedText}
use Rattle.q_run_show.specs.declared.reading.Reading.{Reading}
use Rattle.q_run_show.specs.declared.scribe.Scribe.{Scribe}

-- the variables of a prefix are such that a log can name them
abbrev pub AreNamed : Prefix → Type 0
AreNamed P = AllByRecursion (λ q. (1 ≤ q.var) × (q.var < 2 ^ 31)) P

-- whether the next step is of the part
abbrev pub turn : Scribe → Bool
turn s = share_of s.part s.annotator.steps

-- some steps were taken from a formula of the program, and the empty clause is not there
pub record IsUnderWay (s : Scribe) : Type 0 where
  pub annotator : Annotates s.annotator
  pub named : AreNamed s.annotator.formula.prefix
  pub unlost : ¬ IsLost (plain s.annotator.formula)
  pub fewer : s.written ≤ s.annotator.steps

-- the header is put where it is due, and no step is taken
pub record IsBegun (F : PrenexFormula) (p : Part) (s : Scribe) : Type 0 where
  pub annotator : s.annotator ≡ record { formula = begun F; limits = standard; steps = 0 }
  pub under_way : IsUnderWay s
  pub part : s.part ≡ p
  pub text : s.text.items ≡ header_in (share_of p)
  pub written : s.written ≡ 0

-- the step is taken; where it is of the part, it is shown by a proof part, and its line stands behind the text
pub record Takes (s : ProofStep) (old new : Scribe) : Type 0 where
  pub proof : ProofPart
  pub fits : judged (turn old) (IsPartOf (kind_of s) proof) (Unit {0})
  pub may : HintedMayBeTaken (turn old) old.annotator.formula s proof
  pub formula : new.annotator.formula ≡ hinted_after old.annotator.formula s proof
  pub annotator : Annotates new.annotator
  pub named : AreNamed new.annotator.formula.prefix
  pub fewer : new.written ≤ new.annotator.steps
  pub steps : new.annotator.steps ≡ old.annotator.steps + 1
  pub part : new.part ≡ old.part
  pub text : new.text.items ≡ old.text.items ++ line_if (turn old) s proof
  pub written : new.written ≡ cond (turn old) (old.written + 1) old.written

-- and the empty clause is not there behind it
pub record Goes (s : ProofStep) (old new : Scribe) : Type 0 where
  pub takes : Takes s old new
  pub lawful : IsStep s
  pub unlost : ¬ IsLost (plain new.annotator.formula)

-- the text of the scribe, and its number of steps
pub record IsTextOf (s : Scribe) (t : HintedText) : Type 0 where
  pub steps : t.steps ≡ s.written
  pub text : t.text.items ≡ s.text.items

-- what is said of a step that is of the part and may not be made, or can't be made
abbrev pub Convicts : Bool → Outcome → PrenexFormula → Entry → Type 0
Convicts own (outcome.Verified n) E e = ⊥
Convicts own (outcome.RefusedLine n c) E e = (n ≡ e.0) × NotTaken own standard E e.1 c
Convicts own (outcome.RefusedEnd c) E e = ⊥
Convicts own (outcome.RefusedInput r n c) E e = ⊥
Convicts own outcome.ReadFault E e = ⊥
Convicts own outcome.NoMemory E e = Unit {0}

-- the empty clause has come
abbrev pub EndsWith : Scribe → Ending → Type 0
EndsWith s (ending.Shown t) = IsTextOf s t
EndsWith s (ending.Refused o) = ⊥

-- the empty clause comes by the next step
pub record Finds (s : ProofStep) (old : Scribe) (t : HintedText) : Type 0 where
  pub new : Scribe
  pub takes : Takes s old new
  pub lawful : IsStep s
  pub lost : IsLost (plain new.annotator.formula)
  pub text : IsTextOf new t

-- so it is, or the step is not taken
abbrev pub EndsAt : Ending → Scribe → Entry → Type 0
EndsAt (ending.Shown t) s e = Finds e.1 s t
EndsAt (ending.Refused o) s e = Convicts (turn s) o (plain s.annotator.formula) e

-- before the first step the empty clause is there, or memory is missing
abbrev pub EndsAtOnce : Share → PrenexFormula → Ending → Type 0
EndsAtOnce j F (ending.Shown t) = IsLost F × (t.steps ≡ 0) × (t.text.items ≡ header_in j)
EndsAtOnce j F (ending.Refused o) = o ≡ outcome.NoMemory

-- what is said of a formula and a proof that does not refute it
abbrev pub Refuses : Share → Outcome → PrenexFormula → Parsed → Type 0
Refuses j (outcome.Verified n) F p = ⊥
Refuses j (outcome.RefusedLine k c) F p = ShareLineFails j k c F p
Refuses j (outcome.RefusedEnd c) F p = (c ≡ 11) × ShareEndFails j F p
Refuses j (outcome.RefusedInput r k c) F p = ⊥
Refuses j outcome.ReadFault F p = Unit {0}
Refuses j outcome.NoMemory F p = Unit {0}

-- what is said of a formula and a proof
abbrev pub SaysEnd : Share → Ending → PrenexFormula → Parsed → Type 0
SaysEnd j (ending.Shown t) F p = IsShareShown j t.steps t.text.items F p
SaysEnd j (ending.Refused o) F p = Refuses j o F p

-- a fault of PROOF
abbrev pub IsFault : Ending → Type 0
IsFault e = e ≡ ending.Refused outcome.ReadFault

-- these steps are taken from F on, and the text has the lines of those in the share
pub record HasWritten (j : Share) (F : PrenexFormula) (es : List Entry) (s : Scribe) : Type 0 where
  pub share : share_of s.part ≡ j
  pub hinted : List Hinted
  pub taken : AreHintedTaken j 0 (begun F) hinted s.annotator.formula
  pub steps : strip hinted ≡ steps_of es
  pub many : s.annotator.steps ≡ length hinted
  pub counted : s.written ≡ count j 0 (strip hinted)
  pub logged : AllByRecursion IsLogged (strip hinted)
  pub parts : AreWritable j 0 hinted
  pub text_is : s.text.items ≡ header_in j ++ lines_in j 0 hinted

-- and `disprove` would have taken them too, and come to the same formula, up to the order of clauses
pub record IsSoFar (j : Share) (F : PrenexFormula) (es : List Entry) (s : Scribe) : Type 0 where
  pub written : HasWritten j F es s
  pub last : PrenexFormula
  pub made : AreTakenUnlost j standard 0 F (steps_of es) last
  pub alike : AreAlike last (plain s.annotator.formula)

-- there is room to count a step for each byte
pub record IsOpen (r : Reading) : Type 0 where
  pub under_way : IsUnderWay r.scribe
  pub room : r.scribe.annotator.steps + left_of r.reader ≤ 1099511627776

-- these bytes of the proof are read, and all steps in them are taken
pub record Stands (binary : Bool) (j : Share) (F : PrenexFormula) (r : Reading) (bytes : List ℕ) : Type 0 where
  pub entries : List BothEntry
  pub proof : (rest : List ℕ) → entries_in binary (bytes ++ rest) ≡ behind entries (to_come r.reader rest)
  pub so_far : IsSoFar j F (bare entries) r.scribe

-- these bytes more are read
pub record Advances (old new : Reading) (bytes : List ℕ) : Type 0 where
  pub stands : (binary : Bool) → (j : Share) → (F : PrenexFormula) → (front : List ℕ) → Stands binary j F old front → Stands binary j F new (front ++ bytes)
  pub left : left_of new.reader + length bytes ≡ left_of old.reader
  pub goes_on : IsOpen new

-- it is so of the proof that has these bytes behind those that are read
abbrev pub Tells : Ending → Reading → List ℕ → Type 0
Tells e r bytes =
    (binary : Bool) → (j : Share) → (F : PrenexFormula) → (front : List ℕ) → Stands binary j F r front → SaysEnd j e F (proof_of binary (front ++ bytes))

-- n bytes of the file were taken, from a place on
pub record HasTaken (file : List ℕ) (place n : ℕ) (old new : Reading) : Type 0 where
  pub piece : Advances old new (take n (drop place file))
  pub left : n ≤ length (drop place file)
  pub end : n ≡ 0 → length file ≤ place

-- nothing is read yet, and the proof begins with the formula
pub record IsStarted (binary : Bool) (part : Part) (F : PrenexFormula) (r : Reading) : Type 0 where
  pub stands : Stands binary (share_of part) F r []
  pub left : left_of r.reader ≡ 1099511627776
  pub goes_on : IsOpen r
