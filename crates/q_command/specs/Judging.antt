-- The checkers of a log of either profile: plain steps have one, steps with proof parts another.
use Rattle.std.specs.Prelude.{◌≡◌, ◌⊎◌, ◌<◌, ℕ, Bool, true, false, List, [], ◌∷◌, length, map, Option, None, Some}
use Rattle.q_logic.specs.Prelude.{PrenexFormula, HintedCause, ProofPart, begun, plain, strip, standard, ProofStep, Cause, AreAlike, SameFormula, UndoEntry, Undos}
use Rattle.q_same_steps.specs.Making.{Unfit, made}
use Rattle.q_same_steps.specs.HintedMaking.{HintedUnfit, hinted_made}
use Rattle.q_shares.specs.Shares.{Share, AreMade, ShareRun, judged}
use Rattle.q_shares.specs.HintedShares.{AreHintedMade}
use Rattle.q_hinted.specs.Logs.{Entry as BothEntry, plain_entry, hinted_entry, hinted_in}
use Rattle.q_judge.specs.declared.error.CheckError.{CheckError}
use Rattle.q_judge.specs.declared.error.CheckError.TheVariants.{Refused, NoMemory}
use Rattle.q_check.specs.Alike.{Leads}
use Rattle.q_check.specs.Checked.{Checked}
use Rattle.q_check.specs.HintChecks.{HintChecked}
use Rattle.q_command.specs.Logs.{Entry, HintedEntry, steps_of, hinted_of, EndsApart}
use Rattle.q_command.specs.LazyCheckers.{IsHeld, KeepsNone, KeepsNoHinted}
use Rattle.q_command.specs.Parts.{IsWhole}
use Rattle.q_command.specs.declared.judges.Judges.{Judges}

abbrev pub if_plain : ℕ → ProofStep → Option ProofPart → List Entry → List Entry
if_plain n s None ps = (n, s) ∷ ps
if_plain n s (Some t) ps = ps

-- the steps that have no proof parts
abbrev pub plain_in : List BothEntry → List Entry
plain_in [] = []
plain_in (e ∷ es) = if_plain e.0 e.1 e.2 (plain_in es)

-- all steps, without the proof parts
abbrev pub bare : List BothEntry → List Entry
bare [] = []
bare (e ∷ es) = (e.0, e.1) ∷ bare es

-- the steps are all of one profile
abbrev pub ArePure : List BothEntry → Type 0
ArePure es = (es ≡ map plain_entry (plain_in es)) ⊎ (es ≡ map hinted_entry (hinted_in es))

-- the steps can be made from F on, those of the share are valid, and they leave G, up to the order of clauses
pub record LeadsMade (j : Share) (F : PrenexFormula) (ss : List ProofStep) (G : PrenexFormula) : Type 0 where
  pub steps : AreMade j standard 0 F ss
  pub alike : AreAlike (made F ss) G

-- a checker has taken these plain steps, and judged those of the share
pub record HasTakenPlain (keep : Bool) (j : Share) (F : PrenexFormula) (ps : List Entry) (c : Checked) : Type 0 where
  pub some : 0 < length ps
  pub limits : c.limits ≡ standard
  pub keeps : c.keeps ≡ keep
  pub leads : LeadsMade j F (steps_of ps) c.formula
  pub undone : keep ≡ true → IsWhole j → Undos F (steps_of ps) c.undo

-- a checker has taken these steps with proof parts, and judged those of the share
pub record HasTakenHinted (keep : Bool) (j : Share) (F : PrenexFormula) (hs : List HintedEntry) (c : HintChecked) : Type 0 where
  pub some : 0 < length hs
  pub limits : c.limits ≡ standard
  pub keeps : c.keeps ≡ keep
  pub steps : AreHintedMade j standard 0 (begun F) (hinted_of hs)
  pub last : c.formula ≡ hinted_made (begun F) (hinted_of hs)
  pub leads : IsWhole j → Leads standard F (strip (hinted_of hs)) (plain c.formula)
  pub undone : keep ≡ true → IsWhole j → Undos F (strip (hinted_of hs)) c.undo

-- there is a checker exactly where there are steps for it, and it has taken them
abbrev pub IsBehindPlain : Bool → Share → PrenexFormula → List Entry → Option Checked → Type 0
IsBehindPlain keep j F ps None = ps ≡ []
IsBehindPlain keep j F ps (Some c) = HasTakenPlain keep j F ps c

abbrev pub IsBehindHinted : Bool → Share → PrenexFormula → List HintedEntry → Option HintChecked → Type 0
IsBehindHinted keep j F hs None = hs ≡ []
IsBehindHinted keep j F hs (Some c) = HasTakenHinted keep j F hs c

-- each checker has taken its steps, which begin with the formula F, and judged those of the share
pub record AreBehind (s : Share) (F : PrenexFormula) (j : Judges) (es : List BothEntry) : Type 0 where
  pub origin : IsHeld F j.origin
  pub plain : IsBehindPlain j.keeps_undo s F (plain_in es) j.plain
  pub hinted : IsBehindHinted j.keeps_undo s F (hinted_in es) j.hinted

-- whether the next step of its profile is of the share
abbrev pub IsTurn : Share → List BothEntry → Option ProofPart → Bool → Type 0
IsTurn j es None t = t ≡ j (length (plain_in es))
IsTurn j es (Some x) t = t ≡ j (length (hinted_in es))

-- no undo list is kept, so steps may be made that aren't judged
pub record IsFree (j : Judges) : Type 0 where
  pub keeps : j.keeps_undo ≡ false
  pub plain : KeepsNone j.plain
  pub hinted : KeepsNoHinted j.hinted

-- no step is taken yet
pub record IsMade (origin : Option PrenexFormula) (keep : Bool) (j : Judges) : Type 0 where
  pub origin_is : j.origin ≡ origin
  pub keeps : j.keeps_undo ≡ keep
  pub plain : j.plain ≡ None
  pub hinted : j.hinted ≡ None

-- what is kept
pub record SameTask (old new : Judges) : Type 0 where
  pub keeps : new.keeps_undo ≡ old.keeps_undo

-- a plain step can't be made behind the others, or is one of the share and not valid
pub record IsWrongPlain (j : Share) (F : PrenexFormula) (ps : List Entry) (s : ProofStep) (k : ℕ) : Type 0 where
  pub steps : AreMade j standard 0 F (steps_of ps)
  pub cause : judged (j (length ps)) (Cause standard (made F (steps_of ps)) s k) (Unfit standard (made F (steps_of ps)) s k)

-- a step can't be made behind the others, or is one of the share and not valid as its proof part shows
pub record IsWrongHinted (j : Share) (F : PrenexFormula) (hs : List HintedEntry) (s : ProofStep) (t : ProofPart) (k : ℕ) : Type 0 where
  pub steps : AreHintedMade j standard 0 (begun F) (hinted_of hs)
  pub cause : judged (j (length hs)) (HintedCause standard (hinted_made (begun F) (hinted_of hs)) s t k) (HintedUnfit standard (hinted_made (begun F) (hinted_of hs)) s t k)

-- memory may be missing at any time
abbrev pub IsBadPlain : Share → PrenexFormula → List Entry → ProofStep → CheckError → Type 0
IsBadPlain j F ps s (Refused cause) = IsWrongPlain j F ps s cause
IsBadPlain j F ps s NoMemory = Unit {0}

abbrev pub IsBadHinted : Share → PrenexFormula → List HintedEntry → ProofStep → ProofPart → CheckError → Type 0
IsBadHinted j F hs s t (Refused cause) = IsWrongHinted j F hs s t cause
IsBadHinted j F hs s t NoMemory = Unit {0}

-- a step is refused behind those of its profile
abbrev pub IsRefusedBehind : Share → PrenexFormula → List BothEntry → ProofStep → Option ProofPart → CheckError → Type 0
IsRefusedBehind j F es s None e = IsBadPlain j F (plain_in es) s e
IsRefusedBehind j F es s (Some t) e = IsBadHinted j F (hinted_in es) s t e

-- plain steps lead to the output as far as the share tells, and where an undo list is kept, this is theirs
pub record HavePassedPlain (keep : Bool) (j : Share) (F : PrenexFormula) (ps : List Entry) (G : PrenexFormula) (us : List UndoEntry) : Type 0 where
  pub run : ShareRun j F (steps_of ps) G
  pub undone : keep ≡ true → IsWhole j → Undos F (steps_of ps) us

-- plain steps lead elsewhere
pub record HaveEndedPlain (j : Share) (F : PrenexFormula) (ps : List Entry) (G : PrenexFormula) (cause : ℕ) : Type 0 where
  pub steps : AreMade j standard 0 F (steps_of ps)
  pub apart : EndsApart (made F (steps_of ps)) G cause

abbrev pub HaveStoppedPlain : Share → PrenexFormula → List Entry → PrenexFormula → CheckError → Type 0
HaveStoppedPlain j F ps G (Refused cause) = HaveEndedPlain j F ps G cause
HaveStoppedPlain j F ps G NoMemory = Unit {0}

-- the steps, all plain, are made one after the other, and those of the share are valid
pub record LeavesPlain (j : Share) (F : PrenexFormula) (es : List BothEntry) (last : PrenexFormula) : Type 0 where
  pub all : es ≡ map plain_entry (plain_in es)
  pub steps : AreMade j standard 0 F (steps_of (plain_in es))
  pub last_is : last ≡ made F (steps_of (plain_in es))

-- the steps, all with proof parts, are made one after the other, and those of the share are valid as these show
pub record LeavesHinted (j : Share) (F : PrenexFormula) (es : List BothEntry) (last : PrenexFormula) : Type 0 where
  pub all : es ≡ map hinted_entry (hinted_in es)
  pub steps : AreHintedMade j standard 0 (begun F) (hinted_of (hinted_in es))
  pub last_is : last ≡ plain (hinted_made (begun F) (hinted_of (hinted_in es)))

abbrev pub Leaves : Share → PrenexFormula → List BothEntry → PrenexFormula → Type 0
Leaves j F es last = LeavesPlain j F es last ⊎ LeavesHinted j F es last

-- the steps lead to the output as far as the share tells, and where an undo list is kept, this is theirs
pub record HavePassed (keep : Bool) (j : Share) (F : PrenexFormula) (es : List BothEntry) (G : PrenexFormula) (us : List UndoEntry) : Type 0 where
  pub last : PrenexFormula
  pub leaves : Leaves j F es last
  pub same : SameFormula last G
  pub undone : keep ≡ true → IsWhole j → Undos F (steps_of (bare es)) us

-- the steps lead elsewhere
pub record HaveEnded (j : Share) (F : PrenexFormula) (es : List BothEntry) (G : PrenexFormula) (cause : ℕ) : Type 0 where
  pub last : PrenexFormula
  pub leaves : Leaves j F es last
  pub apart : EndsApart last G cause

abbrev pub HaveStopped : Share → PrenexFormula → List BothEntry → PrenexFormula → CheckError → Type 0
HaveStopped j F es G (Refused cause) = HaveEnded j F es G cause
HaveStopped j F es G NoMemory = Unit {0}
