-- A log that many check, each a part of its steps: what one of them says. Steps of other parts are made, and not judged.
use Rattle.std.specs.Prelude.{◌≡◌, ◌⊎◌, ◌+◌, ℕ, Bool, true, List, [], ◌∷◌, Option, Some}
use Rattle.q_logic.specs.Prelude.{PrenexFormula, NumberedFormula, HintedValid, HintedCause, hinted_after, begun, plain, standard, Valid, Cause, after, UndoEntry, Undos}
use Rattle.q_same_steps.specs.Making.{Applies, Unfit, made}
use Rattle.q_same_steps.specs.HintedMaking.{HintedApplies, HintedUnfit, hinted_made}
use Rattle.q_shares.specs.Shares.{Share, AreMade, ShareRun, count, dealt, judged}
use Rattle.q_shares.specs.HintedShares.{AreHintedMade, HintedShareRun}
use Rattle.q_dimacs.specs.Offences.{Offence}
use Rattle.q_log.specs.declared.error.LogError.{LogError}
use Rattle.q_log.specs.Logs as logs
use Rattle.q_hinted.specs.Logs.{Profile, HintedSteps, hinted_in, read_entries}
use Rattle.q_command.specs.Logs.{Entry, HintedEntry, steps_of, hinted_of, stripped, EndsApart, IsOffence}
use Rattle.q_io.specs.Files.{bytes_at}
use Rattle.q_command.specs.Checks.{AnswersBy, IsFileOf, OfFormulas, turns_read}
use Rattle.q_command.specs.Lines.{line_of}
use Rattle.q_command.specs.Names.{ThreeNames, names_read}
use Rattle.q_command.specs.Statuses.{status_of}
use Rattle.q_command.specs.Told.{Told, OrNoMemory}
use Rattle.q_command.specs.declared.part.Part.{Part}
use Rattle.q_command.specs.declared.outcome.Role.TheVariants.{In, Out}
use Rattle.q_command.specs.declared.outcome.Outcome.{Outcome}
use Rattle.q_command.specs.declared.outcome.Outcome.TheVariants.{Verified, RefusedLine, RefusedEnd, RefusedInput, ReadFault, NoMemory}
use Rattle.q_command.specs.declared.status.Status.TheVariants as status

-- blocks of 1,000 steps, dealt in turn; from step to step, these are the ones of the part
abbrev pub share_of : Part → Share
share_of p = dealt 1000 (p.others + 1) p.index

-- all steps
abbrev pub IsWhole : Share → Type 0
IsWhole j = (k : ℕ) → j k ≡ true

-- the first step that can't be made, or is one of the share and not valid; or the offence behind the steps
abbrev pub IsFirstBadShared : Share → ℕ → PrenexFormula → List Entry → Option LogError → ℕ → ℕ → Type 0
IsFirstBadShared j k F [] offence line cause = IsOffence offence line cause
IsFirstBadShared j k F (e ∷ es) offence line cause =
    ((line ≡ e.0) × judged (j k) (Cause standard F e.1 cause) (Unfit standard F e.1 cause))
    ⊎ (judged (j k) (Valid standard F e.1) (Applies standard F e.1) × IsFirstBadShared j (k + 1) (after F e.1) es offence line cause)

-- the same of steps with their proof parts
abbrev pub IsFirstBadHintedShared : Share → ℕ → NumberedFormula → List HintedEntry → Option LogError → ℕ → ℕ → Type 0
IsFirstBadHintedShared j k N [] offence line cause = IsOffence offence line cause
IsFirstBadHintedShared j k N (h ∷ hs) offence line cause =
    ((line ≡ h.0) × judged (j k) (HintedCause standard N h.1.step h.1.proof cause) (HintedUnfit standard N h.1.step h.1.proof cause))
    ⊎ (judged (j k) (HintedValid standard N h.1.step h.1.proof) (HintedApplies standard N h.1.step h.1.proof)
    × IsFirstBadHintedShared j (k + 1) (hinted_after N h.1.step h.1.proof) hs offence line cause)

-- the log is refused at this line
abbrev pub IsRefusedShared : Share → PrenexFormula → List ℕ → ℕ → ℕ → Type 0
IsRefusedShared j F log line cause =
    ((Profile standard.bytes log ≡ 1) × IsFirstBadShared j 0 F (logs.read standard.bytes log).steps (logs.read standard.bytes log).refused line cause)
    ⊎ ((Profile standard.bytes log ≡ 2) × IsFirstBadHintedShared j 0 (begun F) (hinted_in (read_entries standard.bytes log).entries) (read_entries standard.bytes log).refused line cause)

-- the bytes are a plain log, whose steps lead from F to G as far as the share tells
pub record IsPlainShareLog (j : Share) (log : List ℕ) (F G : PrenexFormula) (entries : List Entry) : Type 0 where
  pub is_log : logs.Steps standard.bytes log ≡ Some entries
  pub run : ShareRun j F (steps_of entries) G

-- the bytes are a log of the second profile; without their proof parts the steps are the entries
pub record IsHintedShareLog (j : Share) (log : List ℕ) (F G : PrenexFormula) (entries : List Entry) : Type 0 where
  pub hinted : List HintedEntry
  pub is_log : HintedSteps standard.bytes log ≡ Some hinted
  pub run : HintedShareRun j F (hinted_of hinted) G
  pub entries_are : entries ≡ stripped hinted

-- a log of either profile
abbrev pub IsShareLog : Share → List ℕ → PrenexFormula → PrenexFormula → List Entry → Type 0
IsShareLog j log F G entries = IsPlainShareLog j log F G entries ⊎ IsHintedShareLog j log F G entries

abbrev pub LeadsShared : Share → List ℕ → PrenexFormula → PrenexFormula → Type 0
LeadsShared j log F G = (entries : List Entry) × IsShareLog j log F G entries

-- the log leads from F to G as far as the share tells, with so many steps in the share; where an undo list is kept, and the share
-- is the whole log, this is that of the steps
pub record LogPassesShared (j : Share) (keep : Bool) (log : List ℕ) (F G : PrenexFormula) (n : ℕ) (us : List UndoEntry) : Type 0 where
  pub entries : List Entry
  pub leads : IsShareLog j log F G entries
  pub counted : n ≡ count j 0 (steps_of entries)
  pub undone : keep ≡ true → IsWhole j → Undos F (steps_of entries) us

-- the steps of a plain log can be made from F on, those of the share are valid, and this is left
pub record IsPlainShareWay (j : Share) (log : List ℕ) (F last : PrenexFormula) : Type 0 where
  pub entries : List Entry
  pub is_log : logs.Steps standard.bytes log ≡ Some entries
  pub steps : AreMade j standard 0 F (steps_of entries)
  pub last_is : last ≡ made F (steps_of entries)

-- the same of a log of the second profile, where those of the share are valid as their proof parts show
pub record IsHintedShareWay (j : Share) (log : List ℕ) (F last : PrenexFormula) : Type 0 where
  pub hinted : List HintedEntry
  pub is_log : HintedSteps standard.bytes log ≡ Some hinted
  pub steps : AreHintedMade j standard 0 (begun F) (hinted_of hinted)
  pub last_is : last ≡ plain (hinted_made (begun F) (hinted_of hinted))

-- the steps end in a formula other than G
pub record EndsElsewhereShared (j : Share) (log : List ℕ) (F G : PrenexFormula) (cause : ℕ) : Type 0 where
  pub last : PrenexFormula
  pub way : IsPlainShareWay j log F last ⊎ IsHintedShareWay j log F last
  pub apart : EndsApart last G cause

-- what the outcome says of a log, from the formula F to G
abbrev pub LogSaysShared : Share → Outcome → PrenexFormula → PrenexFormula → List ℕ → Type 0
LogSaysShared j (Verified n) F G log = (entries : List Entry) × IsShareLog j log F G entries × (n ≡ count j 0 (steps_of entries))
LogSaysShared j (RefusedLine n c) F G log = IsRefusedShared j F log n c
LogSaysShared j (RefusedEnd c) F G log = EndsElsewhereShared j log F G c
LogSaysShared j (RefusedInput r n c) F G log = ⊥
LogSaysShared j ReadFault F G log = Unit {0}
LogSaysShared j NoMemory F G log = Unit {0}

-- what the outcome says of the three files
abbrev pub ChecksShared : Share → Outcome → List ℕ → List ℕ → List ℕ → Type 0
ChecksShared j (Verified n) i o l = OfFormulas i o (λ F G. LogSaysShared j (Verified n) F G l)
ChecksShared j (RefusedLine n c) i o l = OfFormulas i o (λ F G. LogSaysShared j (RefusedLine n c) F G l)
ChecksShared j (RefusedEnd c) i o l = OfFormulas i o (λ F G. LogSaysShared j (RefusedEnd c) F G l)
ChecksShared j (RefusedInput In n c) i o l = Offence standard i n c
ChecksShared j (RefusedInput Out n c) i o l = (F : PrenexFormula) × IsFileOf i F × Offence standard o n c
ChecksShared j ReadFault i o l = Unit {0}
ChecksShared j NoMemory i o l = Unit {0}

-- the log leads from the formula of IN to that of OUT as far as the share tells, or does not
abbrev pub IsShareVerified : Share → List ℕ → List ℕ → List ℕ → Type 0
IsShareVerified j i o l = OfFormulas i o (LeadsShared j l)

abbrev pub IsShareRefused : Share → List ℕ → List ℕ → List ℕ → Type 0
IsShareRefused j i o l = OfFormulas i o (λ F G. ¬ LeadsShared j l F G)

-- `check IN OUT LOG --part=I/N`
abbrev pub told : ThreeNames → Part → Told
told n p = record {
  Outcome = Outcome;
  status_of = status_of;
  line_of = line_of;
  says = λ o disk after. ChecksShared (share_of p) o (bytes_at disk n.input) (bytes_at disk n.output) (bytes_at disk n.log);
  gives = λ given disk after. AnswersBy (LeadsShared (share_of p) (bytes_at disk n.log)) given (bytes_at disk n.input) (bytes_at disk n.output);
  answers = λ disk given.
      (IsShareVerified (share_of p) (bytes_at disk n.input) (bytes_at disk n.output) (bytes_at disk n.log) → OrNoMemory given status.Done)
      × (IsShareRefused (share_of p) (bytes_at disk n.input) (bytes_at disk n.output) (bytes_at disk n.log) → OrNoMemory given status.LogRefused);
  reads = names_read n;
  writes = [];
  reads_at = turns_read n;
  writes_at = [];
}

-- each of several says `verified`, with a number of its own
abbrev pub AllVerified : List Share → List ℕ → List ℕ → List ℕ → List ℕ → Type 0
AllVerified [] [] i o l = Unit {0}
AllVerified [] (m ∷ ms) i o l = ⊥
AllVerified (j ∷ js) [] i o l = ⊥
AllVerified (j ∷ js) (m ∷ ms) i o l = ChecksShared j (Verified m) i o l × AllVerified js ms i o l
