-- What the end of a log says of the whole log.
use Rattle.std.proofs.Common.{◌≡◌, ◌∙◌, refl, sym, ap, subst, ℕ, Bool, List, [], append-nil, Option, None, Some, IfSome}
use Rattle.q_logic.specs.Prelude.{PrenexFormula, Run}
use Rattle.q_hinted.specs.Logs.{Entry as BothEntry}
use Rattle.q_judge.specs.declared.error.CheckError.{CheckError}
use Rattle.q_judge.specs.declared.error.CheckError.TheVariants as check
use Rattle.q_command.specs.Logs.{Entry, steps_of}
use Rattle.q_command.specs.Judging.{AreBehind, ArePure, HavePassed, HaveStopped}
use Rattle.q_command.specs.LazyCheckers.{IsHeld}
use Rattle.q_command.specs.Taken.{entries_of, AreRun}
use Rattle.q_shares.specs.Shares.{Share}
use Rattle.q_command.specs.Parts.{ChecksShared, LogSaysShared, share_of}
use Rattle.q_command.specs.Audits.{Stands, Advances, Stops, Refuses, HasEnded, LogIsShared, LogIsTaken, HasLeft, HasFailed, Passes, Concludes, IsStarted, IsWithEnds, kept_by, with_formulas}
use Rattle.q_command.specs.Checks.{AreEnds, Checks, FilesPass, IfVerified, LeadsBack, IsEarly, IsUnverified, LogSays}
use Rattle.q_command.specs.declared.audit.Audit.{Audit}
use Rattle.q_command.specs.declared.audit.Keep.{Keep}
use Rattle.q_command.specs.declared.audit.Passed.{Passed}
use Rattle.q_command.specs.declared.part.Part.{Part}
use Rattle.q_command.specs.declared.checking.Checked.{Checked}
use Rattle.q_command.specs.declared.checking.Ends.{Ends}
use Rattle.q_command.specs.declared.trial.Trial.{Trial}
use Rattle.q_command.specs.declared.outcome.Role.TheVariants.{In, Out}
use Rattle.q_command.specs.declared.outcome.Outcome.{Outcome}
use Rattle.q_command.specs.declared.outcome.Outcome.TheVariants.{Verified, RefusedLine, RefusedEnd, RefusedInput, ReadFault, NoMemory}
use Rattle.q_command.proofs.BothCheckers.{is-held}
use Rattle.q_command.proofs.WholeLogs.{says-pure, passes-whole, ends-whole, run_of}

-- all steps were tried, and the checkers have come to their end
pub has_left : (t : Trial) (G : PrenexFormula) (p : Passed) → p.origin ≡ t.judges.origin → p.steps ≡ t.taken.judged → p.taken.items ≡ t.taken.steps.items → ((j : Share) (F : PrenexFormula) (es : List BothEntry) → AreBehind j F t.judges es → ArePure es → HavePassed t.judges.keeps_undo j F es G p.undo) → HasLeft t G p
has_left t G p f k i h F log a =
    let w = passes-whole t.judges.keeps_undo (share_of t.part) F G log a.entries p.undo a.is_log (h (share_of t.part) F a.entries a.steps.judged (says-pure log a.entries None a.is_log)) p.steps (k ∙ a.steps.told) in
    record { origin = subst (λ (o : Option PrenexFormula). IsHeld F o) (sym f) a.steps.judged.origin; passes = w.0; taken = λ x. ap entries_of i ∙ (a.steps.kept x ∙ sym w.1) }

pub has_failed : (t : Trial) (G : PrenexFormula) (e : CheckError) (c : ℕ) → e ≡ check.Refused c → ((j : Share) (F : PrenexFormula) (es : List BothEntry) → AreBehind j F t.judges es → ArePure es → HaveStopped j F es G e) → HasFailed (RefusedEnd c) t G
has_failed t G e c q h F log a =
    ends-whole (share_of t.part) F G log a.entries c a.is_log (subst (λ (x : CheckError). HaveStopped (share_of t.part) F a.entries G x) q (h (share_of t.part) F a.entries a.steps.judged (says-pure log a.entries None a.is_log)))

-- what is so of the trial at the end is so of the audit
pub passes_end : (a : Audit) (t : Trial) (G : PrenexFormula) (p : Passed) → HasEnded a t → HasLeft t G p → Passes a G p
passes_end a t G p e h F log s =
    let same : kept_by t ≡ kept_by a.trial = ap (λ (b : Bool). let k : Keep = record { undo = b; steps = t.taken.keeps } in k) e.same.task.keeps ∙ ap (λ (b : Bool). let k : Keep = record { undo = a.trial.judges.keeps_undo; steps = b } in k) e.same.keeps in
    subst (λ (x : Part). LogIsShared (share_of x) (kept_by a.trial) log F G p) e.same.part
    (subst (λ (k : Keep). LogIsShared (share_of t.part) k log F G p) same (h F log (e.all F log s)))

pub concludes_end : (a : Audit) (t : Trial) (G : PrenexFormula) (w : Outcome) → HasEnded a t → HasFailed w t G → Concludes w a G
concludes_end a t G w e h F log s = subst (λ (x : Part). LogSaysShared (share_of x) w F G log) e.same.part (h F log (e.all F log s))

said : (j : Share) (w : Outcome) (F G : PrenexFormula) (log : List ℕ) → Stops j w F log → LogSaysShared j w F G log
said j (Verified n) F G log h = absurd h
said j (RefusedLine n c) F G log h = h
said j (RefusedEnd c) F G log h = absurd h
said j (RefusedInput r n c) F G log h = h
said j ReadFault F G log h = tt
said j NoMemory F G log h = tt

pub concludes_last : (a : Audit) (G : PrenexFormula) (w : Outcome) → Refuses w a [] → Concludes w a G
concludes_last a G w r F log s = said (share_of a.trial.part) w F G log (subst (λ (xs : List ℕ). Stops (share_of a.trial.part) w F xs) (append-nil log) (r F log s))

-- the whole log, read from its front
stood : (first last : Audit) (keep : Keep) (d : Part) (F : PrenexFormula) (file : List ℕ) → IsStarted first keep d F → Advances first last file → Stands F last file
stood first last keep d F file s a = a.stands F [] s.stands

pub log_is_taken : (first last : Audit) (keep : Keep) (d : Part) (F G : PrenexFormula) (file : List ℕ) (p : Passed) → IsStarted first keep d F → Advances first last file → Passes last G p → LogIsShared (share_of d) keep file F G p
log_is_taken first last keep d F G file p s a h =
    let same : kept_by last.trial ≡ keep = ap (λ (b : Bool). let k : Keep = record { undo = b; steps = last.trial.taken.keeps } in k) (a.same.task.keeps ∙ s.undo) ∙ ap (λ (b : Bool). let k : Keep = record { undo = keep.undo; steps = b } in k) (a.same.keeps ∙ s.steps) in
    subst (λ (x : Part). LogIsShared (share_of x) keep file F G p) (a.same.part ∙ s.part)
    (subst (λ (k : Keep). LogIsShared (share_of last.trial.part) k file F G p) same (h F file (stood first last keep d F file s a)))

pub some_log : (first last : Audit) (keep : Keep) (d : Part) (F G : PrenexFormula) (p : Passed) → IsStarted first keep d F → ((file : List ℕ) × Advances first last file) → Passes last G p → (file : List ℕ) × LogIsShared (share_of d) keep file F G p
some_log first last keep d F G p s (file, a) h = (file, log_is_taken first last keep d F G file p s a h)

pub log_says : (first last : Audit) (keep : Keep) (d : Part) (F G : PrenexFormula) (file : List ℕ) (w : Outcome) → IsStarted first keep d F → Advances first last file → Concludes w last G → LogSaysShared (share_of d) w F G file
log_says first last keep d F G file w s a h =
    subst (λ (x : Part). LogSaysShared (share_of x) w F G file) (a.same.part ∙ s.part) (h F file (stood first last keep d F file s a))

pub log_refuses : (first : Audit) (keep : Keep) (d : Part) (F G : PrenexFormula) (file : List ℕ) (w : Outcome) → IsStarted first keep d F → Refuses w first file → LogSaysShared (share_of d) w F G file
log_refuses first keep d F G file w s h =
    subst (λ (x : Part). LogSaysShared (share_of x) w F G file) s.part (said (share_of first.trial.part) w F G file (h F [] s.stands))

-- what a log leaves whose steps were all judged
pub leads_back : (keep : Keep) (F G : PrenexFormula) (p : Passed) → ((file : List ℕ) × LogIsTaken keep file F G p) → LeadsBack keep.undo F G p.undo
leads_back keep F G p (file, x) = (steps_of x.passes.entries, run_of file F G x.passes.entries x.passes.leads, x.passes.undone)

pub kept_run : (keep : Keep) (F G : PrenexFormula) (p : Passed) → ((file : List ℕ) × LogIsTaken keep file F G p) → AreRun keep.steps F G p.taken.items
kept_run keep F G p (file, x) k =
    subst (λ (es : List Entry). Run F (steps_of es) G) (sym (x.taken k)) (run_of file F G x.passes.entries x.passes.leads)

-- what is so with the formula that the log begins with is so with the one that was held
pub ends-as : (P : Checked → Type 0) (F G : PrenexFormula) (p : Passed) (c : Checked) → IsHeld F p.origin → IsWithEnds p G c → P (with_formulas F G p) → P c
ends-as P F G p c h (E, e, q) x = subst P (sym (q ∙ ap (λ (H : PrenexFormula). with_formulas H G p) (is-held F E p.origin e h))) x

-- the formulas were read, and the log leads from one to the other
pub files_pass : {D : Type 0} (o : Option D) (i u l : D → List ℕ) (keep : Keep) (e : Ends) (p : Passed) (c : Checked) → IsHeld e.from p.origin → IsWithEnds p e.to c → IfSome o (λ d. AreEnds (i d) (u d) e) → IfSome o (λ d. LogIsTaken keep (l d) e.from e.to p) → IfSome o (λ d. FilesPass keep (i d) (u d) (l d) c)
files_pass None i u l keep e p c h w f t = tt
files_pass (Some d) i u l keep e p c h w f t =
    ends-as (λ (x : Checked). FilesPass keep (i d) (u d) (l d) x) e.from e.to p c h w (record { is_input = f.is_input; is_output = f.is_output; log = t.passes; taken = t.taken })

-- the same where the number of steps alone is told
pub files_counted : {D : Type 0} (j : Share) (o : Option D) (i u l : D → List ℕ) (keep : Keep) (e : Ends) (p : Passed) → IfSome o (λ d. AreEnds (i d) (u d) e) → IfSome o (λ d. LogIsShared j keep (l d) e.from e.to p) → IfSome o (λ d. ChecksShared j (Verified p.steps) (i d) (u d) (l d))
files_counted j None i u l keep e p f t = tt
files_counted j (Some d) i u l keep e p f t =
    record { from = e.from; to = e.to; is_input = f.is_input; is_output = f.is_output; holds = (t.passes.entries, t.passes.leads, t.passes.counted) }

-- the formula that the place was made with is the one that it holds
pub held-first : (F : PrenexFormula) (o : Option PrenexFormula) → o ≡ Some F → IsHeld F o
held-first F o e = subst (λ (x : Option PrenexFormula). IsHeld F x) (sym e) refl

pub early-unverified : (w : Outcome) → IsEarly w → IsUnverified w
early-unverified (Verified n) h = h
early-unverified (RefusedLine n c) h = tt
early-unverified (RefusedEnd c) h = tt
early-unverified (RefusedInput r n c) h = tt
early-unverified ReadFault h = tt
early-unverified NoMemory h = tt

-- what is said of a log is said of the files
checks-of : (w : Outcome) (i u l : List ℕ) (e : Ends) → AreEnds i u e → LogSays w e.from e.to l → Checks w i u l
checks-of (Verified n) i u l e f s = record { from = e.from; to = e.to; is_input = f.is_input; is_output = f.is_output; holds = s }
checks-of (RefusedLine n c) i u l e f s = record { from = e.from; to = e.to; is_input = f.is_input; is_output = f.is_output; holds = s }
checks-of (RefusedEnd c) i u l e f s = record { from = e.from; to = e.to; is_input = f.is_input; is_output = f.is_output; holds = s }
checks-of (RefusedInput r n c) i u l e f s = absurd s
checks-of ReadFault i u l e f s = tt
checks-of NoMemory i u l e f s = tt

pub files_say : {D : Type 0} (o : Option D) (i u l : D → List ℕ) (w : Outcome) (e : Ends) → IfSome o (λ d. AreEnds (i d) (u d) e) → IfSome o (λ d. LogSays w e.from e.to (l d)) → IfSome o (λ d. Checks w (i d) (u d) (l d))
files_say None i u l w e f s = tt
files_say (Some d) i u l w e f s = checks-of w (i d) (u d) (l d) e f s

-- the same of a part
share-checks-of : (j : Share) (w : Outcome) (i u l : List ℕ) (e : Ends) → AreEnds i u e → LogSaysShared j w e.from e.to l → ChecksShared j w i u l
share-checks-of j (Verified n) i u l e f s = record { from = e.from; to = e.to; is_input = f.is_input; is_output = f.is_output; holds = s }
share-checks-of j (RefusedLine n c) i u l e f s = record { from = e.from; to = e.to; is_input = f.is_input; is_output = f.is_output; holds = s }
share-checks-of j (RefusedEnd c) i u l e f s = record { from = e.from; to = e.to; is_input = f.is_input; is_output = f.is_output; holds = s }
share-checks-of j (RefusedInput r n c) i u l e f s = absurd s
share-checks-of j ReadFault i u l e f s = tt
share-checks-of j NoMemory i u l e f s = tt

pub files_share : {D : Type 0} (j : Share) (o : Option D) (i u l : D → List ℕ) (w : Outcome) (e : Ends) → IfSome o (λ d. AreEnds (i d) (u d) e) → IfSome o (λ d. LogSaysShared j w e.from e.to (l d)) → IfSome o (λ d. ChecksShared j w (i d) (u d) (l d))
files_share j None i u l w e f s = tt
files_share j (Some d) i u l w e f s = share-checks-of j w (i d) (u d) (l d) e f s

-- what comes before the log is looked at is the same for each part
early-share : (j : Share) (w : Outcome) (i u l : List ℕ) → IsEarly w → Checks w i u l → ChecksShared j w i u l
early-share j (Verified n) i u l h c = absurd h
early-share j (RefusedLine n k) i u l h c = absurd h
early-share j (RefusedEnd k) i u l h c = absurd h
early-share j (RefusedInput In n k) i u l h c = c
early-share j (RefusedInput Out n k) i u l h c = c
early-share j ReadFault i u l h c = tt
early-share j NoMemory i u l h c = tt

pub early-parts : {D : Type 0} (j : Share) (o : Option D) (i u l : D → List ℕ) (w : Outcome) → IsEarly w → IfSome o (λ d. Checks w (i d) (u d) (l d)) → IfSome o (λ d. ChecksShared j w (i d) (u d) (l d))
early-parts j None i u l w h c = tt
early-parts j (Some d) i u l w h c = early-share j w (i d) (u d) (l d) h c

-- what is said of verified logs alone
pub unverified-if : (w : Outcome) (P : Type 0) → IsUnverified w → IfVerified w P
unverified-if (Verified n) P h = absurd h
unverified-if (RefusedLine n c) P h = tt
unverified-if (RefusedEnd c) P h = tt
unverified-if (RefusedInput r n c) P h = tt
unverified-if ReadFault P h = tt
unverified-if NoMemory P h = tt
