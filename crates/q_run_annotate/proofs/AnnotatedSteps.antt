-- Steps that are taken while a plain log is read.
use Rattle.std.proofs.Common.{◌≡◌, ◌≤◌, ◌<◌, ◌+◌, ◌-◌, ◌∙◌, inl, inr, refl, sym, ap, subst, arith, ℕ, suc, Bool, true, false, cond, List, [], ◌∷◌, ◌++◌, length, take, drop, Option, Some, None, Ok, Err, append-nil, append_assoc, length-append, length-drop}
use Rattle.std.proofs.lemmas.List.{take-append-drop, length-take-le}
use Rattle.std.proofs.Math.Seq.{take-add, take-length}
use Rattle.q_logic.specs.Prelude.{PrenexFormula, plain, standard, ProofStep, Cause, after, SameFormula}
use Rattle.q_logic.specs.declared.limits.Limits.{Limits}
use Rattle.q_logic.proofs.Common.{alike_swapped}
use Rattle.q_same_steps.specs.Making.{Unfit, made}
use Rattle.q_shares.specs.Shares.{Share, AreMade, judged}
use Rattle.q_log.specs.declared.error.LogError.{LogError}
use Rattle.q_log.specs.declared.error.LogError.TheVariants as log
use Rattle.q_log.specs.Logs as logs
use Rattle.q_log.specs.Reading.{LogState, to_come}
use Rattle.q_log.specs.Reading as reading
use Rattle.q_command.specs.Logs.{Entry, IsOffence, steps_of}
use Rattle.q_command.specs.Parts.{IsFirstBadShared, share_of}
use Rattle.q_command.specs.declared.part.Part.{Part}
use Rattle.q_judge.specs.declared.error.CheckError.{CheckError}
use Rattle.q_judge.specs.declared.error.CheckError.TheVariants as check
use Rattle.q_check.specs.Checked.{IsRefusal}
use Rattle.q_check.specs.Replays.{IsUnfitFor}
use Rattle.q_command.specs.Refusals.{log_refused, step_refused}
use Rattle.q_command.specs.declared.outcome.Outcome.{Outcome}
use Rattle.q_command.specs.declared.outcome.Outcome.TheVariants.{Verified, RefusedLine, RefusedEnd, RefusedInput, ReadFault, NoMemory}
use Rattle.q_command.proofs.AuditSteps.{front-of, left-over}
use Rattle.q_command.proofs.BothCheckers.{ends-apart, same_last}
use Rattle.q_command.proofs.SharedSteps.{judged-cause}
use Rattle.q_run_annotate.specs.AnnotatedShares.{IsShareAnnotation}
use Rattle.q_run_annotate.specs.AnnotatedParts.{IsRefusedPlainShared, LogRefusesShared}
use Rattle.q_run_annotate.specs.Readings.{IsOpen, IsUnderWay, Stands, IsSoFar, Goes, Convicts, EndsAs, IsEndOutcome, Advances, Stops, Refuses, HasTaken, HasEnded, Passes, Concludes, IsStarted, turn}
use Rattle.q_run_annotate.specs.declared.reading.Reading.{Reading}
use Rattle.q_run_annotate.specs.declared.scribe.HintedText.{HintedText}
use Rattle.q_run_annotate.specs.declared.scribe.Scribe.{Scribe}
use Rattle.q_run_annotate.proofs.HintedLogSteps.{goes-on, ends-hinted}

-- what is read is refused at this line
abbrev IsRefusedBy : Share → PrenexFormula → logs.Parsed → ℕ → ℕ → Type 0
IsRefusedBy j F o n c = IsFirstBadShared j 0 F o.steps o.refused n c

-- what is said of a step that is judged, or of one that is made alone
abbrev Wrong : Bool → PrenexFormula → ProofStep → ℕ → Type 0
Wrong b E s c = judged b (Cause standard E s c) (Unfit standard E s c)

-- a wrong step behind others
bad-shared : (j : Share) (k : ℕ) (F : PrenexFormula) (ps : List Entry) (n : ℕ) (s : ProofStep) (more : List Entry) (r : Option LogError) (c : ℕ) → AreMade j standard k F (steps_of ps) → Wrong (j (k + length ps)) (made F (steps_of ps)) s c → IsFirstBadShared j k F (ps ++ (n, s) ∷ more) r n c
bad-shared j k F [] n s more r c v w =
    let z : k + 0 ≡ k = omega arith in
    inl (refl, subst (λ (i : ℕ). Wrong (j i) F s c) z w)
bad-shared j k F (p ∷ ps) n s more r c v w =
    let z : k + suc (length ps) ≡ (k + 1) + length ps = omega arith in
    inr (v.0, bad-shared j (k + 1) (after F p.1) ps n s more r c v.1 (subst (λ (i : ℕ). Wrong (j i) (made (after F p.1) (steps_of ps)) s c) z w))

-- an offence behind steps
offence-shared : (j : Share) (k : ℕ) (F : PrenexFormula) (ps : List Entry) (r : Option LogError) (n c : ℕ) → AreMade j standard k F (steps_of ps) → IsOffence r n c → IsFirstBadShared j k F ps r n c
offence-shared j k F [] r n c v o = o
offence-shared j k F (p ∷ ps) r n c v o = inr (v.0, offence-shared j (k + 1) (after F p.1) ps r n c v.1 o)

pub leads-none : (o : Option (ℕ × ProofStep)) (before now : List ℕ → logs.Parsed) → o ≡ None → ((rest : List ℕ) → reading.Leads (Ok o) (before rest) (now rest)) → (rest : List ℕ) → before rest ≡ now rest
leads-none o before now e h = subst (λ x. (rest : List ℕ) → reading.Leads (Ok x) (before rest) (now rest)) e h

pub leads-some : (o : Option (ℕ × ProofStep)) (before now : List ℕ → logs.Parsed) (e : ℕ × ProofStep) → o ≡ Some e → ((rest : List ℕ) → reading.Leads (Ok o) (before rest) (now rest)) → (rest : List ℕ) → before rest ≡ logs.onto e (now rest)
leads-some o before now s e h = subst (λ x. (rest : List ℕ) → reading.Leads (Ok x) (before rest) (now rest)) e h

pub ends-none : (o : Option (ℕ × ProofStep)) (before : logs.Parsed) → o ≡ None → reading.Ends (Ok o) before → before ≡ logs.finished
ends-none o before e h = subst (λ x. reading.Ends (Ok x) before) e h

pub ends-some : (o : Option (ℕ × ProofStep)) (before : logs.Parsed) (e : ℕ × ProofStep) → o ≡ Some e → reading.Ends (Ok o) before → before ≡ logs.onto e logs.finished
ends-some o before s e h = subst (λ x. reading.Ends (Ok x) before) e h

behind-behind : (xs ys : List Entry) (o : logs.Parsed) → logs.behind xs (logs.behind ys o) ≡ logs.behind (xs ++ ys) o
behind-behind xs ys o = ap (λ (es : List Entry). let e : logs.Parsed = record { steps = es; refused = o.refused } in e) (sym (append_assoc xs ys o.steps))

pub advances_begin : (a : Reading) → IsOpen a → Advances a a []
advances_begin a o = record {
  stands = λ F front s. subst (λ (xs : List ℕ). Stands F a xs) (sym (append-nil front)) s;
  part = refl;
  left = omega arith;
  goes_on = o;
}

-- bytes that end no step
pub advances_nothing : (old new : Reading) (bytes : List ℕ) → IsOpen old → new.scribe ≡ old.scribe → ((rest : List ℕ) → to_come old.reader (bytes ++ rest) ≡ to_come new.reader rest) → new.reader.left + length bytes ≡ old.reader.left → Advances old new bytes
advances_nothing old new bytes o same next left =
    let count : new.scribe.annotator.steps ≡ old.scribe.annotator.steps = ap (λ (x : Scribe). x.annotator.steps) same in
    let written : new.scribe.written ≡ old.scribe.written = ap (λ (x : Scribe). x.written) same in
    record {
      stands = λ F front s. record {
        entries = s.entries;
        log = λ rest. ap (logs.read standard.bytes) (append_assoc front bytes rest) ∙ (s.log (bytes ++ rest) ∙ ap (logs.behind s.entries) (next rest));
        so_far = subst (λ (x : Scribe). IsSoFar (share_of x.part) F s.entries x) (sym same) s.so_far;
      };
      part = ap (λ (x : Scribe). x.part) same;
      left = left;
      goes_on = record {
        under_way = subst (λ (x : Scribe). IsUnderWay x.annotator) (sym same) o.under_way;
        room = omega (arith, o.room, count, left);
        fewer = omega (arith, o.fewer, count, written);
      };
    }

-- bytes that end a valid step
still-fewer : (b : Bool) (w a v c : ℕ) → w ≤ a → v ≡ cond b (w + 1) w → c ≡ a + 1 → v ≤ c
still-fewer true w a v c h e f = omega (arith, h, e, f)
still-fewer false w a v c h e f = omega (arith, h, e, f)

pub advances_step : (old new : Reading) (bytes : List ℕ) (n : ℕ) (s : ProofStep) → IsOpen old → 0 < length bytes → Goes s old.scribe new.scribe → ((rest : List ℕ) → to_come old.reader (bytes ++ rest) ≡ logs.onto (n, s) (to_come new.reader rest)) → new.reader.left + length bytes ≡ old.reader.left → Advances old new bytes
advances_step old new bytes n s o some g next left =
    record {
      stands = λ F front x. record {
        entries = x.entries ++ (n, s) ∷ [];
        log = λ rest. ap (logs.read standard.bytes) (append_assoc front bytes rest) ∙ (x.log (bytes ++ rest) ∙ (ap (logs.behind x.entries) (next rest) ∙ behind-behind x.entries ((n, s) ∷ []) (to_come new.reader rest)));
        so_far = goes-on F x.entries n s old.scribe new.scribe x.so_far g;
      };
      part = g.part;
      left = left;
      goes_on = record {
        under_way = g.under_way;
        room = omega (arith, o.room, g.steps, left, some);
        fewer = still-fewer (turn old.scribe) old.scribe.written old.scribe.annotator.steps new.scribe.written new.scribe.annotator.steps o.fewer g.written g.steps;
      };
    }

-- the front of a piece was read, and no step ended in it, or one
pub advances_passed : (old : Reading) (r : LogState) (piece : List ℕ) (n : ℕ) (o : Option (ℕ × ProofStep)) → IsOpen old → o ≡ None → ((rest : List ℕ) → reading.Leads (Ok o) (to_come old.reader (take n piece ++ rest)) (to_come r rest)) → r.left + n ≡ old.reader.left → (0 < n) × (n ≤ length piece) → Advances old (record { reader = r; scribe = old.scribe }) (take n piece)
advances_passed old r piece n o open-now q h left w =
    advances_nothing old (record { reader = r; scribe = old.scribe }) (take n piece) open-now refl
    (leads-none o (λ rest. to_come old.reader (take n piece ++ rest)) (λ rest. to_come r rest) q h) (left-over old.reader.left r.left n piece w.1 left)

pub advances_taken : (old : Reading) (r : LogState) (t : Scribe) (piece : List ℕ) (n : ℕ) (o : Option (ℕ × ProofStep)) (l : ℕ) (s : ProofStep) → IsOpen old → Goes s old.scribe t → o ≡ Some (l, s) → ((rest : List ℕ) → reading.Leads (Ok o) (to_come old.reader (take n piece ++ rest)) (to_come r rest)) → r.left + n ≡ old.reader.left → (0 < n) × (n ≤ length piece) → Advances old (record { reader = r; scribe = t }) (take n piece)
advances_taken old r t piece n o l s open-now g q h left w =
    let k : length (take n piece) ≡ n = length-take-le n piece w.1 in
    let some : 0 < length (take n piece) = omega (arith, k, w.0) in
    advances_step old (record { reader = r; scribe = t }) (take n piece) l s open-now some g
    (leads-some o (λ rest. to_come old.reader (take n piece ++ rest)) (λ rest. to_come r rest) (l, s) q h) (left-over old.reader.left r.left n piece w.1 left)

pub advances_more : (a b c : Reading) (xs ys : List ℕ) → Advances a b xs → Advances b c ys → Advances a c (xs ++ ys)
advances_more a b c xs ys f g = record {
  stands = λ F front s. subst (λ (zs : List ℕ). Stands F c zs) (append_assoc front xs ys) (g.stands F (front ++ xs) (f.stands F front s));
  part = g.part ∙ f.part;
  left = omega (arith, f.left, g.left, length-append xs ys);
  goes_on = g.goes_on;
}

-- more bytes of a piece
pub advances_further : (a b c : Reading) (piece : List ℕ) (i n : ℕ) → Advances a b (take i piece) → Advances b c (take n (drop i piece)) → Advances a c (take (i + n) piece)
advances_further a b c piece i n f g = subst (λ xs. Advances a c xs) (sym (take-add i n piece)) (advances_more a b c (take i piece) (take n (drop i piece)) f g)

-- a step of the part that is not valid, and one of another part that can't be made
pub convicted : (b : Bool) → b ≡ true → (w : Outcome) (m : Limits) (E : PrenexFormula) (n : ℕ) (s : ProofStep) (e : CheckError) → w ≡ step_refused n e → m ≡ standard → IsRefusal m E s e → Convicts b w E (n, s)
convicted b own w m E n s (check.Refused c) q l h =
    subst (λ (o : Outcome). Convicts b o E (n, s)) (sym q) (refl, subst (λ (x : Bool). Wrong x E s c) (sym own) (subst (λ (x : Limits). Cause x E s c) l h))
convicted b own w m E n s check.NoMemory q l h = subst (λ (o : Outcome). Convicts b o E (n, s)) (sym q) tt

pub unfit : (b : Bool) → b ≡ false → (w : Outcome) (m : Limits) (E : PrenexFormula) (n : ℕ) (s : ProofStep) (e : CheckError) → w ≡ step_refused n e → m ≡ standard → IsUnfitFor m E s e → Convicts b w E (n, s)
unfit b other w m E n s (check.Refused c) q l h =
    subst (λ (o : Outcome). Convicts b o E (n, s)) (sym q) (refl, subst (λ (x : Bool). Wrong x E s c) (sym other) (subst (λ (x : Limits). Unfit x E s c) l h))
unfit b other w m E n s check.NoMemory q l h = subst (λ (o : Outcome). Convicts b o E (n, s)) (sym q) tt

-- what is refused
stops_convict : (j : Share) (w : Outcome) (F : PrenexFormula) (text : List ℕ) (es : List Entry) (s : Scribe) (e : Entry) (o : logs.Parsed) → IsSoFar j F es s → Convicts (j s.annotator.steps) w (plain s.annotator.formula) e → logs.read standard.bytes text ≡ logs.behind es (logs.onto e o) → Stops j w F text
stops_convict j (Verified n) F text es s e o f h r = h
stops_convict j (RefusedLine n c) F text es s e o f (line, cause) r =
    let l = f.leads in
    let b : Bool = j s.annotator.steps in
    let E : PrenexFormula = made F (steps_of es) in
    let z : s.annotator.steps ≡ 0 + length es = omega (arith, f.all) in
    subst (λ (k : ℕ). IsRefusedPlainShared j F text k c) (sym line)
    (subst (λ (x : logs.Parsed). IsRefusedBy j F x e.0 c) (sym r)
    (bad-shared j 0 F es e.0 e.1 o.steps o.refused c l.steps
    (subst (λ (k : ℕ). Wrong (j k) E e.1 c) z (judged-cause b standard (plain s.annotator.formula) E e.1 c (alike_swapped E (plain s.annotator.formula) l.alike) cause))))
stops_convict j (RefusedEnd c) F text es s e o f h r = h
stops_convict j (RefusedInput r n c) F text es s e o f h q = h
stops_convict j ReadFault F text es s e o f h r = tt
stops_convict j NoMemory F text es s e o f h r = tt

refuses_step : (a : Reading) (bytes : List ℕ) (w : Outcome) (e : Entry) (o : logs.Parsed) → Convicts (turn a.scribe) w (plain a.scribe.annotator.formula) e → to_come a.reader bytes ≡ logs.onto e o → Refuses w a bytes
refuses_step a bytes w e o h next F front s =
    stops_convict (share_of a.scribe.part) w F (front ++ bytes) s.entries a.scribe e o s.so_far h (s.log bytes ∙ ap (logs.behind s.entries) next)

-- a step that the front of a piece makes whole
pub refuses_piece : (a : Reading) (piece : List ℕ) (n : ℕ) (w : Outcome) (e : Entry) (now : List ℕ → logs.Parsed) → Convicts (turn a.scribe) w (plain a.scribe.annotator.formula) e → ((rest : List ℕ) → to_come a.reader (take n piece ++ rest) ≡ logs.onto e (now rest)) → (rest : List ℕ) → Refuses w a (piece ++ rest)
refuses_piece a piece n w e now h next rest =
    subst (λ (xs : List ℕ). Refuses w a xs) (front-of n piece rest) (refuses_step a (take n piece ++ (drop n piece ++ rest)) w e (now (drop n piece ++ rest)) h (next (drop n piece ++ rest)))

pub refuses_last : (a : Reading) (w : Outcome) (e : Entry) → Convicts (turn a.scribe) w (plain a.scribe.annotator.formula) e → to_come a.reader [] ≡ logs.onto e logs.finished → Refuses w a []
refuses_last a w e h next = refuses_step a [] w e logs.finished h next

offends : (j : Share) (F : PrenexFormula) (text : List ℕ) (es : List Entry) (s : Scribe) (e : LogError) (n c : ℕ) → logs.read standard.bytes text ≡ logs.behind es (logs.stopped e) → IsSoFar j F es s → IsOffence (Some e) n c → IsRefusedPlainShared j F text n c
offends j F text es s e n c r f o =
    let same : logs.behind es (logs.stopped e) ≡ record { steps = es; refused = Some e } = ap (λ (xs : List Entry). let x : logs.Parsed = record { steps = xs; refused = Some e } in x) (append-nil es) in
    subst (λ (x : logs.Parsed). IsRefusedBy j F x n c) (sym (r ∙ same)) (offence-shared j 0 F es (Some e) n c f.leads.steps o)

stops_offence : (j : Share) (w : Outcome) (F : PrenexFormula) (text : List ℕ) (es : List Entry) (s : Scribe) (e : LogError) → w ≡ log_refused e → IsSoFar j F es s → (¬ (e ≡ log.NoMemory) → logs.read standard.bytes text ≡ logs.behind es (logs.stopped e)) → Stops j w F text
stops_offence j w F text es s (log.BadLine n) q f r = subst (λ (x : Outcome). Stops j x F text) (sym q) (offends j F text es s (log.BadLine n) n 1 (r (λ x. cc)) f (refl, refl))
stops_offence j w F text es s (log.Limit n) q f r = subst (λ (x : Outcome). Stops j x F text) (sym q) (offends j F text es s (log.Limit n) n 8 (r (λ x. cc)) f (refl, refl))
stops_offence j w F text es s log.NoMemory q f r = subst (λ (x : Outcome). Stops j x F text) (sym q) tt

answered : (e : LogError) (before now : logs.Parsed) → reading.Leads (Err e) before now → ¬ (e ≡ log.NoMemory) → before ≡ logs.stopped e
answered (log.BadLine n) before now h k = h.0
answered (log.Limit n) before now h k = h.0
answered log.NoMemory before now h k = absurd (k refl)

pub refuses_offence : (a : Reading) (new : LogState) (piece : List ℕ) (e : LogError) (w : Outcome) → w ≡ log_refused e → reading.Passes (Err e) a.reader new piece → (rest : List ℕ) → Refuses w a (piece ++ rest)
refuses_offence a new piece e w q (n, h) rest F front s =
    let all : take n piece ++ (drop n piece ++ rest) ≡ piece ++ rest = front-of n piece rest in
    subst (λ (xs : List ℕ). Stops (share_of a.scribe.part) w F (front ++ xs)) all
    (stops_offence (share_of a.scribe.part) w F (front ++ (take n piece ++ (drop n piece ++ rest))) s.entries a.scribe e q s.so_far
    (λ k. s.log (take n piece ++ (drop n piece ++ rest)) ∙ ap (logs.behind s.entries) (answered e (to_come a.reader (take n piece ++ (drop n piece ++ rest))) (to_come new (drop n piece ++ rest)) (h (drop n piece ++ rest)) k)))

ended-by : (e : LogError) (before : logs.Parsed) → reading.Ends (Err e) before → ¬ (e ≡ log.NoMemory) → before ≡ logs.stopped e
ended-by (log.BadLine n) before h k = h
ended-by (log.Limit n) before h k = h
ended-by log.NoMemory before h k = absurd (k refl)

pub refuses_end : (a : Reading) (e : LogError) (w : Outcome) → w ≡ log_refused e → reading.Ends (Err e) (to_come a.reader []) → Refuses w a []
refuses_end a e w q h F front s =
    stops_offence (share_of a.scribe.part) w F (front ++ []) s.entries a.scribe e q s.so_far
    (λ k. s.log [] ∙ ap (logs.behind s.entries) (ended-by e (to_come a.reader []) h k))

-- a refusal within bytes that follow others
refuses_later : (a b : Reading) (xs ys : List ℕ) (w : Outcome) → Advances a b xs → Refuses w b ys → Refuses w a (xs ++ ys)
refuses_later a b xs ys w f r F front s =
    subst (λ (p : Part). Stops (share_of p) w F (front ++ (xs ++ ys))) f.part
    (subst (λ (zs : List ℕ). Stops (share_of b.scribe.part) w F zs) (append_assoc front xs ys) (r F (front ++ xs) (f.stands F front s)))

pub refuses_from : (a b : Reading) (piece : List ℕ) (i : ℕ) (w : Outcome) → Advances a b (take i piece) → ((rest : List ℕ) → Refuses w b (drop i piece ++ rest)) → (rest : List ℕ) → Refuses w a (piece ++ rest)
refuses_from a b piece i w f r rest = subst (λ xs. Refuses w a xs) (front-of i piece rest) (refuses_later a b (take i piece) (drop i piece ++ rest) w f (r rest))

pub refuses_file : (a : Reading) (file : List ℕ) (place n : ℕ) (piece : List ℕ) (w : Outcome) → piece ≡ take n (drop place file) → ((rest : List ℕ) → Refuses w a (piece ++ rest)) → Refuses w a (drop place file)
refuses_file a file place n piece w e r =
    subst (λ xs. Refuses w a xs) (ap (λ xs. xs ++ drop n (drop place file)) e ∙ take-append-drop n (drop place file)) (r (drop n (drop place file)))

-- the reading stands behind the front of a file
pub record HasReached (file : List ℕ) (place : ℕ) (first now : Reading) : Type 0 where
  pub front : Advances first now (take place file)
  pub within : place ≤ length file

pub tries_begin : (file : List ℕ) (a : Reading) → IsOpen a → HasReached file 0 a a
tries_begin file a o = record { front = advances_begin a o; within = omega arith }

pub tries_more : (file : List ℕ) (place n : ℕ) (first old new : Reading) → HasReached file place first old → HasTaken file place n old new → HasReached file (place + n) first new
tries_more file place n first old new f p =
    let len : length (drop place file) ≡ length file - place = length-drop place file in
    record {
      front = subst (λ xs. Advances first new xs) (sym (take-add place n file)) (advances_more first old new (take place file) (take n (drop place file)) f.front p.piece);
      within = omega (arith, len, p.left, f.within);
    }

pub tries_end : (file : List ℕ) (place n : ℕ) (first old new : Reading) → n ≡ 0 → HasReached file place first old → HasTaken file place n old new → Advances first new file
tries_end file place n first old new z f p =
    let g : HasReached file (place + n) first new = tries_more file place n first old new f p in
    let all : place + n ≡ length file = omega (arith, p.end z, f.within, z) in
    subst (λ xs. Advances first new xs) (ap (λ k. take k file) all ∙ take-length file) g.front

refuses_whole : (file : List ℕ) (place : ℕ) (first old : Reading) (w : Outcome) → HasReached file place first old → Refuses w old (drop place file) → Refuses w first file
refuses_whole file place first old w f r = subst (λ xs. Refuses w first xs) (take-append-drop place file) (refuses_later first old (take place file) (drop place file) w f.front r)

-- the log ends without a step more, or with one
pub ended_now : (a : Reading) → to_come a.reader [] ≡ logs.finished → HasEnded a a.scribe
ended_now a e F text s = record {
  entries = s.entries;
  is_log = ap (logs.read standard.bytes) (sym (append-nil text)) ∙ (s.log [] ∙ (ap (logs.behind s.entries) e ∙ ap (λ (xs : List Entry). let x : logs.Parsed = record { steps = xs; refused = None } in x) (append-nil s.entries)));
  so_far = s.so_far;
}

pub ended_step : (a : Reading) (t : Scribe) (n : ℕ) (p : ProofStep) → Goes p a.scribe t → to_come a.reader [] ≡ logs.onto (n, p) logs.finished → HasEnded a t
ended_step a t n p g r F text s =
    let j : Share = share_of a.scribe.part in
    let so : IsSoFar (share_of t.part) F (s.entries ++ (n, p) ∷ []) t = goes-on F s.entries n p a.scribe t s.so_far g in
    record {
      entries = s.entries ++ (n, p) ∷ [];
      is_log = ap (logs.read standard.bytes) (sym (append-nil text)) ∙ (s.log [] ∙ ap (logs.behind s.entries) r);
      so_far = subst (λ (q : Part). IsSoFar (share_of q) F (s.entries ++ (n, p) ∷ []) t) g.part so;
    }

-- all steps of a log
is_whole : (text : List ℕ) (es : List Entry) → logs.read standard.bytes text ≡ record { steps = es; refused = None } → logs.Steps standard.bytes text ≡ Some es
is_whole text es r = ap (λ (o : logs.Parsed). logs.all_or_none o.refused o.steps) r

-- the end, up to the order of clauses
same-made : (j : Share) (F G : PrenexFormula) (es : List Entry) (s : Scribe) → IsSoFar j F es s → SameFormula (plain s.annotator.formula) G → SameFormula (made F (steps_of es)) G
same-made j F G es s f h = same_last (made F (steps_of es)) (plain s.annotator.formula) G f.leads.alike h

pub passes_end : (a : Reading) (s : Scribe) (G : PrenexFormula) (t : HintedText) → HasEnded a s → EndsAs s G t → Passes a G t
passes_end a s G t e h F text st =
    let j : Share = share_of a.scribe.part in
    let x = e F text st in
    record {
      entries = x.entries;
      is_log = is_whole text x.entries x.is_log;
      run = record { steps = x.so_far.leads.steps; same = same-made j F G x.entries s x.so_far h.same };
      counted = h.steps ∙ x.so_far.counted;
      hinted = ends-hinted j F G x.entries s t.text.items x.so_far h.same h.text;
    }

pub concludes_end : (a : Reading) (s : Scribe) (G : PrenexFormula) (w : Outcome) → HasEnded a s → IsEndOutcome w (plain s.annotator.formula) G → Concludes w a G
concludes_end a s G (Verified n) e h F text st = absurd h
concludes_end a s G (RefusedLine n c) e h F text st = absurd h
concludes_end a s G (RefusedEnd c) e h F text st =
    let x = e F text st in
    let l = x.so_far.leads in
    record {
      last = made F (steps_of x.entries);
      way = record { entries = x.entries; is_log = is_whole text x.entries x.is_log; steps = l.steps; last_is = refl };
      apart = ends-apart (made F (steps_of x.entries)) (plain s.annotator.formula) G c l.alike h;
    }
concludes_end a s G (RefusedInput r n c) e h F text st = absurd h
concludes_end a s G ReadFault e h F text st = tt
concludes_end a s G NoMemory e h F text st = tt

said : (j : Share) (w : Outcome) (F G : PrenexFormula) (text : List ℕ) → Stops j w F text → LogRefusesShared j w F G text
said j (Verified n) F G text h = h
said j (RefusedLine n c) F G text h = h
said j (RefusedEnd c) F G text h = absurd h
said j (RefusedInput r n c) F G text h = h
said j ReadFault F G text h = tt
said j NoMemory F G text h = tt

pub concludes_last : (a : Reading) (G : PrenexFormula) (w : Outcome) → Refuses w a [] → Concludes w a G
concludes_last a G w r F text s =
    let j : Share = share_of a.scribe.part in
    said j w F G text (subst (λ (xs : List ℕ). Stops j w F xs) (append-nil text) (r F text s))

-- the whole file
pub passes_file : (file : List ℕ) (F G : PrenexFormula) (p : Part) (first last : Reading) (t : HintedText) → IsStarted F p first → Advances first last file → Passes last G t → IsShareAnnotation (share_of p) file t.steps F G t.text.items
passes_file file F G p first last t s a h =
    subst (λ (q : Part). IsShareAnnotation (share_of q) file t.steps F G t.text.items) (a.part ∙ s.part) (h F file (a.stands F [] s.stands))

pub concludes_file : (file : List ℕ) (F G : PrenexFormula) (p : Part) (first last : Reading) (w : Outcome) → IsStarted F p first → Advances first last file → Concludes w last G → LogRefusesShared (share_of p) w F G file
concludes_file file F G p first last w s a c =
    subst (λ (q : Part). LogRefusesShared (share_of q) w F G file) (a.part ∙ s.part) (c F file (a.stands F [] s.stands))

pub refuses_log : (file : List ℕ) (place : ℕ) (F G : PrenexFormula) (p : Part) (first old : Reading) (w : Outcome) → IsStarted F p first → HasReached file place first old → Refuses w old (drop place file) → LogRefusesShared (share_of p) w F G file
refuses_log file place F G p first old w s f r =
    subst (λ (q : Part). LogRefusesShared (share_of q) w F G file) s.part (said (share_of first.scribe.part) w F G file (refuses_whole file place first old w f r F [] s.stands))
