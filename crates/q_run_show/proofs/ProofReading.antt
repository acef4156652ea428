-- A proof that is read in pieces.
use Rattle.std.proofs.Common.{◌≡◌, ◌≤◌, ◌<◌, ◌+◌, ◌-◌, ◌∙◌, refl, sym, ap, subst, arith, ℕ, Bool, List, [], ◌∷◌, ◌++◌, length, take, drop, Option, Some, None, Ok, Err, append-nil, append_assoc, length-append, length-drop}
use Rattle.std.proofs.lemmas.List.{take-append-drop, length-take-le}
use Rattle.std.proofs.Math.Seq.{take-add, take-length}
use Rattle.q_logic.specs.Prelude.{PrenexFormula}
use Rattle.q_log.specs.declared.error.LogError.{LogError}
use Rattle.q_log.specs.declared.error.LogError.TheVariants as log
use Rattle.q_log.specs.Logs.{Parsed}
use Rattle.q_log.specs.Logs as logs
use Rattle.q_hinted.specs.Logs.{Entry as BothEntry, Entries, behind, onto, finished, stopped}
use Rattle.q_hinted.specs.Reading as reading
use Rattle.q_binary.specs.Forms.{ProofState, IsStop, left_of, to_come}
use Rattle.q_binary.specs.Forms as forms
use Rattle.q_shares.specs.Shares.{Share}
use Rattle.q_command.specs.Judging.{bare}
use Rattle.q_command.specs.Logs.{Entry, IsOffence}
use Rattle.q_command.specs.Parts.{share_of}
use Rattle.q_command.specs.Refusals.{log_refused}
use Rattle.q_command.specs.declared.part.Part.{Part}
use Rattle.q_command.specs.declared.outcome.Outcome.{Outcome}
use Rattle.q_command.specs.declared.outcome.Outcome.TheVariants as outcome
use Rattle.q_command.proofs.AuditSteps.{front-of, left-over}
use Rattle.q_command.proofs.LogEntries.{bare-append}
use Rattle.q_run_disprove.specs.Disproofs.{bare_of, entries_in, proof_of}
use Rattle.q_run_disprove.proofs.DisproofReading.{leads-none, leads-some}
use Rattle.q_run_show.specs.Readings.{Advances, EndsAt, Goes, HasTaken, IsOpen, IsSoFar, IsStarted, IsUnderWay, SaysEnd, Stands, Tells}
use Rattle.q_run_show.specs.declared.ending.Ending.{Ending}
use Rattle.q_run_show.specs.declared.ending.Ending.TheVariants as ending
use Rattle.q_run_show.specs.declared.reading.Reading.{Reading}
use Rattle.q_run_show.specs.declared.scribe.Scribe.{Scribe}
use Rattle.q_run_show.proofs.ShownEnds.{end-says, goes-on, goes-under_way, offence-says, step-says}

behind-behind : (xs ys : List BothEntry) (o : Entries) → behind xs (behind ys o) ≡ behind (xs ++ ys) o
behind-behind xs ys o = ap (λ (es : List BothEntry). let e : Entries = record { entries = es; refused = o.refused } in e) (sym (append_assoc xs ys o.entries))

bare-behind : (es : List BothEntry) (o : Entries) → bare_of (behind es o) ≡ logs.behind (bare es) (bare_of o)
bare-behind es o = ap (λ (ps : List Entry). let y : Parsed = record { steps = ps; refused = o.refused } in y) (bare-append es o.entries)

pub advances_begin : (a : Reading) → IsOpen a → Advances a a []
advances_begin a o = record {
  stands = λ b j F front s. subst (λ (xs : List ℕ). Stands b j F a xs) (sym (append-nil front)) s;
  left = omega arith;
  goes_on = o;
}

-- bytes that end no step
advances_nothing : (old new : Reading) (bytes : List ℕ) → IsOpen old → new.scribe ≡ old.scribe → ((rest : List ℕ) → to_come old.reader (bytes ++ rest) ≡ to_come new.reader rest) → left_of new.reader + length bytes ≡ left_of old.reader → Advances old new bytes
advances_nothing old new bytes o same next left =
    let count : new.scribe.annotator.steps ≡ old.scribe.annotator.steps = ap (λ (x : Scribe). x.annotator.steps) same in
    record {
      stands = λ b j F front s. record {
        entries = s.entries;
        proof = λ rest. ap (entries_in b) (append_assoc front bytes rest) ∙ (s.proof (bytes ++ rest) ∙ ap (behind s.entries) (next rest));
        so_far = subst (λ (x : Scribe). IsSoFar j F (bare s.entries) x) (sym same) s.so_far;
      };
      left = left;
      goes_on = record {
        under_way = subst (λ (x : Scribe). IsUnderWay x) (sym same) o.under_way;
        room = omega (arith, o.room, count, left);
      };
    }

-- bytes that end a step
advances_step : (old new : Reading) (bytes : List ℕ) (e : BothEntry) → IsOpen old → 0 < length bytes → Goes e.1 old.scribe new.scribe → ((rest : List ℕ) → to_come old.reader (bytes ++ rest) ≡ onto e (to_come new.reader rest)) → left_of new.reader + length bytes ≡ left_of old.reader → Advances old new bytes
advances_step old new bytes e o some g next left =
    let count : new.scribe.annotator.steps ≡ old.scribe.annotator.steps + 1 = (let t = g.takes in t.steps) in
    record {
      stands = λ b j F front x. record {
        entries = x.entries ++ e ∷ [];
        proof = λ rest. ap (entries_in b) (append_assoc front bytes rest) ∙ (x.proof (bytes ++ rest) ∙ (ap (behind x.entries) (next rest) ∙ behind-behind x.entries (e ∷ []) (to_come new.reader rest)));
        so_far = subst (λ (ps : List Entry). IsSoFar j F ps new.scribe) (sym (bare-append x.entries (e ∷ [])))
            (goes-on j F (bare x.entries) old.scribe x.so_far o.under_way e.0 e.1 new.scribe g);
      };
      left = left;
      goes_on = record { under_way = goes-under_way e.1 old.scribe new.scribe g; room = omega (arith, o.room, count, left, some) };
    }

-- the front of a piece was read, and no step ended in it, or one
pub advances_passed : (old : Reading) (r : ProofState) (piece : List ℕ) (n : ℕ) (o : Option BothEntry) → IsOpen old → o ≡ None → ((rest : List ℕ) → reading.Leads (Ok o) (to_come old.reader (take n piece ++ rest)) (to_come r rest)) → left_of r + n ≡ left_of old.reader → (0 < n) × (n ≤ length piece) → Advances old (record { reader = r; scribe = old.scribe }) (take n piece)
advances_passed old r piece n o open-now q h left w =
    advances_nothing old (record { reader = r; scribe = old.scribe }) (take n piece) open-now refl
    (leads-none o (λ rest. to_come old.reader (take n piece ++ rest)) (λ rest. to_come r rest) q h) (left-over (left_of old.reader) (left_of r) n piece w.1 left)

pub advances_taken : (old : Reading) (r : ProofState) (t : Scribe) (piece : List ℕ) (n : ℕ) (o : Option BothEntry) (e : BothEntry) → IsOpen old → Goes e.1 old.scribe t → o ≡ Some e → ((rest : List ℕ) → reading.Leads (Ok o) (to_come old.reader (take n piece ++ rest)) (to_come r rest)) → left_of r + n ≡ left_of old.reader → (0 < n) × (n ≤ length piece) → Advances old (record { reader = r; scribe = t }) (take n piece)
advances_taken old r t piece n o e open-now g q h left w =
    let k : length (take n piece) ≡ n = length-take-le n piece w.1 in
    let some : 0 < length (take n piece) = omega (arith, k, w.0) in
    advances_step old (record { reader = r; scribe = t }) (take n piece) e open-now some g
    (leads-some o (λ rest. to_come old.reader (take n piece ++ rest)) (λ rest. to_come r rest) e q h) (left-over (left_of old.reader) (left_of r) n piece w.1 left)

advances_more : (a b c : Reading) (xs ys : List ℕ) → Advances a b xs → Advances b c ys → Advances a c (xs ++ ys)
advances_more a b c xs ys f g = record {
  stands = λ k j F front s. subst (λ (zs : List ℕ). Stands k j F c zs) (append_assoc front xs ys) (g.stands k j F (front ++ xs) (f.stands k j F front s));
  left = omega (arith, f.left, g.left, length-append xs ys);
  goes_on = g.goes_on;
}

-- more bytes of a piece
pub advances_further : (a b c : Reading) (piece : List ℕ) (i n : ℕ) → Advances a b (take i piece) → Advances b c (take n (drop i piece)) → Advances a c (take (i + n) piece)
advances_further a b c piece i n f g = subst (λ xs. Advances a c xs) (sym (take-add i n piece)) (advances_more a b c (take i piece) (take n (drop i piece)) f g)

-- what is said of a proof by what its steps are
said-of : (j : Share) (x : Ending) (F : PrenexFormula) (b : Bool) (bytes : List ℕ) (es : List BothEntry) (o : Entries) → entries_in b bytes ≡ behind es o →
    SaysEnd j x F (logs.behind (bare es) (bare_of o)) → SaysEnd j x F (proof_of b bytes)
said-of j x F b bytes es o q h = subst (λ (p : Parsed). SaysEnd j x F p) (sym (ap bare_of q ∙ bare-behind es o)) h

-- what a step tells of all bytes behind those that are read
tells_step : (a : Reading) (bytes : List ℕ) (w : Ending) (e : BothEntry) (o : Entries) → IsOpen a → EndsAt w a.scribe (e.0, e.1) → to_come a.reader bytes ≡ onto e o → Tells w a bytes
tells_step a bytes w e o open-now h next b j F front s =
    said-of j w F b (front ++ bytes) s.entries (onto e o) (s.proof bytes ∙ ap (behind s.entries) next)
    (step-says j F (bare s.entries) a.scribe s.so_far open-now.under_way w (e.0, e.1) (bare_of o) h)

-- a step that the front of a piece makes whole
pub tells_piece : (a : Reading) (piece : List ℕ) (n : ℕ) (w : Ending) (e : BothEntry) (now : List ℕ → Entries) → IsOpen a → EndsAt w a.scribe (e.0, e.1) → ((rest : List ℕ) → to_come a.reader (take n piece ++ rest) ≡ onto e (now rest)) → (rest : List ℕ) → Tells w a (piece ++ rest)
tells_piece a piece n w e now open-now h next rest =
    subst (λ (xs : List ℕ). Tells w a xs) (front-of n piece rest) (tells_step a (take n piece ++ (drop n piece ++ rest)) w e (now (drop n piece ++ rest)) open-now h (next (drop n piece ++ rest)))

-- what a line that is no step tells
module _ (a : Reading) (bytes : List ℕ) (x : LogError) (n c : ℕ) where
  tells_offence_at : IsOpen a → to_come a.reader bytes ≡ stopped x → IsOffence (Some x) n c → Tells (ending.Refused (outcome.RefusedLine n c)) a bytes
  tells_offence_at open-now h i b j F front s =
      said-of j (ending.Refused (outcome.RefusedLine n c)) F b (front ++ bytes) s.entries (stopped x) (s.proof bytes ∙ ap (behind s.entries) h)
      (offence-says j F (bare s.entries) a.scribe s.so_far open-now.under_way x n c i)

tells_stop : (a : Reading) (bytes : List ℕ) (w : Outcome) (x : LogError) → IsOpen a → w ≡ log_refused x → IsStop x (to_come a.reader bytes) → Tells (ending.Refused w) a bytes
tells_stop a bytes w (log.BadLine n) open-now q h =
    subst (λ (o : Outcome). Tells (ending.Refused o) a bytes) (sym q) (tells_offence_at a bytes (log.BadLine n) n 1 open-now h (refl, refl))
tells_stop a bytes w (log.Limit n) open-now q h =
    subst (λ (o : Outcome). Tells (ending.Refused o) a bytes) (sym q) (tells_offence_at a bytes (log.Limit n) n 8 open-now h (refl, refl))
tells_stop a bytes w log.NoMemory open-now q h =
    subst (λ (o : Outcome). Tells (ending.Refused o) a bytes) (sym q) (λ b j F front s. tt)

pub tells_offence : (a : Reading) (new : ProofState) (piece : List ℕ) (x : LogError) (w : Outcome) (v : Ending) → IsOpen a → v ≡ ending.Refused w → w ≡ log_refused x → forms.Passes (Err x) a.reader new piece → (rest : List ℕ) → Tells v a (piece ++ rest)
tells_offence a new piece x w v open-now e q h rest =
    subst (λ (y : Ending). Tells y a (piece ++ rest)) (sym e) (tells_stop a (piece ++ rest) w x open-now q (h rest))

stop-at-end : (x : LogError) (before : Entries) → reading.Ends (Err x) before → IsStop x before
stop-at-end (log.BadLine n) before h = h
stop-at-end (log.Limit n) before h = h
stop-at-end log.NoMemory before h = tt

-- the proof ends in a line that is no step
pub tells_end_offence : (a : Reading) (x : LogError) (w : Outcome) (v : Ending) → IsOpen a → v ≡ ending.Refused w → w ≡ log_refused x → reading.Ends (Err x) (to_come a.reader []) → Tells v a []
tells_end_offence a x w v open-now e q h =
    subst (λ (y : Ending). Tells y a []) (sym e) (tells_stop a [] w x open-now q (stop-at-end x (to_come a.reader []) h))

ends-none : (o : Option BothEntry) (before : Entries) → o ≡ None → reading.Ends (Ok o) before → before ≡ finished
ends-none o before e h = subst (λ x. reading.Ends (Ok x) before) e h

ends-some : (o : Option BothEntry) (before : Entries) (e : BothEntry) → o ≡ Some e → reading.Ends (Ok o) before → before ≡ onto e finished
ends-some o before s e h = subst (λ x. reading.Ends (Ok x) before) e h

-- the proof ends without a step more
pub tells_end : (a : Reading) (o : Option BothEntry) (v : Ending) → IsOpen a → v ≡ ending.Refused (outcome.RefusedEnd 11) → o ≡ None → reading.Ends (Ok o) (to_come a.reader []) → Tells v a []
tells_end a o v open-now e n h =
    subst (λ (y : Ending). Tells y a []) (sym e) (λ b j F front s.
    said-of j (ending.Refused (outcome.RefusedEnd 11)) F b (front ++ []) s.entries finished (s.proof [] ∙ ap (behind s.entries) (ends-none o (to_come a.reader []) n h))
    (refl, end-says j F (bare s.entries) a.scribe s.so_far open-now.under_way))

-- or with one, of which something is said
pub tells_last : (a : Reading) (o : Option BothEntry) (v : Ending) (e : BothEntry) → IsOpen a → EndsAt v a.scribe (e.0, e.1) → o ≡ Some e → reading.Ends (Ok o) (to_come a.reader []) → Tells v a []
tells_last a o v e open-now h q r = tells_step a [] v e finished open-now h (ends-some o (to_come a.reader []) e q r)

-- or with one behind which the empty clause is not there
pub tells_end_step : (a : Reading) (o : Option BothEntry) (t : Scribe) (v : Ending) (e : BothEntry) → IsOpen a → v ≡ ending.Refused (outcome.RefusedEnd 11) → Goes e.1 a.scribe t → o ≡ Some e →
    reading.Ends (Ok o) (to_come a.reader []) → Tells v a []
tells_end_step a o t v e open-now k g q r =
    subst (λ (y : Ending). Tells y a []) (sym k) (λ b j F front s.
    let w = open-now.under_way in
    let es : List BothEntry = s.entries ++ e ∷ [] in
    let so-far : IsSoFar j F (bare es) t =
    subst (λ (ps : List Entry). IsSoFar j F ps t) (sym (bare-append s.entries (e ∷ []))) (goes-on j F (bare s.entries) a.scribe s.so_far w e.0 e.1 t g) in
    said-of j (ending.Refused (outcome.RefusedEnd 11)) F b (front ++ []) es finished
    (s.proof [] ∙ (ap (behind s.entries) (ends-some o (to_come a.reader []) e q r) ∙ behind-behind s.entries (e ∷ []) finished))
    (refl, end-says j F (bare es) t so-far (goes-under_way e.1 a.scribe t g)))

-- what is told of bytes that follow others
tells_later : (a b : Reading) (xs ys : List ℕ) (w : Ending) → Advances a b xs → Tells w b ys → Tells w a (xs ++ ys)
tells_later a b xs ys w f r k j F front s =
    subst (λ (zs : List ℕ). SaysEnd j w F (proof_of k zs)) (append_assoc front xs ys) (r k j F (front ++ xs) (f.stands k j F front s))

pub tells_from : (a b : Reading) (piece : List ℕ) (i : ℕ) (w : Ending) → Advances a b (take i piece) → ((rest : List ℕ) → Tells w b (drop i piece ++ rest)) → (rest : List ℕ) → Tells w a (piece ++ rest)
tells_from a b piece i w f r rest = subst (λ xs. Tells w a xs) (front-of i piece rest) (tells_later a b (take i piece) (drop i piece ++ rest) w f (r rest))

pub tells_file : (a : Reading) (file : List ℕ) (place n : ℕ) (piece : List ℕ) (w : Ending) → piece ≡ take n (drop place file) → ((rest : List ℕ) → Tells w a (piece ++ rest)) → Tells w a (drop place file)
tells_file a file place n piece w e r =
    subst (λ xs. Tells w a xs) (ap (λ xs. xs ++ drop n (drop place file)) e ∙ take-append-drop n (drop place file)) (r (drop n (drop place file)))

-- the reading stands behind the front of a file
pub record HasReached (file : List ℕ) (place : ℕ) (first now : Reading) : Type 0 where
  pub front : Advances first now (take place file)
  pub within : place ≤ length file

pub tries_begin : (file : List ℕ) (a : Reading) → IsOpen a → HasReached file 0 a a
tries_begin file a o = record { front = advances_begin a o; within = omega arith }

pub tries_more : (file : List ℕ) (place n : ℕ) (first old new : Reading) → HasReached file place first old → HasTaken file place n old new → HasReached file (place + n) first new
tries_more file place n first old new f p =
    let len : length (drop place file) ≡ length file - place = length-drop place file in
    record {
      front = subst (λ xs. Advances first new xs) (sym (take-add place n file)) (advances_more first old new (take place file) (take n (drop place file)) f.front p.piece);
      within = omega (arith, len, p.left, f.within);
    }

tries_end : (file : List ℕ) (place n : ℕ) (first old new : Reading) → n ≡ 0 → HasReached file place first old → HasTaken file place n old new → Advances first new file
tries_end file place n first old new z f p =
    let g : HasReached file (place + n) first new = tries_more file place n first old new f p in
    let all : place + n ≡ length file = omega (arith, p.end z, f.within, z) in
    subst (λ xs. Advances first new xs) (ap (λ k. take k file) all ∙ take-length file) g.front

-- the whole file
pub tells_all : (file : List ℕ) (place n : ℕ) (first old last : Reading) (w : Ending) → n ≡ 0 → HasReached file place first old → HasTaken file place n old last → Tells w last [] → Tells w first file
tells_all file place n first old last w z f p r =
    subst (λ xs. Tells w first xs) (append-nil file) (tells_later first last file [] w (tries_end file place n first old last z f p) r)

pub tells_whole : (file : List ℕ) (place : ℕ) (first old : Reading) (w : Ending) → HasReached file place first old → Tells w old (drop place file) → Tells w first file
tells_whole file place first old w f r = subst (λ xs. Tells w first xs) (take-append-drop place file) (tells_later first old (take place file) (drop place file) w f.front r)

-- what is told of a proof behind nothing
pub told-whole : (w : Ending) (binary : Bool) (part : Part) (F : PrenexFormula) (r : Reading) (file : List ℕ) → IsStarted binary part F r → Tells w r file → SaysEnd (share_of part) w F (proof_of binary file)
told-whole w binary part F r file s h = h binary (share_of part) F [] s.stands
