-- Steps that are tried while a log is read.
use Rattle.std.proofs.Common.{◌≡◌, ◌≤◌, ◌<◌, ◌+◌, ◌-◌, ◌∙◌, refl, sym, ap, subst, arith, ℕ, Bool, true, false, cond, List, [], ◌∷◌, ◌++◌, length, take, drop, Option, Some, None, Ok, Err, append-nil, append_assoc, length-append, length-drop}
use Rattle.std.proofs.lemmas.List.{take-append-drop, length-take-le}
use Rattle.std.proofs.Math.Seq.{take-add, take-length}
use Rattle.q_logic.specs.Prelude.{PrenexFormula, ProofPart, begun, standard, ProofStep}
use Rattle.q_shares.specs.Shares.{Share, AreMade, count}
use Rattle.q_shares.specs.HintedShares.{AreHintedMade}
use Rattle.q_log.specs.declared.error.LogError.{LogError}
use Rattle.q_log.specs.declared.error.LogError.TheVariants as log
use Rattle.q_hinted.specs.Logs.{Entry as BothEntry, Entries, behind, onto, stopped, finished, read_entries, hinted_in}
use Rattle.q_hinted.specs.Reading.{BothState, to_come}
use Rattle.q_hinted.specs.Reading as reading
use Rattle.q_judge.specs.declared.error.CheckError.{CheckError}
use Rattle.q_judge.specs.declared.error.CheckError.TheVariants as check
use Rattle.q_check.specs.Checked.{Checked}
use Rattle.q_check.specs.HintChecks.{HintChecked}
use Rattle.q_command.specs.Logs.{Entry, HintedEntry, steps_of, hinted_of, IsOffence}
use Rattle.q_command.specs.Parts.{IsRefusedShared, share_of}
use Rattle.q_command.specs.Judging.{AreBehind, IsBehindPlain, IsBehindHinted, IsRefusedBehind, IsTurn, bare, plain_in}
use Rattle.q_command.specs.LazyCheckers.{hints_taken}
use Rattle.q_command.specs.Refusals.{log_refused, step_refused}
use Rattle.q_command.specs.Trials.{AreLike, IsBehind, HasTried, Convicts, ConvictsBehind, MayPass}
use Rattle.q_command.specs.Audits.{IsOpen, Stands, SameCharge, Advances, Stops, Refuses, HasTaken, HasEnded}
use Rattle.q_command.specs.declared.audit.Audit.{Audit}
use Rattle.q_command.specs.declared.judges.Judges.{Judges}
use Rattle.q_command.specs.declared.part.Part.{Part}
use Rattle.q_command.specs.declared.trial.Trial.{Trial}
use Rattle.q_command.specs.declared.outcome.Outcome.{Outcome}
use Rattle.q_command.specs.declared.outcome.Outcome.TheVariants.{Verified, RefusedLine, RefusedEnd, RefusedInput, ReadFault, NoMemory}
use Rattle.q_command.proofs.LogEntries.{bare-append, length-bare, plain-number, hinted-number, steps_of-append, steps_of-length}
use Rattle.q_command.proofs.SharedSteps.{count-more}
use Rattle.q_command.proofs.WholeLogs.{refused-at, offends-at, says-like}

pub leads-none : (o : Option BothEntry) (before now : List ℕ → Entries) → o ≡ None → ((rest : List ℕ) → reading.Leads (Ok o) (before rest) (now rest)) → (rest : List ℕ) → before rest ≡ now rest
leads-none o before now e h = subst (λ x. (rest : List ℕ) → reading.Leads (Ok x) (before rest) (now rest)) e h

pub leads-some : (o : Option BothEntry) (before now : List ℕ → Entries) (e : BothEntry) → o ≡ Some e → ((rest : List ℕ) → reading.Leads (Ok o) (before rest) (now rest)) → (rest : List ℕ) → before rest ≡ onto e (now rest)
leads-some o before now s e h = subst (λ x. (rest : List ℕ) → reading.Leads (Ok x) (before rest) (now rest)) e h

pub ends-none : (o : Option BothEntry) (before : Entries) → o ≡ None → reading.Ends (Ok o) before → before ≡ finished
ends-none o before e h = subst (λ x. reading.Ends (Ok x) before) e h

pub ends-some : (o : Option BothEntry) (before : Entries) (e : BothEntry) → o ≡ Some e → reading.Ends (Ok o) before → before ≡ onto e finished
ends-some o before s e h = subst (λ x. reading.Ends (Ok x) before) e h

behind-behind : (xs ys : List BothEntry) (o : Entries) → behind xs (behind ys o) ≡ behind (xs ++ ys) o
behind-behind xs ys o = ap (λ (es : List BothEntry). let e : Entries = record { entries = es; refused = o.refused } in e) (sym (append_assoc xs ys o.entries))

-- whose turn the next step is
pub is_turn : (j : Share) (es : List BothEntry) (x : Option ProofPart) (t : Bool) (n : ℕ) → AreLike x es → n ≡ length es → t ≡ j n → IsTurn j es x t
is_turn j es None t n like c e = e ∙ ap j (c ∙ sym (plain-number es like))
is_turn j es (Some x) t n like c e = e ∙ ap j (c ∙ sym (hinted-number es like))

-- so many steps were judged
told-more : (j : Share) (es : List BothEntry) (e : BothEntry) (n old new : ℕ) → n ≡ length es → old ≡ count j 0 (steps_of (bare es)) → new ≡ cond (j n) (old + 1) old → new ≡ count j 0 (steps_of (bare (es ++ e ∷ [])))
told-more j es e n old new c o q =
    let b : steps_of (bare (es ++ e ∷ [])) ≡ steps_of (bare es) ++ e.1 ∷ [] = ap steps_of (bare-append es (e ∷ [])) ∙ steps_of-append (bare es) ((e.0, e.1) ∷ []) in
    let l : length (steps_of (bare es)) ≡ length es = steps_of-length (bare es) ∙ length-bare es in
    let i : n ≡ 0 + length (steps_of (bare es)) = omega (arith, l, c) in
    q ∙ (ap (λ (k : ℕ). cond (j n) (k + 1) k) o ∙ (ap (λ (k : ℕ). cond (j k) (count j 0 (steps_of (bare es)) + 1) (count j 0 (steps_of (bare es)))) i
    ∙ (sym (count-more j 0 (steps_of (bare es)) e.1) ∙ ap (count j 0) (sym b))))

-- one step more on trial
pub tried-more : (F : PrenexFormula) (old new : Trial) (e : BothEntry) (es : List BothEntry) → HasTried e old new → AreLike e.2 es → IsBehind F old es → IsBehind F new (es ++ e ∷ [])
tried-more F old new e es t like b =
    record {
      judged = subst (λ (p : Part). AreBehind (share_of p) F new.judges (es ++ e ∷ [])) (sym t.part) (t.behind F es like b);
      counted = omega (arith, t.added.count, b.counted, length-append es (e ∷ []));
      told = subst (λ (p : Part). new.taken.judged ≡ count (share_of p) 0 (steps_of (bare (es ++ e ∷ [])))) (sym t.part)
          (told-more (share_of old.part) es e old.taken.count old.taken.judged new.taken.judged b.counted b.told t.added.judged);
      kept = λ k.
          let was : old.taken.keeps ≡ true = sym t.added.keeps ∙ k in
          t.added.steps was ∙ (ap (λ (ps : List Entry). ps ++ (e.0, e.1) ∷ []) (b.kept was) ∙ sym (bare-append es (e ∷ [])));
    }

same_charge : (old new : Trial) (e : BothEntry) → HasTried e old new → SameCharge old new
same_charge old new e t = record { part = t.part; task = t.same; keeps = t.added.keeps }

-- steps may still be passed
may_still : (old new : Trial) (e : BothEntry) → HasTried e old new → MayPass old → MayPass new
may_still old new e t may k f = t.free (may k (subst (λ (p : Part). share_of p k ≡ false) t.part f))

still_fewer : (b : Bool) (n k m l : ℕ) → n ≤ k → l ≡ k + 1 → m ≡ cond b (n + 1) n → m ≤ l
still_fewer true n k m l h q e = omega (arith, h, q, e)
still_fewer false n k m l h q e = omega (arith, h, q, e)

went_on : (old new : Audit) (bytes : List ℕ) (e : BothEntry) → IsOpen old → 0 < length bytes → HasTried e old.trial new.trial → new.reader.left + length bytes ≡ old.reader.left → IsOpen new
went_on old new bytes e o some t left = record {
  room = omega (arith, o.room, t.added.count, left, some);
  hints = omega (arith, o.hints, t.added.count, t.hints);
  fewer = still_fewer (share_of old.trial.part old.trial.taken.count) old.trial.taken.judged old.trial.taken.count new.trial.taken.judged new.trial.taken.count o.fewer t.added.count t.added.judged;
  may = may_still old.trial new.trial e t o.may;
}

pub advances_begin : (a : Audit) → IsOpen a → Advances a a []
advances_begin a o = record {
  stands = λ F front s. subst (λ (xs : List ℕ). Stands F a xs) (sym (append-nil front)) s;
  same = record { part = refl; task = record { keeps = refl }; keeps = refl };
  left = omega arith;
  goes_on = o;
}

-- bytes that end no step
pub advances_nothing : (old new : Audit) (bytes : List ℕ) → IsOpen old → new.trial ≡ old.trial → ((rest : List ℕ) → to_come old.reader (bytes ++ rest) ≡ to_come new.reader rest) → new.reader.left + length bytes ≡ old.reader.left → Advances old new bytes
advances_nothing old new bytes o same next left =
    let taken : new.trial.taken.count ≡ old.trial.taken.count = ap (λ (t : Trial). t.taken.count) same in
    let hints : hints_taken new.trial.judges.hinted ≡ hints_taken old.trial.judges.hinted = ap (λ (t : Trial). hints_taken t.judges.hinted) same in
    record {
      stands = λ F front s. record {
        entries = s.entries;
        log = λ rest. ap (read_entries standard.bytes) (append_assoc front bytes rest) ∙ (s.log (bytes ++ rest) ∙ ap (behind s.entries) (next rest));
        steps = subst (λ (t : Trial). IsBehind F t s.entries) (sym same) s.steps;
      };
      same = record {
        part = ap (λ (t : Trial). t.part) same;
        task = record { keeps = ap (λ (t : Trial). t.judges.keeps_undo) same };
        keeps = ap (λ (t : Trial). t.taken.keeps) same;
      };
      left = left;
      goes_on = record {
        room = omega (arith, o.room, taken, left);
        hints = omega (arith, o.hints, taken, hints);
        fewer = subst (λ (t : Trial). t.taken.judged ≤ t.taken.count) (sym same) o.fewer;
        may = subst (λ (t : Trial). MayPass t) (sym same) o.may;
      };
    }

-- the steps before one that is read are of its profile
like_log : (text : List ℕ) (es : List BothEntry) (e : BothEntry) (o : Entries) → read_entries standard.bytes text ≡ behind es (onto e o) → AreLike e.2 es
like_log text es e o h = says-like text es e.0 e.1 e.2 o.entries o.refused h

-- bytes that end a valid step
pub advances_step : (old new : Audit) (bytes : List ℕ) (e : BothEntry) → IsOpen old → 0 < length bytes → HasTried e old.trial new.trial → ((rest : List ℕ) → to_come old.reader (bytes ++ rest) ≡ onto e (to_come new.reader rest)) → new.reader.left + length bytes ≡ old.reader.left → Advances old new bytes
advances_step old new bytes e o some t next left =
    record {
      stands = λ F front s. record {
        entries = s.entries ++ e ∷ [];
        log = λ rest. ap (read_entries standard.bytes) (append_assoc front bytes rest) ∙ (s.log (bytes ++ rest) ∙ (ap (behind s.entries) (next rest) ∙ behind-behind s.entries (e ∷ []) (to_come new.reader rest)));
        steps = tried-more F old.trial new.trial e s.entries t
            (like_log (front ++ (bytes ++ [])) s.entries e (to_come new.reader []) (s.log (bytes ++ []) ∙ ap (behind s.entries) (next []))) s.steps;
      };
      same = same_charge old.trial new.trial e t;
      left = left;
      goes_on = went_on old new bytes e o some t left;
    }

-- so many bytes at the front of a piece are left out
pub left-over : (left new n : ℕ) (piece : List ℕ) → n ≤ length piece → new + n ≡ left → new + length (take n piece) ≡ left
left-over left new n piece h e = let l : length (take n piece) ≡ n = length-take-le n piece h in omega (arith, l, e)

-- a front of a piece, and what follows
pub front-of : (n : ℕ) (piece rest : List ℕ) → take n piece ++ (drop n piece ++ rest) ≡ piece ++ rest
front-of n piece rest = sym (append_assoc (take n piece) (drop n piece) rest) ∙ ap (λ xs. xs ++ rest) (take-append-drop n piece)

-- the front of a piece was read, and no step ended in it, or one
pub advances_passed : (old : Audit) (r : BothState) (piece : List ℕ) (n : ℕ) (o : Option BothEntry) → IsOpen old → o ≡ None → ((rest : List ℕ) → reading.Leads (Ok o) (to_come old.reader (take n piece ++ rest)) (to_come r rest)) → r.left + n ≡ old.reader.left → (0 < n) × (n ≤ length piece) → Advances old (record { reader = r; trial = old.trial }) (take n piece)
advances_passed old r piece n o open-now q h left w =
    advances_nothing old (record { reader = r; trial = old.trial }) (take n piece) open-now refl
    (leads-none o (λ rest. to_come old.reader (take n piece ++ rest)) (λ rest. to_come r rest) q h) (left-over old.reader.left r.left n piece w.1 left)

pub advances_taken : (old : Audit) (r : BothState) (t : Trial) (piece : List ℕ) (n : ℕ) (o : Option BothEntry) (e : BothEntry) → IsOpen old → HasTried e old.trial t → o ≡ Some e → ((rest : List ℕ) → reading.Leads (Ok o) (to_come old.reader (take n piece ++ rest)) (to_come r rest)) → r.left + n ≡ old.reader.left → (0 < n) × (n ≤ length piece) → Advances old (record { reader = r; trial = t }) (take n piece)
advances_taken old r t piece n o e open-now tried q h left w =
    let l : length (take n piece) ≡ n = length-take-le n piece w.1 in
    let some : 0 < length (take n piece) = omega (arith, l, w.0) in
    advances_step old (record { reader = r; trial = t }) (take n piece) e open-now some tried
    (leads-some o (λ rest. to_come old.reader (take n piece ++ rest)) (λ rest. to_come r rest) e q h) (left-over old.reader.left r.left n piece w.1 left)

pub advances_more : (a b c : Audit) (xs ys : List ℕ) → Advances a b xs → Advances b c ys → Advances a c (xs ++ ys)
advances_more a b c xs ys f g =
    record {
      stands = λ F front s. subst (λ (zs : List ℕ). Stands F c zs) (append_assoc front xs ys) (g.stands F (front ++ xs) (f.stands F front s));
      same = record {
        part = g.same.part ∙ f.same.part;
        task = record { keeps = g.same.task.keeps ∙ f.same.task.keeps };
        keeps = g.same.keeps ∙ f.same.keeps;
      };
      left = omega (arith, f.left, g.left, length-append xs ys);
      goes_on = g.goes_on;
    }

-- bytes behind bytes
pub advances_through : (a b c : Audit) → ((bytes : List ℕ) × Advances a b bytes) → ((bytes : List ℕ) × Advances b c bytes) → (bytes : List ℕ) × Advances a c bytes
advances_through a b c f g = (f.0 ++ g.0, advances_more a b c f.0 g.0 f.1 g.1)

-- what is left of a piece
pub whole-rest : (piece : List ℕ) (at : ℕ) → take (length piece - at) (drop at piece) ≡ drop at piece
whole-rest piece at = subst (λ k. take k (drop at piece) ≡ drop at piece) (length-drop at piece) (take-length (drop at piece))

-- what is refused
pub convicted : (j : Share) (w : Outcome) (F : PrenexFormula) (es : List BothEntry) (n : ℕ) (s : ProofStep) (x : Option ProofPart) (e : CheckError) → w ≡ step_refused n e → IsRefusedBehind j F es s x e → Convicts j w F es (n, s, x)
convicted j w F es n s None (check.Refused c) q h = subst (λ (o : Outcome). Convicts j o F es (n, s, None)) (sym q) (refl, h)
convicted j w F es n s (Some t) (check.Refused c) q h = subst (λ (o : Outcome). Convicts j o F es (n, s, Some t)) (sym q) (refl, h)
convicted j w F es n s x check.NoMemory q h = subst (λ (o : Outcome). Convicts j o F es (n, s, x)) (sym q) tt

pub stops_convict : (j : Share) (w : Outcome) (F : PrenexFormula) (log : List ℕ) (es : List BothEntry) (e : BothEntry) (o : Entries) → Convicts j w F es e → read_entries standard.bytes log ≡ behind es (onto e o) → Stops j w F log
stops_convict j (Verified n) F log es e o h r = h
stops_convict j (RefusedLine n c) F log es e o h r = subst (λ (k : ℕ). IsRefusedShared j F log k c) (sym h.0) (refused-at j F log es e.0 e.1 e.2 o.entries o.refused c r h.1)
stops_convict j (RefusedEnd c) F log es e o h r = h
stops_convict j (RefusedInput r n c) F log es e o h q = h
stops_convict j ReadFault F log es e o h r = tt
stops_convict j NoMemory F log es e o h r = tt

refuses_step : (a : Audit) (bytes : List ℕ) (w : Outcome) (e : BothEntry) (o : Entries) → ConvictsBehind w a.trial e → to_come a.reader bytes ≡ onto e o → Refuses w a bytes
refuses_step a bytes w e o h next F front s =
    let r : read_entries standard.bytes (front ++ bytes) ≡ behind s.entries (onto e o) = s.log bytes ∙ ap (behind s.entries) next in
    stops_convict (share_of a.trial.part) w F (front ++ bytes) s.entries e o (h F s.entries (like_log (front ++ bytes) s.entries e o r) s.steps) r

-- behind the steps stands a formula
plain-stand : (keep : Bool) (j : Share) (F : PrenexFormula) (ps : List Entry) (c : Option Checked) → IsBehindPlain keep j F ps c → AreMade j standard 0 F (steps_of ps)
plain-stand keep j F ps None h = subst (λ (xs : List Entry). AreMade j standard 0 F (steps_of xs)) (sym h) tt
plain-stand keep j F ps (Some c) h = h.leads.steps

hinted-stand : (keep : Bool) (j : Share) (F : PrenexFormula) (hs : List HintedEntry) (c : Option HintChecked) → IsBehindHinted keep j F hs c → AreHintedMade j standard 0 (begun F) (hinted_of hs)
hinted-stand keep j F hs None h = subst (λ (xs : List HintedEntry). AreHintedMade j standard 0 (begun F) (hinted_of xs)) (sym h) tt
hinted-stand keep j F hs (Some c) h = h.steps

offends : (d : Share) (F : PrenexFormula) (j : Judges) (log : List ℕ) (es : List BothEntry) (e : LogError) (n c : ℕ) → read_entries standard.bytes log ≡ behind es (stopped e) → AreBehind d F j es → IsOffence (Some e) n c → IsRefusedShared d F log n c
offends d F j log es e n c r b o =
    let p = plain-stand j.keeps_undo d F (plain_in es) j.plain b.plain in
    let h = hinted-stand j.keeps_undo d F (hinted_in es) j.hinted b.hinted in
    let same : behind es (stopped e) ≡ record { entries = es; refused = Some e } = ap (λ (xs : List BothEntry). let x : Entries = record { entries = xs; refused = Some e } in x) (append-nil es) in
    offends-at d F log es (Some e) n c (r ∙ same) p h o

pub stops_offence : (d : Share) (F : PrenexFormula) (w : Outcome) (j : Judges) (text : List ℕ) (es : List BothEntry) (e : LogError) → w ≡ log_refused e → AreBehind d F j es → (¬ (e ≡ log.NoMemory) → read_entries standard.bytes text ≡ behind es (stopped e)) → Stops d w F text
stops_offence d F w j text es (log.BadLine n) q b r = subst (λ (x : Outcome). Stops d x F text) (sym q) (offends d F j text es (log.BadLine n) n 1 (r (λ x. cc)) b (refl, refl))
stops_offence d F w j text es (log.Limit n) q b r = subst (λ (x : Outcome). Stops d x F text) (sym q) (offends d F j text es (log.Limit n) n 8 (r (λ x. cc)) b (refl, refl))
stops_offence d F w j text es log.NoMemory q b r = subst (λ (x : Outcome). Stops d x F text) (sym q) tt

-- the reader's answer to a byte
answered : (e : LogError) (before now : Entries) → reading.Leads (Err e) before now → ¬ (e ≡ log.NoMemory) → before ≡ stopped e
answered (log.BadLine n) before now h k = h.0
answered (log.Limit n) before now h k = h.0
answered log.NoMemory before now h k = absurd (k refl)

pub refuses_offence : (a : Audit) (new : BothState) (piece : List ℕ) (e : LogError) (w : Outcome) → w ≡ log_refused e → reading.Passes (Err e) a.reader new piece → (rest : List ℕ) → Refuses w a (piece ++ rest)
refuses_offence a new piece e w q (n, h) rest F front s =
    let all : take n piece ++ (drop n piece ++ rest) ≡ piece ++ rest = front-of n piece rest in
    subst (λ (xs : List ℕ). Stops (share_of a.trial.part) w F (front ++ xs)) all
    (stops_offence (share_of a.trial.part) F w a.trial.judges (front ++ (take n piece ++ (drop n piece ++ rest))) s.entries e q s.steps.judged
    (λ k. s.log (take n piece ++ (drop n piece ++ rest)) ∙ ap (behind s.entries) (answered e (to_come a.reader (take n piece ++ (drop n piece ++ rest))) (to_come new (drop n piece ++ rest)) (h (drop n piece ++ rest)) k)))

-- a step that the front of a piece makes whole
pub refuses_piece : (a : Audit) (piece : List ℕ) (n : ℕ) (w : Outcome) (e : BothEntry) (now : List ℕ → Entries) → ConvictsBehind w a.trial e → ((rest : List ℕ) → to_come a.reader (take n piece ++ rest) ≡ onto e (now rest)) → (rest : List ℕ) → Refuses w a (piece ++ rest)
refuses_piece a piece n w e now h next rest =
    subst (λ (xs : List ℕ). Refuses w a xs) (front-of n piece rest) (refuses_step a (take n piece ++ (drop n piece ++ rest)) w e (now (drop n piece ++ rest)) h (next (drop n piece ++ rest)))

pub refuses_last : (a : Audit) (w : Outcome) (e : BothEntry) → ConvictsBehind w a.trial e → to_come a.reader [] ≡ onto e finished → Refuses w a []
refuses_last a w e h next = refuses_step a [] w e finished h next

-- and to the end
ended-by : (e : LogError) (before : Entries) → reading.Ends (Err e) before → ¬ (e ≡ log.NoMemory) → before ≡ stopped e
ended-by (log.BadLine n) before h k = h
ended-by (log.Limit n) before h k = h
ended-by log.NoMemory before h k = absurd (k refl)

pub refuses_end : (a : Audit) (e : LogError) (w : Outcome) → w ≡ log_refused e → reading.Ends (Err e) (to_come a.reader []) → Refuses w a []
refuses_end a e w q h F front s =
    stops_offence (share_of a.trial.part) F w a.trial.judges (front ++ []) s.entries e q s.steps.judged
    (λ k. s.log [] ∙ ap (behind s.entries) (ended-by e (to_come a.reader []) h k))

-- a refusal within bytes that follow others
refuses_later : (a b : Audit) (xs ys : List ℕ) (w : Outcome) → Advances a b xs → Refuses w b ys → Refuses w a (xs ++ ys)
refuses_later a b xs ys w f r F front s =
    subst (λ (p : Part). Stops (share_of p) w F (front ++ (xs ++ ys))) f.same.part
    (subst (λ (zs : List ℕ). Stops (share_of b.trial.part) w F zs) (append_assoc front xs ys) (r F (front ++ xs) (f.stands F front s)))

-- bytes of a piece are refused, behind the bytes before them
pub refuses_from : (a b : Audit) (piece : List ℕ) (i : ℕ) (w : Outcome) → Advances a b (take i piece) → ((rest : List ℕ) → Refuses w b (drop i piece ++ rest)) → (rest : List ℕ) → Refuses w a (piece ++ rest)
refuses_from a b piece i w f r rest = subst (λ xs. Refuses w a xs) (front-of i piece rest) (refuses_later a b (take i piece) (drop i piece ++ rest) w f (r rest))

-- more bytes of a piece
pub advances_further : (a b c : Audit) (piece : List ℕ) (i n : ℕ) → Advances a b (take i piece) → Advances b c (take n (drop i piece)) → Advances a c (take (i + n) piece)
advances_further a b c piece i n f g = subst (λ xs. Advances a c xs) (sym (take-add i n piece)) (advances_more a b c (take i piece) (take n (drop i piece)) f g)

-- a refusal within a piece of the file is that of all its rest
pub refuses_file : (a : Audit) (file : List ℕ) (place n : ℕ) (piece : List ℕ) (w : Outcome) → piece ≡ take n (drop place file) → ((rest : List ℕ) → Refuses w a (piece ++ rest)) → Refuses w a (drop place file)
refuses_file a file place n piece w e r =
    subst (λ xs. Refuses w a xs) (ap (λ xs. xs ++ drop n (drop place file)) e ∙ take-append-drop n (drop place file)) (r (drop n (drop place file)))

-- the audit stands behind the front of a file
pub record HasReached (file : List ℕ) (place : ℕ) (first now : Audit) : Type 0 where
  pub front : Advances first now (take place file)
  pub within : place ≤ length file

pub tries_begin : (file : List ℕ) (a : Audit) → IsOpen a → HasReached file 0 a a
tries_begin file a o = record { front = advances_begin a o; within = omega arith }

pub tries_more : (file : List ℕ) (place n : ℕ) (first old new : Audit) → HasReached file place first old → HasTaken file place n old new → HasReached file (place + n) first new
tries_more file place n first old new f p =
    let len : length (drop place file) ≡ length file - place = length-drop place file in
    record {
      front = subst (λ xs. Advances first new xs) (sym (take-add place n file)) (advances_more first old new (take place file) (take n (drop place file)) f.front p.piece);
      within = omega (arith, len, p.left, f.within);
    }

-- at the end of the file
pub tries_end : (file : List ℕ) (place n : ℕ) (first old new : Audit) → n ≡ 0 → HasReached file place first old → HasTaken file place n old new → Advances first new file
tries_end file place n first old new z f p =
    let g : HasReached file (place + n) first new = tries_more file place n first old new f p in
    let all : place + n ≡ length file = omega (arith, p.end z, f.within, z) in
    subst (λ xs. Advances first new xs) (ap (λ k. take k file) all ∙ take-length file) g.front

pub refuses_whole : (file : List ℕ) (place : ℕ) (first old : Audit) (w : Outcome) → HasReached file place first old → Refuses w old (drop place file) → Refuses w first file
refuses_whole file place first old w f r = subst (λ xs. Refuses w first xs) (take-append-drop place file) (refuses_later first old (take place file) (drop place file) w f.front r)

-- the log ends without a step more, or with one
pub ended_now : (a : Audit) → to_come a.reader [] ≡ finished → HasEnded a a.trial
ended_now a e = record {
  all = λ F log s. record {
    entries = s.entries;
    is_log = ap (read_entries standard.bytes) (sym (append-nil log)) ∙ (s.log [] ∙ (ap (behind s.entries) e ∙ ap (λ (xs : List BothEntry). let x : Entries = record { entries = xs; refused = None } in x) (append-nil s.entries)));
    steps = s.steps;
  };
  same = record { part = refl; task = record { keeps = refl }; keeps = refl };
}

pub ended_step : (a : Audit) (t : Trial) (e : BothEntry) → HasTried e a.trial t → to_come a.reader [] ≡ onto e finished → HasEnded a t
ended_step a t e h r = record {
  all = λ F log s. record {
    entries = s.entries ++ e ∷ [];
    is_log = ap (read_entries standard.bytes) (sym (append-nil log)) ∙ (s.log [] ∙ ap (behind s.entries) r);
    steps = tried-more F a.trial t e s.entries h (like_log (log ++ []) s.entries e finished (s.log [] ∙ ap (behind s.entries) r)) s.steps;
  };
  same = same_charge a.trial t e h;
}
