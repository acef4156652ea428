-- A proof that is read in pieces.
use Rattle.std.proofs.Common.{◌≡◌, ◌≤◌, ◌<◌, ◌+◌, ◌-◌, ◌∙◌, refl, sym, ap, subst, arith, ℕ, List, [], ◌∷◌, ◌++◌, length, take, drop, Option, Some, None, Result, Ok, Err, inl, inr, append-nil, append_assoc, length-append, length-drop}
use Rattle.std.proofs.lemmas.List.{take-append-drop, length-take-le}
use Rattle.std.proofs.Math.Seq.{take-add, take-length}
use Rattle.q_log.specs.declared.error.LogError.{LogError}
use Rattle.q_log.specs.declared.error.LogError.TheVariants as log
use Rattle.q_hinted.specs.Logs.{Entry as BothEntry, Entries, behind, onto, finished}
use Rattle.q_hinted.specs.Reading as reading
use Rattle.q_binary.specs.Forms.{ProofState, IsStop, left_of, to_come}
use Rattle.q_binary.specs.Forms as forms
use Rattle.q_command.proofs.AuditSteps.{front-of, left-over}
use Rattle.q_run_disprove.specs.Disproofs.{entries_in}
use Rattle.q_run_disprove.specs.Judges.{EndsBy, FailsAt, GoesOn, IsJudging, steps_in}
use Rattle.q_run_disprove.specs.JudgedReadings.{Advances, AreJudged, Concludes, HasTaken, IsOpen, SaysOfBytes, Stands, Tells}
use Rattle.q_run_disprove.specs.Readings.{log_refused}
use Rattle.q_run_disprove.specs.declared.disproved.Disproved.TheVariants as outcome
use Rattle.q_run_disprove.specs.declared.judge.Judge.{Judge}
use Rattle.q_run_disprove.specs.declared.reading.Reading.{Reading}
use Rattle.q_run_disprove.specs.declared.verdict.Verdict.{Verdict}
use Rattle.q_run_disprove.proofs.JudgedSteps.{end-judged, fails-judged, goes-judged, goes-judging, goes-steps, goes-told, memory-judged, offence-judged, still-ends}

pub leads-none : (o : Option BothEntry) (before now : List ℕ → Entries) → o ≡ None → ((rest : List ℕ) → reading.Leads (Ok o) (before rest) (now rest)) → (rest : List ℕ) → before rest ≡ now rest
leads-none o before now e h = subst (λ x. (rest : List ℕ) → reading.Leads (Ok x) (before rest) (now rest)) e h

pub leads-some : (o : Option BothEntry) (before now : List ℕ → Entries) (e : BothEntry) → o ≡ Some e → ((rest : List ℕ) → reading.Leads (Ok o) (before rest) (now rest)) → (rest : List ℕ) → before rest ≡ onto e (now rest)
leads-some o before now s e h = subst (λ x. (rest : List ℕ) → reading.Leads (Ok x) (before rest) (now rest)) e h

behind-behind : (xs ys : List BothEntry) (o : Entries) → behind xs (behind ys o) ≡ behind (xs ++ ys) o
behind-behind xs ys o = ap (λ (es : List BothEntry). let e : Entries = record { entries = es; refused = o.refused } in e) (sym (append_assoc xs ys o.entries))

pub advances_begin : (a : Reading) → IsOpen a → Advances a a []
advances_begin a o = record {
  stands = λ b j F front s. subst (λ (xs : List ℕ). Stands b j F a xs) (sym (append-nil front)) s;
  left = omega arith;
  goes_on = o;
}

-- bytes that end no step
advances_nothing : (old new : Reading) (bytes : List ℕ) → IsOpen old → new.judge ≡ old.judge → ((rest : List ℕ) → to_come old.reader (bytes ++ rest) ≡ to_come new.reader rest) → left_of new.reader + length bytes ≡ left_of old.reader → Advances old new bytes
advances_nothing old new bytes o same next left =
    let count : steps_in new.judge ≡ steps_in old.judge = ap steps_in same in
    record {
      stands = λ b j F front s. record {
        entries = s.entries;
        proof = λ rest. ap (entries_in b.binary) (append_assoc front bytes rest) ∙ (s.proof (bytes ++ rest) ∙ ap (behind s.entries) (next rest));
        so_far = subst (λ (x : Judge). AreJudged b j F s.entries x) (sym same) s.so_far;
      };
      left = left;
      goes_on = record {
        judging = subst (λ (x : Judge). IsJudging x) (sym same) o.judging;
        room = omega (arith, o.room, count, left);
      };
    }

-- bytes that end a step
advances_step : (old new : Reading) (bytes : List ℕ) (e : BothEntry) → IsOpen old → 0 < length bytes → GoesOn e old.judge new.judge → ((rest : List ℕ) → to_come old.reader (bytes ++ rest) ≡ onto e (to_come new.reader rest)) → left_of new.reader + length bytes ≡ left_of old.reader → Advances old new bytes
advances_step old new bytes e o some g next left =
    let count : steps_in new.judge ≡ steps_in old.judge + 1 = goes-steps e old.judge new.judge g in
    record {
      stands = λ b j F front x. record {
        entries = x.entries ++ e ∷ [];
        proof = λ rest. ap (entries_in b.binary) (append_assoc front bytes rest) ∙ (x.proof (bytes ++ rest) ∙ (ap (behind x.entries) (next rest) ∙ behind-behind x.entries (e ∷ []) (to_come new.reader rest)));
        so_far = goes-judged b j F e x.entries old.judge new.judge x.so_far o.judging g;
      };
      left = left;
      goes_on = record { judging = goes-judging e old.judge new.judge g; room = omega (arith, o.room, count, left, some) };
    }

-- the front of a piece was read, and no step ended in it, or one
pub advances_passed : (old : Reading) (r : ProofState) (piece : List ℕ) (n : ℕ) (o : Option BothEntry) → IsOpen old → o ≡ None → ((rest : List ℕ) → reading.Leads (Ok o) (to_come old.reader (take n piece ++ rest)) (to_come r rest)) → left_of r + n ≡ left_of old.reader → (0 < n) × (n ≤ length piece) → Advances old (record { reader = r; judge = old.judge }) (take n piece)
advances_passed old r piece n o open-now q h left w =
    advances_nothing old (record { reader = r; judge = old.judge }) (take n piece) open-now refl
    (leads-none o (λ rest. to_come old.reader (take n piece ++ rest)) (λ rest. to_come r rest) q h) (left-over (left_of old.reader) (left_of r) n piece w.1 left)

pub advances_taken : (old : Reading) (r : ProofState) (t : Judge) (piece : List ℕ) (n : ℕ) (o : Option BothEntry) (e : BothEntry) → IsOpen old → GoesOn e old.judge t → o ≡ Some e → ((rest : List ℕ) → reading.Leads (Ok o) (to_come old.reader (take n piece ++ rest)) (to_come r rest)) → left_of r + n ≡ left_of old.reader → (0 < n) × (n ≤ length piece) → Advances old (record { reader = r; judge = t }) (take n piece)
advances_taken old r t piece n o e open-now g q h left w =
    let k : length (take n piece) ≡ n = length-take-le n piece w.1 in
    let some : 0 < length (take n piece) = omega (arith, k, w.0) in
    advances_step old (record { reader = r; judge = t }) (take n piece) e open-now some g
    (leads-some o (λ rest. to_come old.reader (take n piece ++ rest)) (λ rest. to_come r rest) e q h) (left-over (left_of old.reader) (left_of r) n piece w.1 left)

advances_more : (a b c : Reading) (xs ys : List ℕ) → Advances a b xs → Advances b c ys → Advances a c (xs ++ ys)
advances_more a b c xs ys f g = record {
  stands = λ k j F front s. subst (λ (zs : List ℕ). Stands k j F c zs) (append_assoc front xs ys) (g.stands k j F (front ++ xs) (f.stands k j F front s));
  left = omega (arith, f.left, g.left, length-append xs ys);
  goes_on = g.goes_on;
}

-- more bytes of a piece
pub advances_further : (a b c : Reading) (piece : List ℕ) (i n : ℕ) → Advances a b (take i piece) → Advances b c (take n (drop i piece)) → Advances a c (take (i + n) piece)
advances_further a b c piece i n f g = subst (λ xs. Advances a c xs) (sym (take-add i n piece)) (advances_more a b c (take i piece) (take n (drop i piece)) f g)

-- what a step tells of all bytes behind those that are read
tells_step : (a : Reading) (bytes : List ℕ) (w : Verdict) (e : BothEntry) (o : Entries) → IsOpen a → FailsAt w e a.judge → to_come a.reader bytes ≡ onto e o → Tells w a bytes
tells_step a bytes w e o open-now h next b j F front s =
    fails-judged b j F (front ++ bytes) w s.entries a.judge e o s.so_far open-now.judging h (s.proof bytes ∙ ap (behind s.entries) next)

-- a step that the front of a piece makes whole
pub tells_piece : (a : Reading) (piece : List ℕ) (n : ℕ) (w : Verdict) (e : BothEntry) (now : List ℕ → Entries) → IsOpen a → FailsAt w e a.judge → ((rest : List ℕ) → to_come a.reader (take n piece ++ rest) ≡ onto e (now rest)) → (rest : List ℕ) → Tells w a (piece ++ rest)
tells_piece a piece n w e now open-now h next rest =
    subst (λ (xs : List ℕ). Tells w a xs) (front-of n piece rest) (tells_step a (take n piece ++ (drop n piece ++ rest)) w e (now (drop n piece ++ rest)) open-now h (next (drop n piece ++ rest)))

-- what a line that is no step tells
tells_stop : (a : Reading) (bytes : List ℕ) (w : Verdict) (x : LogError) → IsOpen a → EndsBy (log_refused x) w a.judge → IsStop x (to_come a.reader bytes) → Tells w a bytes
tells_stop a bytes w (log.BadLine n) open-now q h b j F front s =
    offence-judged b j F (front ++ bytes) w s.entries a.judge (log.BadLine n) s.so_far open-now.judging q (s.proof bytes ∙ ap (behind s.entries) h)
tells_stop a bytes w (log.Limit n) open-now q h b j F front s =
    offence-judged b j F (front ++ bytes) w s.entries a.judge (log.Limit n) s.so_far open-now.judging q (s.proof bytes ∙ ap (behind s.entries) h)
tells_stop a bytes w log.NoMemory open-now q h b j F front s = memory-judged b j F (front ++ bytes) w s.entries a.judge s.so_far q

pub tells_offence : (a : Reading) (new : ProofState) (piece : List ℕ) (x : LogError) (w : Verdict) → IsOpen a → EndsBy (log_refused x) w a.judge → forms.Passes (Err x) a.reader new piece → (rest : List ℕ) → Tells w a (piece ++ rest)
tells_offence a new piece x w open-now q h rest = tells_stop a (piece ++ rest) w x open-now q (h rest)

stop-at-end : (x : LogError) (before : Entries) → reading.Ends (Err x) before → IsStop x before
stop-at-end (log.BadLine n) before h = h
stop-at-end (log.Limit n) before h = h
stop-at-end log.NoMemory before h = tt

-- the proof ends without a step more, or with one
tells_end : (a : Reading) (w : Verdict) → IsOpen a → EndsBy outcome.RefusedEnd w a.judge → to_come a.reader [] ≡ finished → Tells w a []
tells_end a w open-now q e b j F front s =
    end-judged b j F (front ++ []) w s.entries a.judge s.so_far open-now.judging q (s.proof [] ∙ ap (behind s.entries) e)

tells_end_step : (a : Reading) (t : Judge) (w : Verdict) (e : BothEntry) → IsOpen a → w.outcome ≡ outcome.RefusedEnd → GoesOn e a.judge t →
    to_come a.reader [] ≡ onto e finished → Tells w a []
tells_end_step a t w e open-now q g r b j F front s =
    let more : AreJudged b j F (s.entries ++ e ∷ []) t = goes-judged b j F e s.entries a.judge t s.so_far open-now.judging g in
    still-ends b j F (front ++ []) w (s.entries ++ e ∷ []) t more (goes-judging e a.judge t g) q
    (s.proof [] ∙ (ap (behind s.entries) r ∙ behind-behind s.entries (e ∷ []) finished)) (goes-told e a.judge t g)

pub tells_conclusion : (a : Reading) (r : Result (Option BothEntry) LogError) (w : Verdict) → IsOpen a → reading.Ends r (to_come a.reader []) → Concludes r a.judge w → Tells w a []
tells_conclusion a (Ok None) w o h c = tells_end a w o c h
tells_conclusion a (Ok (Some e)) w o h (inl c) = tells_step a [] w e finished o c h
tells_conclusion a (Ok (Some e)) w o h (inr (c, (t, g))) = tells_end_step a t w e o c g h
tells_conclusion a (Err x) w o h c = tells_stop a [] w x o c (stop-at-end x (to_come a.reader []) h)

-- what is told of bytes that follow others
tells_later : (a b : Reading) (xs ys : List ℕ) (w : Verdict) → Advances a b xs → Tells w b ys → Tells w a (xs ++ ys)
tells_later a b xs ys w f r k j F front s =
    subst (λ (zs : List ℕ). SaysOfBytes k j w F zs) (append_assoc front xs ys) (r k j F (front ++ xs) (f.stands k j F front s))

pub tells_from : (a b : Reading) (piece : List ℕ) (i : ℕ) (w : Verdict) → Advances a b (take i piece) → ((rest : List ℕ) → Tells w b (drop i piece ++ rest)) → (rest : List ℕ) → Tells w a (piece ++ rest)
tells_from a b piece i w f r rest = subst (λ xs. Tells w a xs) (front-of i piece rest) (tells_later a b (take i piece) (drop i piece ++ rest) w f (r rest))

pub tells_file : (a : Reading) (file : List ℕ) (place n : ℕ) (piece : List ℕ) (w : Verdict) → piece ≡ take n (drop place file) → ((rest : List ℕ) → Tells w a (piece ++ rest)) → Tells w a (drop place file)
tells_file a file place n piece w e r =
    subst (λ xs. Tells w a xs) (ap (λ xs. xs ++ drop n (drop place file)) e ∙ take-append-drop n (drop place file)) (r (drop n (drop place file)))

-- the reading stands behind the front of a file
pub record HasReached (file : List ℕ) (place : ℕ) (first now : Reading) : Type 0 where
  pub front : Advances first now (take place file)
  pub within : place ≤ length file

pub tries_begin : (file : List ℕ) (a : Reading) → IsOpen a → HasReached file 0 a a
tries_begin file a o = record { front = advances_begin a o; within = omega arith }

pub tries_more : (file : List ℕ) (place n : ℕ) (first old new : Reading) → HasReached file place first old → HasTaken file place n old new → HasReached file (place + n) first new
tries_more file place n first old new f p =
    let len : length (drop place file) ≡ length file - place = length-drop place file in
    record {
      front = subst (λ xs. Advances first new xs) (sym (take-add place n file)) (advances_more first old new (take place file) (take n (drop place file)) f.front p.piece);
      within = omega (arith, len, p.left, f.within);
    }

tries_end : (file : List ℕ) (place n : ℕ) (first old new : Reading) → n ≡ 0 → HasReached file place first old → HasTaken file place n old new → Advances first new file
tries_end file place n first old new z f p =
    let g : HasReached file (place + n) first new = tries_more file place n first old new f p in
    let all : place + n ≡ length file = omega (arith, p.end z, f.within, z) in
    subst (λ xs. Advances first new xs) (ap (λ k. take k file) all ∙ take-length file) g.front

-- the whole file
pub tells_all : (file : List ℕ) (place n : ℕ) (first old last : Reading) (w : Verdict) → n ≡ 0 → HasReached file place first old → HasTaken file place n old last → Tells w last [] → Tells w first file
tells_all file place n first old last w z f p r =
    subst (λ xs. Tells w first xs) (append-nil file) (tells_later first last file [] w (tries_end file place n first old last z f p) r)

pub tells_whole : (file : List ℕ) (place : ℕ) (first old : Reading) (w : Verdict) → HasReached file place first old → Tells w old (drop place file) → Tells w first file
tells_whole file place first old w f r = subst (λ xs. Tells w first xs) (take-append-drop place file) (tells_later first old (take place file) (drop place file) w f.front r)
