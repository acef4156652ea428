-- A log that is read in pieces, and whose steps are made.
use Rattle.std.proofs.Common.{get_or, ◌≡◌, ◌≤◌, ◌<◌, ◌+◌, ◌-◌, ◌∙◌, refl, sym, ap, subst, arith, ℕ, List, [], ◌∷◌, ◌++◌, length, take, drop, Option, Some, None, Ok, Err, inl, append-nil, append_assoc, length-append, length-drop}
use Rattle.std.proofs.lemmas.List.{take-append-drop}
use Rattle.std.proofs.Math.Seq.{take-add, take-length}
use Rattle.q_logic.specs.Prelude.{PrenexFormula, standard}
use Rattle.q_log.specs.declared.error.LogError.{LogError}
use Rattle.q_log.specs.declared.error.LogError.TheVariants as log
use Rattle.q_log.proofs.LogPieces.{take-one}
use Rattle.q_hinted.specs.Logs.{Entry as BothEntry, Entries, behind, onto, finished, stopped, read_entries}
use Rattle.q_hinted.specs.Reading.{Answers, BothState, start, to_come, transition}
use Rattle.q_hinted.specs.Reading as reading
use Rattle.q_command.specs.Judging.{bare}
use Rattle.q_command.specs.Logs.{Entry, IsOffence}
use Rattle.q_command.proofs.AuditSteps.{front-of}
use Rattle.q_command.proofs.LogEntries.{bare-append, steps_of-length}
use Rattle.q_run_apply.specs.Applications.{EndsAt, IsFirstUnfit, IsRefusedAt, entries_in, offence_in}
use Rattle.q_run_apply.specs.Readings.{Advances, Convicts, Goes, HasTaken, IsMade, IsOpen, IsSoFar, IsStarted, Leaves, LogRefuses, Refuses, Stands, log_refused}
use Rattle.q_run_apply.specs.declared.applied.Applied.{Applied}
use Rattle.q_run_apply.specs.declared.applied.Applied.TheVariants as outcome
use Rattle.q_run_apply.specs.declared.maker.Maker.{Maker}
use Rattle.q_run_apply.specs.declared.reading.Made.{Made}
use Rattle.q_run_apply.specs.declared.reading.Reading.{Reading}
use Rattle.q_run_apply.proofs.MadeSteps.{goes-on, unfit-there, unfit-behind}
use Rattle.q_run_apply.proofs.WordsRead.{end-limit, end-words, goes-open, goes-words, stops-words}

behind-behind : (xs ys : List BothEntry) (o : Entries) → behind xs (behind ys o) ≡ behind (xs ++ ys) o
behind-behind xs ys o = ap (λ (es : List BothEntry). let e : Entries = record { entries = es; refused = o.refused } in e) (sym (append_assoc xs ys o.entries))

pub advances_begin : (a : Reading) → IsOpen a → Advances a a []
advances_begin a o = record {
  stands = λ F front s. subst (λ (xs : List ℕ). Stands F a xs) (sym (append-nil front)) s;
  left = omega arith;
  goes_on = o;
}

-- a byte that ends no step
pub advances_silent : (old : Reading) (r : BothState) (b : ℕ) → IsOpen old → Answers (Ok None) r (transition old.reader b) → ((rest : List ℕ) → reading.Leads (Ok None) (to_come old.reader (b ∷ rest)) (to_come r rest)) → Advances old (record { reader = r; maker = old.maker }) (b ∷ [])
advances_silent old r b o t next =
    let w : (r.refused ≡ None) × (r.left + 1 ≡ old.reader.left) = goes-open old.reader r b None o.unrefused t in
    record {
      stands = λ F front s. record {
        entries = s.entries;
        log = λ rest. ap (read_entries standard.bytes) (append_assoc front (b ∷ []) rest) ∙ (s.log (b ∷ rest) ∙ ap (behind s.entries) (next rest));
        offence = λ rest. ap offence_in (append_assoc front (b ∷ []) rest) ∙ (s.offence (b ∷ rest) ∙ goes-words old.reader r b None rest t);
        so_far = s.so_far;
      };
      left = w.1;
      goes_on = record { under_way = o.under_way; unrefused = w.0; room = omega (arith, o.room, w.1) };
    }

-- a byte that ends a step
pub advances_step : (old : Reading) (r : BothState) (new : Maker) (b : ℕ) (e : BothEntry) → IsOpen old → Goes e.1 old.maker new → Answers (Ok (Some e)) r (transition old.reader b) → ((rest : List ℕ) → reading.Leads (Ok (Some e)) (to_come old.reader (b ∷ rest)) (to_come r rest)) → Advances old (record { reader = r; maker = new }) (b ∷ [])
advances_step old r new b e o g t next =
    let w : (r.refused ≡ None) × (r.left + 1 ≡ old.reader.left) = goes-open old.reader r b (Some e) o.unrefused t in
    record {
      stands = λ F front s. record {
        entries = s.entries ++ e ∷ [];
        log = λ rest.
            ap (read_entries standard.bytes) (append_assoc front (b ∷ []) rest)
            ∙ (s.log (b ∷ rest) ∙ (ap (behind s.entries) (next rest) ∙ behind-behind s.entries (e ∷ []) (to_come r rest)));
        offence = λ rest. ap offence_in (append_assoc front (b ∷ []) rest) ∙ (s.offence (b ∷ rest) ∙ goes-words old.reader r b (Some e) rest t);
        so_far = subst (λ (es : List Entry). IsSoFar F es new) (sym (bare-append s.entries (e ∷ []))) (goes-on F (bare s.entries) old.maker s.so_far (e.0, e.1) new g);
      };
      left = w.1;
      goes_on = record { under_way = g.under_way; unrefused = w.0; room = omega (arith, o.room, g.steps, w.1) };
    }

pub advances_more : (a b c : Reading) (xs ys : List ℕ) → Advances a b xs → Advances b c ys → Advances a c (xs ++ ys)
advances_more a b c xs ys f g = record {
  stands = λ F front s. subst (λ (zs : List ℕ). Stands F c zs) (append_assoc front xs ys) (g.stands F (front ++ xs) (f.stands F front s));
  left = omega (arith, f.left, g.left, length-append xs ys);
  goes_on = g.goes_on;
}

-- more bytes of a piece
pub advances_further : (a b c : Reading) (piece : List ℕ) (i n : ℕ) → Advances a b (take i piece) → Advances b c (take n (drop i piece)) → Advances a c (take (i + n) piece)
advances_further a b c piece i n f g = subst (λ xs. Advances a c xs) (sym (take-add i n piece)) (advances_more a b c (take i piece) (take n (drop i piece)) f g)

-- the first byte of a piece was read, and no step ended with it, or one
pub advances_passed : (old : Reading) (r : BothState) (piece : List ℕ) (o : Option BothEntry) → IsOpen old → o ≡ None → 0 < length piece → Answers (Ok o) r (transition old.reader (get_or piece 0 0)) → ((rest : List ℕ) → reading.Leads (Ok o) (to_come old.reader (get_or piece 0 0 ∷ rest)) (to_come r rest)) → Advances old (record { reader = r; maker = old.maker }) (take 1 piece)
advances_passed old r piece o open-now q some t next =
    subst (λ (xs : List ℕ). Advances old (record { reader = r; maker = old.maker }) xs) (sym (take-one piece some))
    (advances_silent old r (get_or piece 0 0) open-now (subst (λ (x : Option BothEntry). Answers (Ok x) r (transition old.reader (get_or piece 0 0))) q t)
    (subst (λ (x : Option BothEntry). (rest : List ℕ) → reading.Leads (Ok x) (to_come old.reader (get_or piece 0 0 ∷ rest)) (to_come r rest)) q next))

pub advances_taken : (old : Reading) (r : BothState) (new : Maker) (piece : List ℕ) (o : Option BothEntry) (e : BothEntry) → IsOpen old → Goes e.1 old.maker new → o ≡ Some e → 0 < length piece → Answers (Ok o) r (transition old.reader (get_or piece 0 0)) → ((rest : List ℕ) → reading.Leads (Ok o) (to_come old.reader (get_or piece 0 0 ∷ rest)) (to_come r rest)) → Advances old (record { reader = r; maker = new }) (take 1 piece)
advances_taken old r new piece o e open-now g q some t next =
    subst (λ (xs : List ℕ). Advances old (record { reader = r; maker = new }) xs) (sym (take-one piece some))
    (advances_step old r new (get_or piece 0 0) e open-now g (subst (λ (x : Option BothEntry). Answers (Ok x) r (transition old.reader (get_or piece 0 0))) q t)
    (subst (λ (x : Option BothEntry). (rest : List ℕ) → reading.Leads (Ok x) (to_come old.reader (get_or piece 0 0 ∷ rest)) (to_come r rest)) q next))

-- the steps in a log where the reader says this of what follows
entries-behind : (log : List ℕ) (es : List BothEntry) (o : Entries) → read_entries standard.bytes log ≡ behind es o → entries_in log ≡ bare es ++ bare o.entries
entries-behind log es o h = ap (λ (x : Entries). bare x.entries) h ∙ bare-append es o.entries

-- a step that is not made
step-refuses : (F : PrenexFormula) (log : List ℕ) (es : List BothEntry) (t : Maker) (w : Applied) (e : BothEntry) (o : Entries) → IsSoFar F (bare es) t → Convicts w t.checker.formula (e.0, e.1) → read_entries standard.bytes log ≡ behind es (onto e o) → LogRefuses w F log
step-refuses F log es t (outcome.Whole n) e o f h r = h
step-refuses F log es t (outcome.Broken n k) e o f h r = h
step-refuses F log es t (outcome.RefusedLine n c) e o f h r =
    subst (λ (xs : List Entry). IsFirstUnfit F xs (offence_in log) n c) (sym (entries-behind log es (onto e o) r))
    (unfit-behind F (bare es) ((e.0, e.1) ∷ bare o.entries) (offence_in log) n c f.steps (inl (h.0, unfit-there F (bare es) t f e.1 c h.1)))
step-refuses F log es t (outcome.RefusedInput n c) e o f h r = h
step-refuses F log es t outcome.ReadFault e o f h r = tt
step-refuses F log es t outcome.WriteFault e o f h r = h
step-refuses F log es t outcome.NoMemory e o f h r = tt

-- the offence behind the steps
offence-first : (F : PrenexFormula) (log : List ℕ) (es : List BothEntry) (t : Maker) (x : LogError) (n c : ℕ) → IsSoFar F (bare es) t → read_entries standard.bytes log ≡ behind es (stopped x) → offence_in log ≡ Some x → IsOffence (Some x) n c → IsRefusedAt F log n c
offence-first F log es t x n c f r q i =
    subst (λ (xs : List Entry). IsFirstUnfit F xs (offence_in log) n c) (sym (entries-behind log es (stopped x) r))
    (subst (λ (y : Option LogError). IsFirstUnfit F (bare es ++ []) y n c) (sym q) (unfit-behind F (bare es) [] (Some x) n c f.steps i))

offence-refuses : (F : PrenexFormula) (text : List ℕ) (es : List BothEntry) (t : Maker) (x : LogError) → IsSoFar F (bare es) t → (x ≡ log.NoMemory → ⊥) → read_entries standard.bytes text ≡ behind es (stopped x) → offence_in text ≡ Some x → LogRefuses (log_refused x) F text
offence-refuses F text es t (log.BadLine n) f m r q = offence-first F text es t (log.BadLine n) n 1 f r q (refl, refl)
offence-refuses F text es t (log.Limit n) f m r q = offence-first F text es t (log.Limit n) n 8 f r q (refl, refl)
offence-refuses F text es t log.NoMemory f m r q = absurd (m refl)

-- a byte that ends a step that is not made
pub refuses_step : (a : Reading) (r : BothState) (b : ℕ) (w : Applied) (e : BothEntry) → Convicts w a.maker.checker.formula (e.0, e.1) → ((rest : List ℕ) → reading.Leads (Ok (Some e)) (to_come a.reader (b ∷ rest)) (to_come r rest)) → (rest : List ℕ) → Refuses w a (b ∷ rest)
refuses_step a r b w e h next rest F front s =
    step-refuses F (front ++ b ∷ rest) s.entries a.maker w e (to_come r rest) s.so_far h (s.log (b ∷ rest) ∙ ap (behind s.entries) (next rest))

-- a byte that brings an offence
pub refuses_offence : (a : Reading) (r : BothState) (b : ℕ) (x : LogError) (w : Applied) → IsOpen a → w ≡ log_refused x → Answers (Err x) r (transition a.reader b) → ((rest : List ℕ) → reading.Leads (Err x) (to_come a.reader (b ∷ rest)) (to_come r rest)) → (rest : List ℕ) → Refuses w a (b ∷ rest)
refuses_offence a r b (log.BadLine n) w o q t next rest F front s =
    subst (λ (v : Applied). LogRefuses v F (front ++ b ∷ rest)) (sym q)
    (offence-refuses F (front ++ b ∷ rest) s.entries a.maker (log.BadLine n) s.so_far (λ e. cc) (s.log (b ∷ rest) ∙ ap (behind s.entries) (next rest).0)
    (s.offence (b ∷ rest) ∙ stops-words a.reader r b (log.BadLine n) rest o.unrefused t.0))
refuses_offence a r b (log.Limit n) w o q t next rest F front s =
    subst (λ (v : Applied). LogRefuses v F (front ++ b ∷ rest)) (sym q)
    (offence-refuses F (front ++ b ∷ rest) s.entries a.maker (log.Limit n) s.so_far (λ e. cc) (s.log (b ∷ rest) ∙ ap (behind s.entries) (next rest).0)
    (s.offence (b ∷ rest) ∙ stops-words a.reader r b (log.Limit n) rest o.unrefused t.0))
refuses_offence a r b log.NoMemory w o q t next rest F front s = subst (λ (v : Applied). LogRefuses v F (front ++ b ∷ rest)) (sym q) tt

-- a piece is its first byte, and the rest
first-of : (piece rest : List ℕ) → 0 < length piece → get_or piece 0 0 ∷ (drop 1 piece ++ rest) ≡ piece ++ rest
first-of piece rest some = ap (λ (xs : List ℕ). xs ++ (drop 1 piece ++ rest)) (sym (take-one piece some)) ∙ front-of 1 piece rest

pub refuses_taken : (a : Reading) (r : BothState) (piece : List ℕ) (w : Applied) (o : Option BothEntry) (e : BothEntry) → Convicts w a.maker.checker.formula (e.0, e.1) → o ≡ Some e → 0 < length piece → ((rest : List ℕ) → reading.Leads (Ok o) (to_come a.reader (get_or piece 0 0 ∷ rest)) (to_come r rest)) → (rest : List ℕ) → Refuses w a (piece ++ rest)
refuses_taken a r piece w o e h q some next rest =
    subst (λ (xs : List ℕ). Refuses w a xs) (first-of piece rest some)
    (refuses_step a r (get_or piece 0 0) w e h (subst (λ (x : Option BothEntry). (rest : List ℕ) → reading.Leads (Ok x) (to_come a.reader (get_or piece 0 0 ∷ rest)) (to_come r rest)) q next) (drop 1 piece ++ rest))

pub refuses_byte : (a : Reading) (r : BothState) (piece : List ℕ) (x : LogError) (w : Applied) → IsOpen a → w ≡ log_refused x → 0 < length piece → Answers (Err x) r (transition a.reader (get_or piece 0 0)) → ((rest : List ℕ) → reading.Leads (Err x) (to_come a.reader (get_or piece 0 0 ∷ rest)) (to_come r rest)) → (rest : List ℕ) → Refuses w a (piece ++ rest)
refuses_byte a r piece x w o q some t next rest =
    subst (λ (xs : List ℕ). Refuses w a xs) (first-of piece rest some) (refuses_offence a r (get_or piece 0 0) x w o q t next (drop 1 piece ++ rest))

-- a log that has come to its end, where the reader says this of it
made-of : (F : PrenexFormula) (log : List ℕ) (es : List BothEntry) (x : Option LogError) (t : Maker) (broken : Option ℕ) → IsSoFar F (bare es) t → read_entries standard.bytes log ≡ record { entries = es; refused = x } → offence_in log ≡ None → ((read_entries standard.bytes log).refused ≡ x → EndsAt broken log) → IsMade F log (record { maker = t; broken = broken })
made-of F log es x t broken f r q ends =
    let e : entries_in log ≡ bare es = ap (λ (o : Entries). bare o.entries) r in
    let g : IsSoFar F (entries_in log) t = subst (λ (xs : List Entry). IsSoFar F xs t) (sym e) f in
    record {
      makes = record {
        can = record { steps = g.steps; no_offence = q };
        count = g.count ∙ sym (steps_of-length (entries_in log));
        alike = g.alike;
      };
      ends = ends (ap (λ (o : Entries). o.refused) r);
    }

module _ (a : Reading) (o : IsOpen a) where
  -- no word is an offence
  last-words : (F : PrenexFormula) (log : List ℕ) → Stands F a log → offence_in log ≡ None
  last-words F log s = ap offence_in (sym (append-nil log)) ∙ (s.offence [] ∙ end-words a.reader o.unrefused)

  last-log : (F : PrenexFormula) (log : List ℕ) (s : Stands F a log) (x : Entries) → to_come a.reader [] ≡ x → read_entries standard.bytes log ≡ behind s.entries x
  last-log F log s x h = ap (read_entries standard.bytes) (sym (append-nil log)) ∙ (s.log [] ∙ ap (behind s.entries) h)

  -- the log ends between steps, with a step, or in one
  pub leaves_end : (x : Option BothEntry) → x ≡ None → reading.Ends (Ok x) (to_come a.reader []) → Leaves a (record { maker = a.maker; broken = None })
  leaves_end x q e F log s =
      made-of F log (s.entries ++ []) None a.maker None (subst (λ (es : List BothEntry). IsSoFar F (bare es) a.maker) (sym (append-nil s.entries)) s.so_far)
      (last-log F log s finished (subst (λ (y : Option BothEntry). reading.Ends (Ok y) (to_come a.reader [])) q e)) (last-words F log s) (λ z. z)

  pub leaves_step : (t : Maker) (x : Option BothEntry) (e : BothEntry) → x ≡ Some e → Goes e.1 a.maker t → reading.Ends (Ok x) (to_come a.reader []) → Leaves a (record { maker = t; broken = None })
  leaves_step t x e q g h F log s =
      made-of F log (s.entries ++ e ∷ []) None t None
      (subst (λ (es : List Entry). IsSoFar F es t) (sym (bare-append s.entries (e ∷ []))) (goes-on F (bare s.entries) a.maker s.so_far (e.0, e.1) t g))
      (last-log F log s (onto e finished) (subst (λ (y : Option BothEntry). reading.Ends (Ok y) (to_come a.reader [])) q h)) (last-words F log s) (λ z. z)

  pub leaves_broken : (x : LogError) (n : ℕ) → x ≡ log.BadLine n → reading.Ends (Err x) (to_come a.reader []) → Leaves a (record { maker = a.maker; broken = Some n })
  leaves_broken x n q e F l s =
      made-of F l (s.entries ++ []) (Some (log.BadLine n)) a.maker (Some n) (subst (λ (es : List BothEntry). IsSoFar F (bare es) a.maker) (sym (append-nil s.entries)) s.so_far)
      (last-log F l s (stopped (log.BadLine n)) (subst (λ (y : LogError). reading.Ends (Err y) (to_come a.reader [])) q e)) (last-words F l s) (λ z. z)

  -- the step with which the log ends is not made
  pub refuses_last : (w : Applied) (x : Option BothEntry) (e : BothEntry) → x ≡ Some e → Convicts w a.maker.checker.formula (e.0, e.1) → reading.Ends (Ok x) (to_come a.reader []) → Refuses w a []
  refuses_last w x e q h k F front s =
      step-refuses F (front ++ []) s.entries a.maker w e finished s.so_far h
      (s.log [] ∙ ap (behind s.entries) (subst (λ (y : Option BothEntry). reading.Ends (Ok y) (to_come a.reader [])) q k))

  -- the limit is not passed at the end
  pub refuses_limit : (w : Applied) (x : LogError) (n : ℕ) → x ≡ log.Limit n → reading.Ends (Err x) (to_come a.reader []) → Refuses w a []
  refuses_limit w x n q e F front s = absurd (end-limit a.reader n o.unrefused (subst (λ (y : LogError). reading.Ends (Err y) (to_come a.reader [])) q e))

-- what is said of bytes that follow others
refuses_later : (a b : Reading) (xs ys : List ℕ) (w : Applied) → Advances a b xs → Refuses w b ys → Refuses w a (xs ++ ys)
refuses_later a b xs ys w f r F front s = subst (λ (zs : List ℕ). LogRefuses w F zs) (append_assoc front xs ys) (r F (front ++ xs) (f.stands F front s))

pub refuses_from : (a b : Reading) (piece : List ℕ) (i : ℕ) (w : Applied) → Advances a b (take i piece) → ((rest : List ℕ) → Refuses w b (drop i piece ++ rest)) → (rest : List ℕ) → Refuses w a (piece ++ rest)
refuses_from a b piece i w f r rest = subst (λ xs. Refuses w a xs) (front-of i piece rest) (refuses_later a b (take i piece) (drop i piece ++ rest) w f (r rest))

pub refuses_file : (a : Reading) (file : List ℕ) (place n : ℕ) (piece : List ℕ) (w : Applied) → piece ≡ take n (drop place file) → ((rest : List ℕ) → Refuses w a (piece ++ rest)) → Refuses w a (drop place file)
refuses_file a file place n piece w e r =
    subst (λ xs. Refuses w a xs) (ap (λ xs. xs ++ drop n (drop place file)) e ∙ take-append-drop n (drop place file)) (r (drop n (drop place file)))

-- the reading stands behind the front of a file
pub record HasReached (file : List ℕ) (place : ℕ) (first now : Reading) : Type 0 where
  pub front : Advances first now (take place file)
  pub within : place ≤ length file

pub reaches_begin : (file : List ℕ) (a : Reading) → IsOpen a → HasReached file 0 a a
reaches_begin file a o = record { front = advances_begin a o; within = omega arith }

pub reaches_more : (file : List ℕ) (place n : ℕ) (first old new : Reading) → HasReached file place first old → HasTaken file place n old new → HasReached file (place + n) first new
reaches_more file place n first old new f p =
    let len : length (drop place file) ≡ length file - place = length-drop place file in
    record {
      front = subst (λ xs. Advances first new xs) (sym (take-add place n file)) (advances_more first old new (take place file) (take n (drop place file)) f.front p.piece);
      within = omega (arith, len, p.left, f.within);
    }

reaches_end : (file : List ℕ) (place n : ℕ) (first old new : Reading) → n ≡ 0 → HasReached file place first old → HasTaken file place n old new → Advances first new file
reaches_end file place n first old new z f p =
    let g : HasReached file (place + n) first new = reaches_more file place n first old new f p in
    let all : place + n ≡ length file = omega (arith, p.end z, f.within, z) in
    subst (λ xs. Advances first new xs) (ap (λ k. take k file) all ∙ take-length file) g.front

-- the whole file
pub made_whole : (file : List ℕ) (place n : ℕ) (first old last : Reading) (m : Made) → n ≡ 0 → HasReached file place first old → HasTaken file place n old last → Leaves last m → (F : PrenexFormula) → IsStarted F first → IsMade F file m
made_whole file place n first old last m z f p l F s = l F file ((reaches_end file place n first old last z f p).stands F [] s.stands)

pub refused_whole : (file : List ℕ) (place n : ℕ) (first old last : Reading) (w : Applied) → n ≡ 0 → HasReached file place first old → HasTaken file place n old last → Refuses w last [] → (F : PrenexFormula) → IsStarted F first → LogRefuses w F file
refused_whole file place n first old last w z f p r F s =
    subst (λ (xs : List ℕ). LogRefuses w F xs) (append-nil file) (r F file ((reaches_end file place n first old last z f p).stands F [] s.stands))

pub refused_early : (file : List ℕ) (place : ℕ) (first old : Reading) (w : Applied) → HasReached file place first old → Refuses w old (drop place file) → (F : PrenexFormula) → IsStarted F first → LogRefuses w F file
refused_early file place first old w f r F s =
    subst (λ (xs : List ℕ). LogRefuses w F xs) (take-append-drop place file) (refuses_later first old (take place file) (drop place file) w f.front r F [] s.stands)
