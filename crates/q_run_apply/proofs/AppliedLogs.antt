-- What `apply` makes of a log that leads from one formula to another.
use Rattle.std.proofs.Common.{◌≡◌, ◌⊎◌, ◌∙◌, refl, sym, ap, subst, inl, inr, nat_le, ℕ, Bool, true, false, List, [], ◌∷◌, ◌++◌, length, take, append_assoc, if◌then◌else◌, Option, None, Some}
use Rattle.q_logic.specs.Prelude.{PrenexFormula, AreAlike, ProofStep, Run, SameFormula, ValidSteps, after, blocks, standard}
use Rattle.q_logic.specs.Prefixes.{SameBlocks}
use Rattle.q_same_steps.specs.Making.{made}
use Rattle.q_same_steps.proofs.MadeSteps.{valid-applies}
use Rattle.q_text.specs.declared.tokens.Token.{Token}
use Rattle.q_text.specs.declared.tokens.Tokens.{Tokens}
use Rattle.q_text.specs.Texts.{line_after, tokens_ended, tokens_of}
use Rattle.q_text.specs.Tokens.{after as byte_after, all_handed, begun, handed, listed, to_come}
use Rattle.q_text.proofs.TokenLaw.{from_start, handed-ended}
use Rattle.q_log.specs.declared.error.LogError.{LogError}
use Rattle.q_log.specs.Logs as logs
use Rattle.q_hinted.specs.Grammar.{Place, nowhere, EntryMove, hands, leads, misfit, place_move}
use Rattle.q_hinted.specs.Logs.{Entries, Profile, at_end, follow, hinted_in, parsed, past_limit, plain_entries, read_entries}
use Rattle.q_hinted.proofs.Profiles.{no-steps, parts-read, plain-read}
use Rattle.q_command.specs.Checks.{IsRunLog, LeadsTo}
use Rattle.q_command.specs.Judging.{bare}
use Rattle.q_command.specs.Logs.{Entry, steps_of, stripped}
use Rattle.q_command.proofs.CheckStatus.{all_or_none-some}
use Rattle.q_command.proofs.LogEntries.{bare-hinted, bare-plain}
use Rattle.q_command.proofs.WholeLogs.{profile-told, run_of, second}
use Rattle.q_run_apply.specs.Applications.{AreMade, CanBeMade, Makes, entries_in, steps_in, words_read}

-- a log that leads somewhere has these steps, and nothing is refused in it
record IsWholeLog (log : List ℕ) (es : List Entry) : Type 0 where
  entries : entries_in log ≡ es
  refused : (read_entries standard.bytes log).refused ≡ None

plain-whole : (log : List ℕ) (es : List Entry) → logs.Steps standard.bytes log ≡ Some es → IsWholeLog log es
plain-whole log es h = go (profile-told standard.bytes log)
  where
    go : (Profile standard.bytes log ≡ 1) ⊎ (Profile standard.bytes log ≡ 2) → IsWholeLog log es
    go (inl p) =
        let r : read_entries standard.bytes log ≡ plain_entries (logs.read standard.bytes log) = plain-read standard.bytes log p in
        let w = all_or_none-some (logs.read standard.bytes log).refused (logs.read standard.bytes log).steps es h in
        record {
          entries = ap (λ (o : Entries). bare o.entries) r ∙ (bare-plain (logs.read standard.bytes log).steps ∙ w.1);
          refused = ap (λ (o : Entries). o.refused) r ∙ w.0;
        }
    go (inr p) = let w : Some es ≡ None = sym h ∙ no-steps standard.bytes log p in cc

run-whole : (log : List ℕ) (F G : PrenexFormula) (es : List Entry) → IsRunLog log F G es → IsWholeLog log es
run-whole log F G es (inl a) = plain-whole log es a.is_log
run-whole log F G es (inr a) =
    let s = second log a.hinted a.is_log in
    record {
      entries =
          ap bare (parts-read standard.bytes log s.profile)
          ∙ (bare-hinted (hinted_in (read_entries standard.bytes log).entries) ∙ (ap stripped s.hinted ∙ sym a.entries_are));
      refused = s.refused;
    }

-- the words that end in a text come first
ended-first : (t : Tokens) (bs : List ℕ) → (more : List Token) × (to_come t bs ≡ all_handed t bs ++ more)
ended-first t [] = (to_come t [], refl)
ended-first t (b ∷ bs) =
    let r = ended-first (byte_after t b) bs in
    (r.0, ap (λ (ts : List Token). listed (handed t b) ++ ts) r.1 ∙ sym (append_assoc (listed (handed t b)) (all_handed (byte_after t b) bs) r.0))

-- where nothing is refused, nothing is refused before
follow-fits : (line : ℕ) (later sooner : Place → Entries) → ((q : Place) → (later q).refused ≡ None → (sooner q).refused ≡ None) → (m : EntryMove) → (follow m line later).refused ≡ None → (follow m line sooner).refused ≡ None
follow-fits line later sooner f (hands n s x q) h = f q h
follow-fits line later sooner f (leads q) h = f q h
follow-fits line later sooner f misfit h = cc

front-fits : (last : Place → Option LogError) (p : Place) (ts us : List Token) → (parsed last p (ts ++ us)).refused ≡ None → (parsed (λ q. None) p ts).refused ≡ None
front-fits last p [] us h = refl
front-fits last p (t ∷ ts) us h = follow-fits t.line (λ q. parsed last q (ts ++ us)) (λ q. parsed (λ x. None) q ts) (λ q e. front-fits last q ts us e) (place_move p t) h

-- behind the limit something is refused
follow-past : (line : ℕ) (later : Place → Entries) → ((q : Place) → (later q).refused ≡ None → ⊥) → (m : EntryMove) → (follow m line later).refused ≡ None → ⊥
follow-past line later f (hands n s x q) h = f q h
follow-past line later f (leads q) h = f q h
follow-past line later f misfit h = cc

past-refused : (n : ℕ) (p : Place) (ts : List Token) → (parsed (past_limit n) p ts).refused ≡ None → ⊥
past-refused n p [] h = cc
past-refused n p (t ∷ ts) h = follow-past t.line (λ q. parsed (past_limit n) q ts) (λ q e. past-refused n q ts e) (place_move p t) h

pub whole-fits : (limit : ℕ) (log : List ℕ) → (read_entries limit log).refused ≡ None → (words_read limit log).refused ≡ None
whole-fits limit log h = go (nat_le (length log) limit) h
  where
    words : (more : List Token) × (tokens_of log ≡ tokens_ended log ++ more)
    words =
        let r = ended-first begun log in
        (r.0, sym (from_start log) ∙ (r.1 ∙ ap (λ (ts : List Token). ts ++ r.0) (handed-ended log)))

    go : (b : Bool) →
        (if b then parsed (at_end (line_after log)) nowhere (tokens_of log) else parsed (past_limit (line_after (take limit log))) nowhere (tokens_ended (take limit log))).refused ≡ None →
        (if b then parsed (λ p. None) nowhere (tokens_ended log) else parsed (past_limit (line_after (take limit log))) nowhere (tokens_ended (take limit log))).refused ≡ None
    go true k = front-fits (at_end (line_after log)) nowhere (tokens_ended log) words.0 (subst (λ (ts : List Token). (parsed (at_end (line_after log)) nowhere ts).refused ≡ None) words.1 k)
    go false k = absurd (past-refused (line_after (take limit log)) nowhere (tokens_ended (take limit log)) k)

-- valid steps can be made, and lead to the same formula
valid-made : (F L : PrenexFormula) (ss : List ProofStep) → ValidSteps standard F ss L → AreMade F ss × (made F ss ≡ L)
valid-made F L [] h = (tt, h)
valid-made F L (s ∷ ss) h = let r = valid-made (after F s) L ss h.1 in ((valid-applies standard F s h.0, r.0), r.1)

module _ (F G : PrenexFormula) (log : List ℕ) (l : LeadsTo log F G) where
  is-whole : IsWholeLog log l.0
  is-whole = run-whole log F G l.0 l.1

  run : Run F (steps_in log) G
  run = subst (λ (es : List Entry). Run F (steps_of es) G) (sym is-whole.entries) (run_of log F G l.0 l.1)

  pub can-be-made : CanBeMade F log
  can-be-made = record {
    steps = (valid-made F run.last (steps_in log) run.steps).0;
    no_offence = whole-fits standard.bytes log is-whole.refused;
  }

  pub same-made : (n : ℕ) (H : PrenexFormula) → Makes F log n H → SameFormula H G
  same-made n H m =
      let last : made F (steps_in log) ≡ run.last = (valid-made F run.last (steps_in log) run.steps).1 in
      let a : AreAlike run.last H = subst (λ (E : PrenexFormula). AreAlike E H) last m.alike in
      record {
        same_blocks = subst (λ P. SameBlocks (blocks P) (blocks G.prefix)) a.prefix run.same.same_blocks;
        same_clauses = λ C. sym (a.clauses C) ∙ run.same.same_clauses C;
      }
