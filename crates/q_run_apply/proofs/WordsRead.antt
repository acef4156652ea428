-- What the words say that end in a log: what a byte brings, and what is left at the end.
use Rattle.std.proofs.Common.{◌≡◌, ◌+◌, ◌∙◌, refl, sym, ap, arith, sub-one, ℕ, zero, suc, ◌==◌, nat_le, Bool, true, false, List, [], ◌∷◌, ◌++◌, length, take, Option, Some, None, Result, Ok, Err}
use Rattle.std.proofs.lemmas.Bool.Decides.{nat_tests}
use Rattle.q_text.specs.declared.tokens.Token.{Token}
use Rattle.q_text.specs.declared.tokens.Tokens.{Tokens}
use Rattle.q_text.specs.Texts.{line_from}
use Rattle.q_text.specs.Tokens.{after, all_handed, handed, line_of, listed}
use Rattle.q_text.specs.Tokens as tokens
use Rattle.q_text.proofs.TokenLaw.{handed-ended}
use Rattle.q_log.specs.declared.error.LogError.{LogError}
use Rattle.q_log.specs.declared.error.LogError.TheVariants.{Limit}
use Rattle.q_log.proofs.LogBytes.{line-after}
use Rattle.q_hinted.specs.Grammar.{Place, nowhere, format, version, plain, steps, proving, EntryMove, hands, leads, misfit, place_move}
use Rattle.q_hinted.specs.Logs.{Entry as BothEntry, Entries, stopped, follow, parsed, at_end, past_limit}
use Rattle.q_hinted.specs.Reading.{Answers, BothState, Transition, moved, start, to_come, token_transition, transition, unless_refused}
use Rattle.q_run_apply.specs.Applications.{words_read}
use Rattle.q_run_apply.specs.Readings.{open_words, words_to_come}

abbrev state_of : Tokens → ℕ → Place → Option LogError → BothState
state_of t k p f = record { tokens = t; left = k; place = p; refused = f }

-- before the first byte
pub start-words : (r : BothState) (limit : ℕ) (log : List ℕ) → r ≡ start limit → words_to_come r log ≡ words_read limit log
start-words r limit log e = rw (e, handed-ended log, handed-ended (take limit log)) refl

-- what a token says
move-words : (t : Tokens) (k : ℕ) (p : Place) (rest : List ℕ) (later : Place → Entries) → ((q : Place) → words_to_come (state_of t k q None) rest ≡ later q) → (m : EntryMove) (line : ℕ) →
    (follow m line later).refused ≡ (words_to_come (moved (state_of t k p None) m line).state rest).refused
move-words t k p rest later h (hands n s part q) line = ap (λ (o : Entries). o.refused) (sym (h q))
move-words t k p rest later h (leads q) line = ap (λ (o : Entries). o.refused) (sym (h q))
move-words t k p rest later h misfit line = refl

token-words : (t : Tokens) (k : ℕ) (p : Place) (rest : List ℕ) (last : Place → Option LogError) (ts : List Token) → ((q : Place) → words_to_come (state_of t k q None) rest ≡ parsed last q ts) → (o : Option Token) →
    (parsed last p (listed o ++ ts)).refused ≡ (words_to_come (token_transition (state_of t k p None) o).state rest).refused
token-words t k p rest last ts h None = ap (λ (o : Entries). o.refused) (sym (h p))
token-words t k p rest last ts h (Some x) = move-words t k p rest (λ q. parsed last q ts) h (place_move p x) x.line

-- what a byte within the limit says
within-words : (t : Tokens) (k b : ℕ) (p : Place) (rest : List ℕ) →
    (words_to_come (state_of t (suc k) p None) (b ∷ rest)).refused ≡ (words_to_come (token_transition (state_of (after t b) k p None) (handed t b)).state rest).refused
within-words t k b p rest = go (nat_le (length rest) k) refl (grind (arith, nat_tests))
  where
    line : (xs : List ℕ) → line_from (line_of t) (b ∷ xs) ≡ line_from (line_of (after t b)) xs
    line xs = ap (λ n. line_from n xs) (sym (line-after t b))

    go : (c : Bool) → nat_le (length rest) k ≡ c → nat_le (length (b ∷ rest)) (suc k) ≡ nat_le (length rest) k →
        (words_to_come (state_of t (suc k) p None) (b ∷ rest)).refused ≡ (words_to_come (token_transition (state_of (after t b) k p None) (handed t b)).state rest).refused
    go true e f = rw (f, e) (token-words (after t b) k p rest (λ q. None) (all_handed (after t b) rest) (λ q. rw e refl) (handed t b))
    go false e f =
        rw (f, e, line (take k rest))
        (token-words (after t b) k p rest (past_limit (line_from (line_of (after t b)) (take k rest))) (all_handed (after t b) (take k rest)) (λ q. rw e refl) (handed t b))

-- what a byte says
pub byte-words : (r : BothState) (b : ℕ) (rest : List ℕ) → (words_to_come r (b ∷ rest)).refused ≡ (words_to_come (transition r b).state rest).refused
byte-words r b rest = go r.left r.refused
  where
    above : nat_le (length (b ∷ rest)) zero ≡ false
    above = grind (arith, nat_tests)

    counted : (k : ℕ) → (suc k == 0) ≡ false
    counted k = grind (arith, nat_tests)

    go : (n : ℕ) (f : Option LogError) →
        (words_to_come (state_of r.tokens n r.place f) (b ∷ rest)).refused ≡ (words_to_come (transition (state_of r.tokens n r.place f) b).state rest).refused
    go n (Some e) = refl
    go zero None = rw above refl
    go (suc k) None = rw (counted k, sub-one) (within-words r.tokens k b r.place rest)

-- what was refused is refused
abbrev error_of : Result (Option BothEntry) LogError → Option LogError
error_of (Ok o) = None
error_of (Err e) = Some e

-- the refusal that a transition leaves is its answer
abbrev IsTold : BothState → Transition → Type 0
IsTold r t = (t.state.refused ≡ error_of t.answer) × (error_of t.answer ≡ None → t.state.left + 1 ≡ r.left)

move-told : (q : BothState) (m : EntryMove) (line : ℕ) → q.refused ≡ None → (moved q m line).state.refused ≡ error_of (moved q m line).answer
move-told q (hands n s part p) line h = h
move-told q (leads p) line h = h
move-told q misfit line h = refl

move-left : (q : BothState) (m : EntryMove) (line : ℕ) → (moved q m line).state.left ≡ q.left
move-left q (hands n s part p) line = refl
move-left q (leads p) line = refl
move-left q misfit line = refl

token-told : (q : BothState) (o : Option Token) → q.refused ≡ None → ((token_transition q o).state.refused ≡ error_of (token_transition q o).answer) × ((token_transition q o).state.left ≡ q.left)
token-told q None h = (h, refl)
token-told q (Some t) h = (move-told q (place_move q.place t) t.line h, move-left q (place_move q.place t) t.line)

byte-told : (r : BothState) (b : ℕ) → r.refused ≡ None → IsTold r (transition r b)
byte-told r b h = go r.left r.refused h
  where
    counted : (k : ℕ) → (suc k == 0) ≡ false
    counted k = grind (arith, nat_tests)

    go : (n : ℕ) (f : Option LogError) → f ≡ None → IsTold (state_of r.tokens n r.place f) (transition (state_of r.tokens n r.place f) b)
    go n (Some e) k = cc
    go zero None k = (refl, λ x. cc)
    go (suc n) None k =
        let t = token-told (state_of (after r.tokens b) n r.place None) (handed r.tokens b) refl in
        rw (counted n, sub-one) (t.0, λ x. omega (arith, t.1))

-- behind a byte that is taken the reader goes on, and one byte less may come
pub goes-open : (r new : BothState) (b : ℕ) (o : Option BothEntry) → r.refused ≡ None → Answers (Ok o) new (transition r b) → (new.refused ≡ None) × (new.left + 1 ≡ r.left)
goes-open r new b o h (e, f) =
    let t = byte-told r b h in
    let n : error_of (transition r b).answer ≡ None = ap error_of (sym e) in (
      ap (λ (s : BothState). s.refused) f ∙ (t.0 ∙ n),
      ap (λ (s : BothState). s.left + 1) f ∙ t.1 n,
    )

pub goes-words : (r new : BothState) (b : ℕ) (o : Option BothEntry) (rest : List ℕ) → Answers (Ok o) new (transition r b) → (words_to_come r (b ∷ rest)).refused ≡ (words_to_come new rest).refused
goes-words r new b o rest (e, f) = byte-words r b rest ∙ ap (λ (s : BothState). (words_to_come s rest).refused) (sym f)

-- a refusal is an offence of the words, whatever follows
stays-refused : (s : BothState) (x : LogError) (rest : List ℕ) → s.refused ≡ Some x → (words_to_come s rest).refused ≡ Some x
stays-refused s x rest h = ap (λ (f : Option LogError). (unless_refused f (open_words s rest)).refused) h

pub stops-words : (r new : BothState) (b : ℕ) (x : LogError) (rest : List ℕ) → r.refused ≡ None → (Err x) ≡ (transition r b).answer → (words_to_come r (b ∷ rest)).refused ≡ Some x
stops-words r new b x rest h e =
    let t = byte-told r b h in
    byte-words r b rest ∙ stays-refused (transition r b).state x rest (t.0 ∙ ap error_of (sym e))

-- no bytes are within any limit
none_within : (k : ℕ) → nat_le 0 k ≡ true
none_within k = grind (arith, nat_tests)

-- at the end no word is left
pub end-words : (r : BothState) → r.refused ≡ None → (words_to_come r []).refused ≡ None
end-words r h = rw (h, none_within r.left) refl

-- the end is not behind the limit
place-limit : (n m : ℕ) (p : Place) → at_end m p ≡ Some (Limit n) → ⊥
place-limit n m nowhere e = cc
place-limit n m format e = cc
place-limit n m version e = cc
place-limit n m (plain None) e = cc
place-limit n m (plain (Some o)) e = cc
place-limit n m (steps None) e = cc
place-limit n m (steps (Some o)) e = cc
place-limit n m (proving k s g q) e = cc

-- whatever a token does, the tokens behind it are not behind the limit
follow-limit : (n line : ℕ) (later : Place → Entries) → ((q : Place) → (later q).refused ≡ Some (Limit n) → ⊥) → (m : EntryMove) → (follow m line later).refused ≡ Some (Limit n) → ⊥
follow-limit n line later never (hands k s part q) h = never q h
follow-limit n line later never (leads q) h = never q h
follow-limit n line later never misfit h = cc

tokens-limit : (n m : ℕ) (p : Place) (ts : List Token) → (parsed (at_end m) p ts).refused ≡ Some (Limit n) → ⊥
tokens-limit n m p [] e = place-limit n m p e
tokens-limit n m p (t ∷ ts) e = follow-limit n t.line (λ q. parsed (at_end m) q ts) (λ q h. tokens-limit n m q ts h) (place_move p t) e

open-end : (r : BothState) → r.refused ≡ None → to_come r [] ≡ parsed (at_end (line_of r.tokens)) r.place (tokens.to_come r.tokens [])
open-end r h = rw (h, none_within r.left) refl

pub end-limit : (r : BothState) (n : ℕ) → r.refused ≡ None → to_come r [] ≡ stopped (Limit n) → ⊥
end-limit r n h e = tokens-limit n (line_of r.tokens) r.place (tokens.to_come r.tokens []) (ap (λ (o : Entries). o.refused) (sym (open-end r h) ∙ e))
