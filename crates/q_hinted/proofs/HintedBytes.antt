-- What was to come is the answer to a byte, and then what is to come behind it.
use Rattle.std.proofs.Common.{◌≡◌, ℕ, zero, suc, ◌==◌, nat_le, Bool, true, false, List, ◌∷◌, ◌++◌, length, take, Result, Ok, Err, Option, Some, None, refl, sym, ap, ◌∙◌, arith, sub-one, subst}
use Rattle.std.proofs.lemmas.Bool.Decides.{nat_tests}
use Rattle.q_text.specs.declared.tokens.Token.{Token}
use Rattle.q_text.specs.declared.tokens.Tokens.{Tokens}
use Rattle.q_text.specs.Texts.{line_from}
use Rattle.q_text.specs.Tokens.{begun, after, all_handed, handed, line_of, listed}
use Rattle.q_text.specs.Tokens as tokens
use Rattle.q_text.proofs.TokenLaw.{from_start, handed-ended}
use Rattle.q_log.specs.declared.error.LogError.{LogError}
use Rattle.q_log.specs.declared.error.LogError.TheVariants.{BadLine, Limit, NoMemory}
use Rattle.q_log.proofs.LogBytes.{line-after}
use Rattle.q_hinted.specs.Grammar.{Place, nowhere, EntryMove, hands, leads, misfit, place_move}
use Rattle.q_hinted.specs.Filled.{Gives}
use Rattle.q_hinted.specs.Logs.{Entry, Entries, stopped, onto, follow, parsed, at_end, past_limit, read_entries}
use Rattle.q_hinted.specs.Reading.{BothState, open_to_come, unless_refused, to_come, transition, token_transition, moved, Answers, Leads}

pub start-reads : (s : BothState) (limit : ℕ) (text : List ℕ) → s.tokens ≡ begun → s.left ≡ limit → s.place ≡ nowhere → open_to_come s text ≡ read_entries limit text
start-reads s limit text t l b = rw (t, l, b, from_start text, handed-ended (take limit text)) refl

-- the answer to a token, where `later` is what is to come behind it
move-leads : (t : Tokens) (k : ℕ) (p : Place) (rest : List ℕ) (later : Place → Entries) →
    ((q : Place) → to_come (record { tokens = t; left = k; place = q; refused = None }) rest ≡ later q) →
    (m : EntryMove) (line : ℕ) →
    let T = moved (record { tokens = t; left = k; place = p; refused = None }) m line in
    Leads T.answer (follow m line later) (to_come T.state rest)
move-leads t k p rest later h (hands n s part q) line = ap (onto (n, s, part)) (sym (h q))
move-leads t k p rest later h (leads q) line = sym (h q)
move-leads t k p rest later h misfit line = (refl, refl)

token-leads : (t : Tokens) (k : ℕ) (p : Place) (rest : List ℕ) (last : Place → Option LogError) (ts : List Token) →
    ((q : Place) → to_come (record { tokens = t; left = k; place = q; refused = None }) rest ≡ parsed last q ts) →
    (o : Option Token) →
    let T = token_transition (record { tokens = t; left = k; place = p; refused = None }) o in
    Leads T.answer (parsed last p (listed o ++ ts)) (to_come T.state rest)
token-leads t k p rest last ts h None = sym (h p)
token-leads t k p rest last ts h (Some x) = move-leads t k p rest (λ q. parsed last q ts) h (place_move p x) x.line

-- the answer to a byte within the limit
pub byte-leads : (t : Tokens) (k b : ℕ) (p : Place) (rest : List ℕ) →
    let T = token_transition (record { tokens = after t b; left = k; place = p; refused = None }) (handed t b) in
    Leads T.answer (to_come (record { tokens = t; left = suc k; place = p; refused = None }) (b ∷ rest)) (to_come T.state rest)
byte-leads t k b p rest = go (nat_le (length rest) k) refl (grind (arith, nat_tests))
  where
    line : (xs : List ℕ) → line_from (line_of t) (b ∷ xs) ≡ line_from (line_of (after t b)) xs
    line xs = ap (λ n. line_from n xs) (sym (line-after t b))

    go : (c : Bool) → nat_le (length rest) k ≡ c → nat_le (length (b ∷ rest)) (suc k) ≡ nat_le (length rest) k →
        let T = token_transition (record { tokens = after t b; left = k; place = p; refused = None }) (handed t b) in
        Leads T.answer (to_come (record { tokens = t; left = suc k; place = p; refused = None }) (b ∷ rest)) (to_come T.state rest)
    go true e f =
        rw (f, e, line rest)
        (token-leads (after t b) k p rest (at_end (line_from (line_of (after t b)) rest)) (tokens.to_come (after t b) rest)
        (λ q. rw e refl) (handed t b))
    go false e f =
        rw (f, e, line (take k rest))
        (token-leads (after t b) k p rest (past_limit (line_from (line_of (after t b)) (take k rest))) (all_handed (after t b) (take k rest))
        (λ q. rw e refl) (handed t b))

transition-leads : (r : BothState) (b : ℕ) (rest : List ℕ) → Leads (transition r b).answer (to_come r (b ∷ rest)) (to_come (transition r b).state rest)
transition-leads r b rest = go r.left r.refused
  where
    above : nat_le (length (b ∷ rest)) zero ≡ false
    above = grind (arith, nat_tests)

    counted : (k : ℕ) → (suc k == 0) ≡ false
    counted k = grind (arith, nat_tests)

    go : (n : ℕ) (f : Option LogError) →
        let q : BothState = record { tokens = r.tokens; left = n; place = r.place; refused = f } in
        Leads (transition q b).answer (to_come q (b ∷ rest)) (to_come (transition q b).state rest)
    go n (Some NoMemory) = refl
    go n (Some (BadLine m)) = (refl, refl)
    go n (Some (Limit m)) = (refl, refl)
    go zero None = rw above (refl, refl)
    go (suc k) None = rw (counted k, sub-one) (byte-leads r.tokens k b r.place rest)

pub after-refusal : (new : BothState) (rest : List ℕ) (e : LogError) → new.refused ≡ Some e → to_come new rest ≡ stopped e
after-refusal new rest e h = ap (λ f. unless_refused f (open_to_come new rest)) h

-- the answer and the state behind it may be told by equations
told : (a : Result (Option Entry) LogError) (r : BothState) (b : ℕ) (rest : List ℕ) →
    a ≡ (transition r b).answer → Leads a (to_come r (b ∷ rest)) (to_come (transition r b).state rest)
told a r b rest e =
    subst (λ (a : Result (Option Entry) LogError). Leads a (to_come r (b ∷ rest)) (to_come (transition r b).state rest)) (sym e) (transition-leads r b rest)

pub next-leads : (a : Result (Option Entry) LogError) (new r : BothState) (b : ℕ) (rest : List ℕ) →
    Answers a new (transition r b) → Leads a (to_come r (b ∷ rest)) (to_come new rest)
next-leads (Ok o) new r b rest (e, f) =
    subst (λ (q : BothState). Leads (Ok o) (to_come r (b ∷ rest)) (to_come q rest)) (sym f) (told (Ok o) r b rest e)
next-leads (Err NoMemory) new r b rest h = after-refusal new rest NoMemory h
next-leads (Err (BadLine n)) new r b rest (e, f) = ((told (Err (BadLine n)) r b rest e).0, after-refusal new rest (BadLine n) f)
next-leads (Err (Limit n)) new r b rest (e, f) = ((told (Err (Limit n)) r b rest e).0, after-refusal new rest (Limit n) f)

-- a refusal of a token is that of the transition
pub token-refused : (e : LogError) (q : BothState) (x : Token) (now : Place) (new : BothState) →
    Gives (Err e) (place_move q.place x) now x.line → new.refused ≡ Some e → Answers (Err e) new (token_transition q (Some x))
token-refused NoMemory q x now new h f = f
token-refused (BadLine n) q x now new (h, k) f = rw (h, k) (refl, f ∙ ap (λ n. Some (BadLine n)) k)
token-refused (Limit n) q x now new h f = elim h [ ]
