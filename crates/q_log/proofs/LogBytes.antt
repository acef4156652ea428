-- What was to come is the answer to a byte, and then what is to come behind it.
use Rattle.std.proofs.Common.{◌≡◌, ℕ, zero, suc, ◌+◌, ◌==◌, nat_le, Bool, true, false, List, ◌∷◌, ◌++◌, length, take, if◌then◌else◌, Result, Ok, Err, Option, Some, None, refl, sym, ap, ◌∙◌, arith, sub-one, subst}
use Rattle.std.proofs.lemmas.Bool.Decides.{nat_tests}
use Rattle.q_logic.specs.Prelude.{Literal, ProofStep}
use Rattle.q_text.specs.declared.tokens.Token.{Token}
use Rattle.q_text.specs.declared.tokens.Tokens.{Tokens}
use Rattle.q_text.specs.Words.{is_separator}
use Rattle.q_text.specs.Texts.{line_from}
use Rattle.q_text.specs.declared.shape.Shape.{Shape}
use Rattle.q_text.specs.declared.shape.Shape.TheVariants.{Start}
use Rattle.q_text.specs.Tokens.{begun, after, after_blank, grown, all_handed, handed, line_of, listed}
use Rattle.q_text.specs.Tokens as tokens
use Rattle.q_text.proofs.TokenLaw.{from_start, handed-ended}
use Rattle.q_log.specs.declared.error.LogError.{LogError}
use Rattle.q_log.specs.declared.error.LogError.TheVariants.{BadLine, Limit, NoMemory}
use Rattle.q_log.specs.declared.builder.Begun.{Begun}
use Rattle.q_log.specs.Grammar.{OpenStep, Move, ends_step, goes_on, unfit, move}
use Rattle.q_log.specs.Logs.{Parsed, stopped, onto, follow, parsed, at_end, past_limit, read}
use Rattle.q_log.specs.Reading.{LogState, open_to_come, unless_refused, to_come, transition, token_transition, moved, Answers, Leads, Builds}

pub start-reads : (s : LogState) (limit : ℕ) (text : List ℕ) → s.tokens ≡ begun → s.left ≡ limit → s.begun ≡ None → open_to_come s text ≡ read limit text
start-reads s limit text t l b = rw (t, l, b, from_start text, handed-ended (take limit text)) refl

-- the line behind a byte
pub line-after : (t : Tokens) (b : ℕ) → line_of (after t b) ≡ (if b == 10 then line_of t + 1 else line_of t)
line-after t b = go (b == 10) (is_separator b) Start (after_blank t.shape) (grown t.shape b)
  where
    go : (u v : Bool) (x y z : Shape) →
        line_of (if u then record { line = t.line + 1; shape = x } else (if v then record { line = t.line; shape = y } else record { line = t.line; shape = z }))
        ≡ (if u then line_of t + 1 else line_of t)
    go true v x y z = refl
    go false true x y z = refl
    go false false x y z = refl

-- the answer to a token, where `later` is what is to come behind it
move-leads : (t : Tokens) (k : ℕ) (s : Option OpenStep) (rest : List ℕ) (later : Option OpenStep → Parsed) →
    ((u : Option OpenStep) → to_come (record { tokens = t; left = k; begun = u; refused = None }) rest ≡ later u) →
    (m : Move) (line : ℕ) →
    let T = moved (record { tokens = t; left = k; begun = s; refused = None }) m line in
    Leads T.answer (follow m line later) (to_come T.state rest)
move-leads t k s rest later h (ends_step n p) line = ap (onto (n, p)) (sym (h None))
move-leads t k s rest later h (goes_on o) line = sym (h (Some o))
move-leads t k s rest later h unfit line = (refl, refl)

token-leads : (t : Tokens) (k : ℕ) (s : Option OpenStep) (rest : List ℕ) (last : Option OpenStep → Option LogError) (ts : List Token) →
    ((u : Option OpenStep) → to_come (record { tokens = t; left = k; begun = u; refused = None }) rest ≡ parsed last u ts) →
    (o : Option Token) →
    let T = token_transition (record { tokens = t; left = k; begun = s; refused = None }) o in
    Leads T.answer (parsed last s (listed o ++ ts)) (to_come T.state rest)
token-leads t k s rest last ts h None = sym (h s)
token-leads t k s rest last ts h (Some x) = move-leads t k s rest (λ u. parsed last u ts) h (move s x) x.line

-- the answer to a byte within the limit
pub byte-leads : (t : Tokens) (k b : ℕ) (s : Option OpenStep) (rest : List ℕ) →
    let T = token_transition (record { tokens = after t b; left = k; begun = s; refused = None }) (handed t b) in
    Leads T.answer (to_come (record { tokens = t; left = suc k; begun = s; refused = None }) (b ∷ rest)) (to_come T.state rest)
byte-leads t k b s rest = go (nat_le (length rest) k) refl (grind (arith, nat_tests))
  where
    line : (xs : List ℕ) → line_from (line_of t) (b ∷ xs) ≡ line_from (line_of (after t b)) xs
    line xs = ap (λ n. line_from n xs) (sym (line-after t b))

    go : (c : Bool) → nat_le (length rest) k ≡ c → nat_le (length (b ∷ rest)) (suc k) ≡ nat_le (length rest) k →
        let T = token_transition (record { tokens = after t b; left = k; begun = s; refused = None }) (handed t b) in
        Leads T.answer (to_come (record { tokens = t; left = suc k; begun = s; refused = None }) (b ∷ rest)) (to_come T.state rest)
    go true e f =
        rw (f, e, line rest)
        (token-leads (after t b) k s rest (at_end (line_from (line_of (after t b)) rest)) (tokens.to_come (after t b) rest)
        (λ u. rw e refl) (handed t b))
    go false e f =
        rw (f, e, line (take k rest))
        (token-leads (after t b) k s rest (past_limit (line_from (line_of (after t b)) (take k rest))) (all_handed (after t b) (take k rest))
        (λ u. rw e refl) (handed t b))

transition-leads : (r : LogState) (b : ℕ) (rest : List ℕ) → Leads (transition r b).answer (to_come r (b ∷ rest)) (to_come (transition r b).state rest)
transition-leads r b rest = go r.left r.refused
  where
    above : nat_le (length (b ∷ rest)) zero ≡ false
    above = grind (arith, nat_tests)

    counted : (k : ℕ) → (suc k == 0) ≡ false
    counted k = grind (arith, nat_tests)

    go : (n : ℕ) (f : Option LogError) →
        let q : LogState = record { tokens = r.tokens; left = n; begun = r.begun; refused = f } in
        Leads (transition q b).answer (to_come q (b ∷ rest)) (to_come (transition q b).state rest)
    go n (Some NoMemory) = refl
    go n (Some (BadLine m)) = (refl, refl)
    go n (Some (Limit m)) = (refl, refl)
    go zero None = rw above (refl, refl)
    go (suc k) None = rw (counted k, sub-one) (byte-leads r.tokens k b r.begun rest)

pub after-refusal : (new : LogState) (rest : List ℕ) (e : LogError) → new.refused ≡ Some e → to_come new rest ≡ stopped e
after-refusal new rest e h = ap (λ f. unless_refused f (open_to_come new rest)) h

-- the answer and the state behind it may be told by equations
told : (a : Result (Option (ℕ × ProofStep)) LogError) (r : LogState) (b : ℕ) (rest : List ℕ) →
    a ≡ (transition r b).answer → Leads a (to_come r (b ∷ rest)) (to_come (transition r b).state rest)
told a r b rest e =
    subst (λ (a : Result (Option (ℕ × ProofStep)) LogError). Leads a (to_come r (b ∷ rest)) (to_come (transition r b).state rest)) (sym e) (transition-leads r b rest)

pub leads : (a : Result (Option (ℕ × ProofStep)) LogError) (new r : LogState) (b : ℕ) (rest : List ℕ) →
    Answers a new (transition r b) → Leads a (to_come r (b ∷ rest)) (to_come new rest)
leads (Ok o) new r b rest (e, f) =
    subst (λ (q : LogState). Leads (Ok o) (to_come r (b ∷ rest)) (to_come q rest)) (sym f) (told (Ok o) r b rest e)
leads (Err NoMemory) new r b rest h = after-refusal new rest NoMemory h
leads (Err (BadLine n)) new r b rest (e, f) = ((told (Err (BadLine n)) r b rest e).0, after-refusal new rest (BadLine n) f)
leads (Err (Limit n)) new r b rest (e, f) = ((told (Err (Limit n)) r b rest e).0, after-refusal new rest (Limit n) f)

-- a token that is refused
pub token-refused : (e : LogError) (q : LogState) (x : Token) (line : ℕ) (b : Option Begun) (ls : List Literal) (new : LogState) →
    Builds (Err e) (move q.begun x) b ls x.line → new.refused ≡ Some e → Answers (Err e) new (token_transition q (Some x))
token-refused NoMemory q x line b ls new h f = f
token-refused (BadLine n) q x line b ls new (h, k) f = rw (h, k) (refl, f ∙ ap (λ n. Some (BadLine n)) k)
token-refused (Limit n) q x line b ls new h f = elim h [ ]
