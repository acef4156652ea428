-- What was to come where some bytes came is the answer to them, and then what is to come now.
use Rattle.std.proofs.Common.{◌≡◌, ◌<◌, ◌≤◌, ℕ, zero, suc, ◌-◌, List, [], ◌∷◌, ◌++◌, length, take, get_or, Result, Ok, Err, Option, None, refl, sym, ap, ◌∙◌, arith, subst, add-one, append_assoc}
use Rattle.std.proofs.Math.Seq.{take-suc}
use Rattle.std.proofs.lemmas.List.{length-take-le}
use Rattle.q_logic.specs.Prelude.{ProofStep}
use Rattle.q_text.specs.declared.tokens.Token.{Token}
use Rattle.q_text.specs.declared.tokens.Tokens.{Tokens}
use Rattle.q_text.specs.Tokens.{after, all_handed, handed}
use Rattle.q_text.specs.Pieces.{after_all, Goes}
use Rattle.q_text.proofs.TokenLaw.{none-listed, rest-listed}
use Rattle.q_log.specs.declared.error.LogError.{LogError}
use Rattle.q_log.specs.declared.error.LogError.TheVariants.{BadLine, Limit, NoMemory}
use Rattle.q_log.specs.Grammar.{OpenStep}
use Rattle.q_log.specs.Logs.{Parsed}
use Rattle.q_log.specs.Reading.{LogState, Transition, to_come, token_transition, Answers, Leads}
use Rattle.q_log.proofs.LogBytes.{byte-leads, after-refusal}

abbrev pub state_of : Tokens → ℕ → Option OpenStep → Option LogError → LogState
state_of t k s f = record { tokens = t; left = k; begun = s; refused = f }

one-silent : (t : Tokens) (k b : ℕ) (s : Option OpenStep) (rest : List ℕ) → handed t b ≡ None → to_come (state_of t (suc k) s None) (b ∷ rest) ≡ to_come (state_of (after t b) k s None) rest
one-silent t k b s rest e =
    subst (λ (o : Option Token). let T = token_transition (state_of (after t b) k s None) o in Leads T.answer (to_come (state_of t (suc k) s None) (b ∷ rest)) (to_come T.state rest)) e (byte-leads t k b s rest)

silent : (t : Tokens) (k : ℕ) (s : Option OpenStep) (bs rest : List ℕ) → length bs ≤ k → all_handed t bs ≡ [] → to_come (state_of t k s None) (bs ++ rest) ≡ to_come (state_of (after_all t bs) (k - length bs) s None) rest
silent t k s [] rest l e = let z : k - 0 ≡ k = omega arith in rw z refl
silent t zero s (b ∷ bs) rest l e = absurd (omega arith)
silent t (suc k) s (b ∷ bs) rest l e =
    let z : k - length bs ≡ suc k - suc (length bs) = omega arith in
    one-silent t k b s (bs ++ rest) (none-listed (handed t b) (all_handed (after t b) bs) e)
    ∙ (silent (after t b) k s bs rest (omega arith) (rest-listed (handed t b) (all_handed (after t b) bs) e) ∙ ap (λ j. to_come (state_of (after_all (after t b) bs) j s None) rest) z)

last-leads : (mid new : Tokens) (k b : ℕ) (s : Option OpenStep) (o : Option Token) (rest : List ℕ) → new ≡ after mid b → o ≡ handed mid b →
    let T = token_transition (state_of new k s None) o in
    Leads T.answer (to_come (state_of mid (suc k) s None) (b ∷ rest)) (to_come T.state rest)
last-leads mid new k b s o rest g h =
    subst (λ (x : Option Token). let T = token_transition (state_of new k s None) x in Leads T.answer (to_come (state_of mid (suc k) s None) (b ∷ rest)) (to_come T.state rest)) (sym h)
    (subst (λ (y : Tokens). let T = token_transition (state_of y k s None) (handed mid b) in Leads T.answer (to_come (state_of mid (suc k) s None) (b ∷ rest)) (to_come T.state rest)) (sym g) (byte-leads mid k b s rest))

goes-leads : (t new : Tokens) (k : ℕ) (s : Option OpenStep) (piece : List ℕ) (n : ℕ) (o : Option Token) (rest : List ℕ) → length piece ≤ k → Goes t new piece n o →
    let T = token_transition (state_of new (k - n) s None) o in
    Leads T.answer (to_come (state_of t k s None) (take n piece ++ rest)) (to_come T.state rest)
goes-leads t new k s piece n o rest l g =
    let b : ℕ = get_or piece g.front 0 in
    let f : List ℕ = take g.front piece in
    let mid : Tokens = after_all t f in
    let z : length f ≡ g.front = length-take-le g.front piece (omega (arith, g.within)) in
    let e : take n piece ≡ f ++ b ∷ [] = ap (λ j. take j piece) (g.counted ∙ add-one g.front) ∙ take-suc piece g.front 0 g.within in
    let c : k - length f ≡ suc (k - n) = omega (arith, z, g.counted, g.within) in
    let before : to_come (state_of t k s None) (take n piece ++ rest) ≡ to_come (state_of mid (suc (k - n)) s None) (b ∷ rest) =
    ap (λ (x : List ℕ). to_come (state_of t k s None) (x ++ rest)) e
    ∙ (ap (to_come (state_of t k s None)) (append_assoc f (b ∷ []) rest)
    ∙ (silent t k s f (b ∷ rest) (omega (arith, z, g.within)) g.silent ∙ ap (λ j. to_come (state_of mid j s None) (b ∷ rest)) c)) in
    let T = token_transition (state_of new (k - n) s None) o in
    subst (λ (x : Parsed). Leads T.answer x (to_come T.state rest)) (sym before) (last-leads mid new (k - n) b s o rest g.state g.handed_out)

answered : (a : Result (Option (ℕ × ProofStep)) LogError) (new : LogState) (T : Transition) (before : Parsed) (rest : List ℕ) → Answers a new T → Leads T.answer before (to_come T.state rest) → Leads a before (to_come new rest)
answered (Ok o) new T before rest (e, f) h =
    let g = subst (λ (a : Result (Option (ℕ × ProofStep)) LogError). Leads a before (to_come T.state rest)) (sym e) h in
    subst (λ (q : LogState). Leads (Ok o) before (to_come q rest)) (sym f) g
answered (Err NoMemory) new T before rest e h = after-refusal new rest NoMemory e
answered (Err (BadLine n)) new T before rest (e, f) h =
    let g = subst (λ (a : Result (Option (ℕ × ProofStep)) LogError). Leads a before (to_come T.state rest)) (sym e) h in
    (g.0, after-refusal new rest (BadLine n) f)
answered (Err (Limit n)) new T before rest (e, f) h =
    let g = subst (λ (a : Result (Option (ℕ × ProofStep)) LogError). Leads a before (to_come T.state rest)) (sym e) h in
    (g.0, after-refusal new rest (Limit n) f)

pub next-leads : (v s new : LogState) (tokens : Tokens) (piece : List ℕ) (n : ℕ) (o : Option Token) (a : Result (Option (ℕ × ProofStep)) LogError) → v ≡ s → v.refused ≡ None → length piece ≤ v.left → Goes v.tokens tokens piece n o
    → Answers a new (token_transition (state_of tokens (v.left - n) v.begun v.refused) o) → (rest : List ℕ) → Leads a (to_come s (take n piece ++ rest)) (to_come new rest)
next-leads v s new tokens piece n o a is r l g h rest =
    let w : LogState = state_of v.tokens v.left v.begun None in
    let e : w ≡ s = ap (λ (f : Option LogError). state_of v.tokens v.left v.begun f) (sym r) ∙ is in
    let k = subst (λ (f : Option LogError). Answers a new (token_transition (state_of tokens (v.left - n) v.begun f) o)) r h in
    let T = token_transition (state_of tokens (v.left - n) v.begun None) o in
    let m = answered a new T (to_come w (take n piece ++ rest)) rest k (goes-leads v.tokens tokens v.left v.begun piece n o rest l g) in
    subst (λ (q : LogState). Leads a (to_come q (take n piece ++ rest)) (to_come new rest)) e m

pub take-one : (bs : List ℕ) → 0 < length bs → take 1 bs ≡ get_or bs 0 0 ∷ []
take-one [] h = absurd (omega arith)
take-one (b ∷ bs) h = refl
