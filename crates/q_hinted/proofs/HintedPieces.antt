-- What was to come where some bytes came is the answer to them, and then what is to come now.
use Rattle.std.proofs.Common.{◌≡◌, ◌<◌, ◌≤◌, ℕ, zero, suc, ◌+◌, ◌-◌, drop, length-drop, List, [], ◌∷◌, ◌++◌, length, take, get_or, Result, Ok, Err, Option, Some, None, refl, sym, ap, ◌∙◌, arith, subst, add-one, sub-one, append_assoc, ◌==◌, false}
use Rattle.std.proofs.lemmas.Bool.Decides.{nat_tests}
use Rattle.std.proofs.Math.Seq.{take-suc, take-add}
use Rattle.std.proofs.lemmas.List.{length-take-le, take_rest}
use Rattle.q_text.specs.declared.tokens.Token.{Token}
use Rattle.q_text.specs.declared.tokens.Tokens.{Tokens}
use Rattle.q_text.specs.declared.runs.LiteralWord.{LiteralWord}
use Rattle.q_text.specs.Tokens.{after, all_handed, handed, line_of}
use Rattle.q_text.specs.Pieces.{after_all, behind_literal, literal_token, Goes}
use Rattle.q_text.proofs.TokenLaw.{none-listed, rest-listed}
use Rattle.q_log.specs.declared.error.LogError.{LogError}
use Rattle.q_log.specs.declared.error.LogError.TheVariants.{BadLine, Limit, NoMemory}
use Rattle.q_hinted.specs.Grammar.{Place, leads, place_move}
use Rattle.q_hinted.specs.Filled.{Gives}
use Rattle.q_hinted.specs.Logs.{Entry, Entries}
use Rattle.q_hinted.specs.Reading.{BothState, Transition, to_come, transition, token_transition, behind, Answers, Leads, Reads, Brings}
use Rattle.q_hinted.proofs.HintedBytes.{byte-leads, after-refusal, token-refused}

abbrev pub state_of : Tokens → ℕ → Place → Option LogError → BothState
state_of t k s f = record { tokens = t; left = k; place = s; refused = f }

one-silent : (t : Tokens) (k b : ℕ) (s : Place) (rest : List ℕ) → handed t b ≡ None → to_come (state_of t (suc k) s None) (b ∷ rest) ≡ to_come (state_of (after t b) k s None) rest
one-silent t k b s rest e =
    subst (λ (o : Option Token). let T = token_transition (state_of (after t b) k s None) o in Leads T.answer (to_come (state_of t (suc k) s None) (b ∷ rest)) (to_come T.state rest)) e (byte-leads t k b s rest)

silent : (t : Tokens) (k : ℕ) (s : Place) (bs rest : List ℕ) → length bs ≤ k → all_handed t bs ≡ [] → to_come (state_of t k s None) (bs ++ rest) ≡ to_come (state_of (after_all t bs) (k - length bs) s None) rest
silent t k s [] rest l e = let z : k - 0 ≡ k = omega arith in rw z refl
silent t zero s (b ∷ bs) rest l e = absurd (omega arith)
silent t (suc k) s (b ∷ bs) rest l e =
    let z : k - length bs ≡ suc k - suc (length bs) = omega arith in
    one-silent t k b s (bs ++ rest) (none-listed (handed t b) (all_handed (after t b) bs) e)
    ∙ (silent (after t b) k s bs rest (omega arith) (rest-listed (handed t b) (all_handed (after t b) bs) e) ∙ ap (λ j. to_come (state_of (after_all (after t b) bs) j s None) rest) z)

last-leads : (mid new : Tokens) (k b : ℕ) (s : Place) (o : Option Token) (rest : List ℕ) → new ≡ after mid b → o ≡ handed mid b →
    let T = token_transition (state_of new k s None) o in
    Leads T.answer (to_come (state_of mid (suc k) s None) (b ∷ rest)) (to_come T.state rest)
last-leads mid new k b s o rest g h =
    subst (λ (x : Option Token). let T = token_transition (state_of new k s None) x in Leads T.answer (to_come (state_of mid (suc k) s None) (b ∷ rest)) (to_come T.state rest)) (sym h)
    (subst (λ (y : Tokens). let T = token_transition (state_of y k s None) (handed mid b) in Leads T.answer (to_come (state_of mid (suc k) s None) (b ∷ rest)) (to_come T.state rest)) (sym g) (byte-leads mid k b s rest))

goes-leads : (t new : Tokens) (k : ℕ) (s : Place) (piece : List ℕ) (n : ℕ) (o : Option Token) (rest : List ℕ) → length piece ≤ k → Goes t new piece n o →
    let T = token_transition (state_of new (k - n) s None) o in
    Leads T.answer (to_come (state_of t k s None) (take n piece ++ rest)) (to_come T.state rest)
goes-leads t new k s piece n o rest l g =
    let b : ℕ = get_or piece g.front 0 in
    let f : List ℕ = take g.front piece in
    let mid : Tokens = after_all t f in
    let z : length f ≡ g.front = length-take-le g.front piece (omega (arith, g.within)) in
    let e : take n piece ≡ f ++ b ∷ [] = ap (λ j. take j piece) (g.counted ∙ add-one g.front) ∙ take-suc piece g.front 0 g.within in
    let c : k - length f ≡ suc (k - n) = omega (arith, z, g.counted, g.within) in
    let before : to_come (state_of t k s None) (take n piece ++ rest) ≡ to_come (state_of mid (suc (k - n)) s None) (b ∷ rest) =
    ap (λ (x : List ℕ). to_come (state_of t k s None) (x ++ rest)) e
    ∙ (ap (to_come (state_of t k s None)) (append_assoc f (b ∷ []) rest)
    ∙ (silent t k s f (b ∷ rest) (omega (arith, z, g.within)) g.silent ∙ ap (λ j. to_come (state_of mid j s None) (b ∷ rest)) c)) in
    let T = token_transition (state_of new (k - n) s None) o in
    subst (λ (x : Entries). Leads T.answer x (to_come T.state rest)) (sym before) (last-leads mid new (k - n) b s o rest g.state g.handed_out)

answered : (a : Result (Option Entry) LogError) (new : BothState) (T : Transition) (before : Entries) (rest : List ℕ) → Answers a new T → Leads T.answer before (to_come T.state rest) → Leads a before (to_come new rest)
answered (Ok o) new T before rest (e, f) h =
    let g = subst (λ (a : Result (Option Entry) LogError). Leads a before (to_come T.state rest)) (sym e) h in
    subst (λ (q : BothState). Leads (Ok o) before (to_come q rest)) (sym f) g
answered (Err NoMemory) new T before rest e h = after-refusal new rest NoMemory e
answered (Err (BadLine n)) new T before rest (e, f) h =
    let g = subst (λ (a : Result (Option Entry) LogError). Leads a before (to_come T.state rest)) (sym e) h in
    (g.0, after-refusal new rest (BadLine n) f)
answered (Err (Limit n)) new T before rest (e, f) h =
    let g = subst (λ (a : Result (Option Entry) LogError). Leads a before (to_come T.state rest)) (sym e) h in
    (g.0, after-refusal new rest (Limit n) f)

pub next-leads : (v s new : BothState) (tokens : Tokens) (piece : List ℕ) (n : ℕ) (o : Option Token) (a : Result (Option Entry) LogError) → v ≡ s → v.refused ≡ None → length piece ≤ v.left → Goes v.tokens tokens piece n o
    → Answers a new (token_transition (state_of tokens (v.left - n) v.place v.refused) o) → (rest : List ℕ) → Leads a (to_come s (take n piece ++ rest)) (to_come new rest)
next-leads v s new tokens piece n o a is r l g h rest =
    let w : BothState = state_of v.tokens v.left v.place None in
    let e : w ≡ s = ap (λ (f : Option LogError). state_of v.tokens v.left v.place f) (sym r) ∙ is in
    let k = subst (λ (f : Option LogError). Answers a new (token_transition (state_of tokens (v.left - n) v.place f) o)) r h in
    let T = token_transition (state_of tokens (v.left - n) v.place None) o in
    let m = answered a new T (to_come w (take n piece ++ rest)) rest k (goes-leads v.tokens tokens v.left v.place piece n o rest l g) in
    subst (λ (q : BothState). Leads a (to_come q (take n piece ++ rest)) (to_come new rest)) e m

-- the state behind bytes that hand out nothing
one-behind : (t : Tokens) (k b : ℕ) (s : Place) → handed t b ≡ None → (transition (state_of t (suc k) s None) b).state ≡ state_of (after t b) k s None
one-behind t k b s e = rw (counted, sub-one, e) refl
  where
    counted : (suc k == 0) ≡ false
    counted = grind (arith, nat_tests)

silent-behind : (t : Tokens) (k : ℕ) (s : Place) (bs rest : List ℕ) → length bs ≤ k → all_handed t bs ≡ [] → behind (state_of t k s None) (bs ++ rest) ≡ behind (state_of (after_all t bs) (k - length bs) s None) rest
silent-behind t k s [] rest l e = let z : k - 0 ≡ k = omega arith in rw z refl
silent-behind t zero s (b ∷ bs) rest l e = absurd (omega arith)
silent-behind t (suc k) s (b ∷ bs) rest l e =
    let z : k - length bs ≡ suc k - suc (length bs) = omega arith in
    ap (λ (q : BothState). behind q (bs ++ rest)) (one-behind t k b s (none-listed (handed t b) (all_handed (after t b) bs) e))
    ∙ (silent-behind (after t b) k s bs rest (omega arith) (rest-listed (handed t b) (all_handed (after t b) bs) e) ∙ ap (λ j. behind (state_of (after_all (after t b) bs) j s None) rest) z)

last-behind : (mid new : Tokens) (k b : ℕ) (s : Place) (o : Option Token) → new ≡ after mid b → o ≡ handed mid b → behind (state_of mid (suc k) s None) (b ∷ []) ≡ (token_transition (state_of new k s None) o).state
last-behind mid new k b s o g h = turned ∙ (ap (λ (y : Tokens). (token_transition (state_of y k s None) (handed mid b)).state) (sym g) ∙ ap (λ (x : Option Token). (token_transition (state_of new k s None) x).state) (sym h))
  where
    counted : (suc k == 0) ≡ false
    counted = grind (arith, nat_tests)

    turned : (transition (state_of mid (suc k) s None) b).state ≡ (token_transition (state_of (after mid b) k s None) (handed mid b)).state
    turned = rw (counted, sub-one) refl

goes-behind : (t new : Tokens) (k : ℕ) (s : Place) (piece : List ℕ) (n : ℕ) (o : Option Token) → length piece ≤ k → Goes t new piece n o →
    behind (state_of t k s None) (take n piece) ≡ (token_transition (state_of new (k - n) s None) o).state
goes-behind t new k s piece n o l g =
    let b : ℕ = get_or piece g.front 0 in
    let f : List ℕ = take g.front piece in
    let mid : Tokens = after_all t f in
    let z : length f ≡ g.front = length-take-le g.front piece (omega (arith, g.within)) in
    let e : take n piece ≡ f ++ b ∷ [] = ap (λ j. take j piece) (g.counted ∙ add-one g.front) ∙ take-suc piece g.front 0 g.within in
    let c : k - length f ≡ suc (k - n) = omega (arith, z, g.counted, g.within) in
    ap (behind (state_of t k s None)) e
    ∙ (silent-behind t k s f (b ∷ []) (omega (arith, z, g.within)) g.silent
    ∙ (ap (λ j. behind (state_of mid j s None) (b ∷ [])) c ∙ last-behind mid new (k - n) b s o g.state g.handed_out))

pub next-behind : (v s new : BothState) (tokens : Tokens) (piece : List ℕ) (n : ℕ) (o : Option Token) (a : Option Entry) → v ≡ s → v.refused ≡ None → length piece ≤ v.left → Goes v.tokens tokens piece n o
    → Answers (Ok a) new (token_transition (state_of tokens (v.left - n) v.place v.refused) o) → new ≡ behind s (take n piece)
next-behind v s new tokens piece n o a is r l g h =
    let w : BothState = state_of v.tokens v.left v.place None in
    let e : w ≡ s = ap (λ (f : Option LogError). state_of v.tokens v.left v.place f) (sym r) ∙ is in
    let k = subst (λ (f : Option LogError). Answers (Ok a) new (token_transition (state_of tokens (v.left - n) v.place f) o)) r h in
    k.1 ∙ (sym (goes-behind v.tokens tokens v.left v.place piece n o l g) ∙ ap (λ (q : BothState). behind q (take n piece)) e)

-- a literal at the front of the piece
pub literal-goes : (v s : BothState) (new : Tokens) (k : ℕ) (piece : List ℕ) (w : LiteralWord) → v ≡ s → new ≡ behind_literal v.tokens → k ≡ line_of v.tokens
    → Goes s.tokens (behind_literal s.tokens) piece (w.len + 1) (Some (literal_token w.lit (line_of s.tokens))) → Goes v.tokens new piece (w.len + 1) (Some (literal_token w.lit k))
literal-goes v s new k piece w e f l h =
    let g = subst (λ (x : BothState). Goes x.tokens (behind_literal x.tokens) piece (w.len + 1) (Some (literal_token w.lit (line_of x.tokens)))) (sym e) h in
    let m = subst (λ (n : Tokens). Goes v.tokens n piece (w.len + 1) (Some (literal_token w.lit (line_of v.tokens)))) (sym f) g in
    subst (λ (j : ℕ). Goes v.tokens new piece (w.len + 1) (Some (literal_token w.lit j))) (sym l) m

-- a token that is to be tried yet
pub reads-token : (v s new : BothState) (tokens : Tokens) (piece : List ℕ) (n : ℕ) (o : Option Token) → v ≡ s → s.refused ≡ None → length piece ≤ s.left → Goes v.tokens tokens piece n o
    → new ≡ state_of tokens (v.left - n) v.place v.refused → (0 < n) × Reads s new piece n o
reads-token v s new tokens piece n o is unrefused room g h =
    let r : v.refused ≡ None = ap (λ (x : BothState). x.refused) is ∙ unrefused in
    let l : length piece ≤ v.left = subst (λ (x : BothState). length piece ≤ x.left) (sym is) room in
    let e : state_of v.tokens v.left v.place None ≡ s = ap (λ (f : Option LogError). state_of v.tokens v.left v.place f) (sym r) ∙ is in
    let q : BothState = state_of tokens (v.left - n) v.place None in
    let k : q ≡ new = ap (λ (f : Option LogError). state_of tokens (v.left - n) v.place f) (sym r) ∙ sym h in
    let left : q.left + n ≡ v.left = omega (arith, g.counted, g.within, l) in
    let one : Reads s q piece n o = record {
      within = omega (arith, g.counted, g.within);
      unrefused = refl;
      left = left ∙ ap (λ (x : BothState). x.left) is;
      state = ap (λ (x : BothState). behind x (take n piece)) (sym e) ∙ goes-behind v.tokens tokens v.left v.place piece n o l g;
      leads = λ rest. subst (λ (x : BothState). Leads (token_transition q o).answer (to_come x (take n piece ++ rest)) (to_come (token_transition q o).state rest)) e (goes-leads v.tokens tokens v.left v.place piece n o rest l g);
    } in
    (omega (arith, g.counted), subst (λ (x : BothState). Reads s x piece n o) k one)

-- a token that leads on
pub reads-on : (v s : BothState) (tokens : Tokens) (piece : List ℕ) (n : ℕ) (t : Token) (now : Place) → v ≡ s → s.refused ≡ None → length piece ≤ s.left → Goes v.tokens tokens piece n (Some t)
    → place_move v.place t ≡ leads now → (0 < n) × Reads s (state_of tokens (v.left - n) now v.refused) piece n None
reads-on v s tokens piece n t now is unrefused room g m =
    let r : v.refused ≡ None = ap (λ (x : BothState). x.refused) is ∙ unrefused in
    let l : length piece ≤ v.left = subst (λ (x : BothState). length piece ≤ x.left) (sym is) room in
    let new : BothState = state_of tokens (v.left - n) now v.refused in
    let h : Answers (Ok None) new (token_transition (state_of tokens (v.left - n) v.place v.refused) (Some t)) = rw m (refl, refl) in
    let counted : (v.left - n) + n ≡ v.left = omega (arith, g.counted, g.within, l) in (
      omega (arith, g.counted),
      record {
        within = omega (arith, g.counted, g.within);
        unrefused = r;
        left = counted ∙ ap (λ (x : BothState). x.left) is;
        state = sym (next-behind v s new tokens piece n (Some t) None is r l g h);
        leads = next-leads v s new tokens piece n (Some t) (Ok None) is r l g h;
      },
    )

-- a token that does not fit
pub stops-at : (v s : BothState) (tokens : Tokens) (piece : List ℕ) (n : ℕ) (t : Token) (now after : Place) (e : LogError) → v ≡ s → s.refused ≡ None → length piece ≤ s.left → Goes v.tokens tokens piece n (Some t)
    → Gives (Err e) (place_move v.place t) now t.line → Brings (Err e) s (state_of tokens (v.left - n) after (Some e)) piece
stops-at v s tokens piece n t now after e is unrefused room g m =
    let r : v.refused ≡ None = ap (λ (x : BothState). x.refused) is ∙ unrefused in
    let l : length piece ≤ v.left = subst (λ (x : BothState). length piece ≤ x.left) (sym is) room in
    let new : BothState = state_of tokens (v.left - n) after (Some e) in
    let h : Answers (Err e) new (token_transition (state_of tokens (v.left - n) v.place v.refused) (Some t)) = token-refused e (state_of tokens (v.left - n) v.place v.refused) t now new m refl in
    (refl, n, next-leads v s new tokens piece n (Some t) (Err e) is r l g h)

behind-more : (r : BothState) (bs cs : List ℕ) → behind r (bs ++ cs) ≡ behind (behind r bs) cs
behind-more r [] cs = refl
behind-more r (b ∷ bs) cs = behind-more (transition r b).state bs cs

-- further bytes
further : (a b : BothState) (piece : List ℕ) (m n : ℕ) (rest : List ℕ) → Reads a b piece m None → to_come a (take (m + n) piece ++ rest) ≡ to_come b (take n (drop m piece) ++ rest)
further a b piece m n rest r =
    ap (λ (x : List ℕ). to_come a (x ++ rest)) (take-add m n piece)
    ∙ (ap (to_come a) (append_assoc (take m piece) (take n (drop m piece)) rest) ∙ r.leads (take n (drop m piece) ++ rest))

pub reads-more : (a b c : BothState) (piece : List ℕ) (m n : ℕ) (o : Option Token) → Reads a b piece m None → Reads b c (take (length piece - m) (drop m piece)) n o → Reads a c piece (m + n) o
reads-more a b c piece m n o r h =
    let s = rw take_rest at h in
    record {
      within = omega (arith, s.within, length-drop m piece, r.within);
      unrefused = s.unrefused;
      left = omega (arith, s.left, r.left);
      state = ap (behind a) (take-add m n piece) ∙ (behind-more a (take m piece) (take n (drop m piece)) ∙ (ap (λ (x : BothState). behind x (take n (drop m piece))) r.state ∙ s.state));
      leads = λ rest. subst (λ (x : Entries). Leads (token_transition c o).answer x (to_come (token_transition c o).state rest)) (sym (further a b piece m n rest r)) (s.leads rest);
    }

pub stops-behind : (a b c : BothState) (piece : List ℕ) (m : ℕ) (e : LogError) → Reads a b piece m None → Brings (Err e) b c (take (length piece - m) (drop m piece))
    → (n : ℕ) × ((rest : List ℕ) → Leads (Err e) (to_come a (take n piece ++ rest)) (to_come c rest))
stops-behind a b c piece m e r h =
    let s = rw take_rest at h.2 in (
      m + h.1,
      λ rest. subst (λ (x : Entries). Leads (Err e) x (to_come c rest)) (sym (further a b piece m h.1 rest r)) (s rest),
    )

pub answer-leads : (a c new : BothState) (piece : List ℕ) (n : ℕ) (o : Option Token) (x : Result (Option Entry) LogError) → Reads a c piece n o → Answers x new (token_transition c o) → (rest : List ℕ) → Leads x (to_come a (take n piece ++ rest)) (to_come new rest)
answer-leads a c new piece n o x r h rest = answered x new (token_transition c o) (to_come a (take n piece ++ rest)) rest h (r.leads rest)
