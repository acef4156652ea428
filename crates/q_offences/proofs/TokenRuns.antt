-- A reader that goes from state to state, token by token: it stops where no text goes on, if each state that it comes to can be ended.
use Rattle.std.proofs.Common.{◌≡◌, ℕ, Bool, true, false, List, [], ◌∷◌, ◌++◌, Option, Some, None, refl, ap, sym, ◌∙◌}
use Rattle.q_text.specs.declared.tokens.Token.{Token}
use Rattle.q_offences.specs.Fronts.{MayGoOn, IsBadToken, IsBadEnd}

pub data Run (S : Type 0) : Type 0 where
  reached : S → Run S
  stopped : ℕ → Run S

abbrev pub go_on : {S : Type 0} → Option S → ℕ → (S → Run S) → Run S
go_on None line later = stopped line
go_on (Some s) line later = later s

abbrev pub run : {S : Type 0} → (S → Token → Option S) → S → List Token → Run S
run step s [] = reached s
run step s (t ∷ ts) = go_on (step s t) t.line (λ q. run step q ts)

abbrev then_run : {S : Type 0} → (S → Token → Option S) → Run S → List Token → Run S
then_run step (reached s) ts = run step s ts
then_run step (stopped n) ts = stopped n

run-append : {S : Type 0} (step : S → Token → Option S) (s : S) (ss ts : List Token) → run step s (ss ++ ts) ≡ then_run step (run step s ss) ts
run-append step s [] ts = refl
run-append {S} step s (x ∷ ss) ts = go (step s x) (λ q. run-append step q ss ts) where
  go : (o : Option S) → ((q : S) → run step q (ss ++ ts) ≡ then_run step (run step q ss) ts) → go_on o x.line (λ q. run step q (ss ++ ts)) ≡ then_run step (go_on o x.line (λ q. run step q ss)) ts
  go None ih = refl
  go (Some q) ih = ih q

abbrev pub Ends : {S : Type 0} → (S → Token → Option S) → (S → Bool) → S → List Token → Type 0
Ends {S} step whole s ts = (e : S) × (run step s ts ≡ reached e) × (whole e ≡ true)

-- the reader of some kind of text
pub record Reads {S : Type 0} (IsText : List Token → Type 0) (step : S → Token → Option S) (whole : S → Bool) (start : S) : Type 0 where
  pub takes : (ts : List Token) → IsText ts → Ends step whole start ts
  pub takes_only : (ts : List Token) → Ends step whole start ts → IsText ts
  pub can_end : (ts : List Token) (s : S) → run step start ts ≡ reached s → (more : List Token) × Ends step whole s more

-- the token at which it stops
pub record Stops {S : Type 0} (step : S → Token → Option S) (s : S) (ts : List Token) (n : ℕ) : Type 0 where
  pub front : List Token
  pub token : Token
  pub rest : List Token
  pub state : S
  pub are : ts ≡ front ++ token ∷ rest
  pub comes : run step s front ≡ reached state
  pub stuck : step state token ≡ None
  pub line : n ≡ token.line

stops : {S : Type 0} (step : S → Token → Option S) (s : S) (ts : List Token) (n : ℕ) → run step s ts ≡ stopped n → Stops step s ts n
stops step s [] n e = cc
stops {S} step s (t ∷ ts) n e = go (step s t) refl e (λ q. stops step q ts n) where
  go : (o : Option S) → step s t ≡ o → go_on o t.line (λ q. run step q ts) ≡ stopped n → ((q : S) → run step q ts ≡ stopped n → Stops step q ts n) → Stops step s (t ∷ ts) n
  go None i f ih = record { front = []; token = t; rest = ts; state = s; are = refl; comes = refl; stuck = i; line = cc }
  go (Some q) i f ih =
      let r = ih q f in
      record {
        front = t ∷ r.front;
        token = r.token;
        rest = r.rest;
        state = r.state;
        are = ap (λ us. t ∷ us) r.are;
        comes = ap (λ o. go_on o t.line (λ q. run step q r.front)) i ∙ r.comes;
        stuck = r.stuck;
        line = r.line;
      }

abbrev Comes : {S : Type 0} → (S → Token → Option S) → S → List Token → Type 0
Comes {S} step s ts = (q : S) × (run step s ts ≡ reached q)

front-comes : {S : Type 0} (step : S → Token → Option S) (s : S) (ts more : List Token) → Comes step s (ts ++ more) → Comes step s ts
front-comes {S} step s ts more (q, e) = go (run step s ts) refl (sym (run-append step s ts more) ∙ e) where
  go : (r : Run S) → run step s ts ≡ r → then_run step r more ≡ reached q → Comes step s ts
  go (reached p) i f = (p, i)
  go (stopped n) i f = cc

pub goes-on-comes : {S : Type 0} (IsText : List Token → Type 0) (step : S → Token → Option S) (whole : S → Bool) (start : S) → Reads IsText step whole start → (ts : List Token) → MayGoOn IsText ts → Comes step start ts
goes-on-comes IsText step whole start r ts (more, h) = let e = r.takes (ts ++ more) h in front-comes step start ts more (e.0, e.1)

pub comes-goes-on : {S : Type 0} (IsText : List Token → Type 0) (step : S → Token → Option S) (whole : S → Bool) (start : S) → Reads IsText step whole start → (ts : List Token) (s : S) → run step start ts ≡ reached s → MayGoOn IsText ts
comes-goes-on IsText step whole start r ts s e =
    let c = r.can_end ts s e in
    (c.0, r.takes_only (ts ++ c.0) (c.1.0, run-append step start ts c.0 ∙ (ap (λ x. then_run step x c.0) e ∙ c.1.1), c.1.2))

one-more : {S : Type 0} (step : S → Token → Option S) (start s : S) (ts : List Token) (t : Token) (o : Option S) → run step start ts ≡ reached s → step s t ≡ o → run step start (ts ++ t ∷ []) ≡ go_on o t.line (λ q. reached q)
one-more step start s ts t o e f = run-append step start ts (t ∷ []) ∙ (ap (λ x. then_run step x (t ∷ [])) e ∙ ap (λ o. go_on o t.line (λ q. reached q)) f)

pub stopped-bad : {S : Type 0} (IsText : List Token → Type 0) (step : S → Token → Option S) (whole : S → Bool) (start : S) → Reads IsText step whole start → (ts : List Token) (n : ℕ) → run step start ts ≡ stopped n → IsBadToken IsText ts n
stopped-bad IsText step whole start r ts n e =
    let s = stops step start ts n e in
    record {
      front = s.front;
      token = s.token;
      rest = s.rest;
      are = s.are;
      before = comes-goes-on IsText step whole start r s.front s.state s.comes;
      after = λ h. (let c = goes-on-comes IsText step whole start r (s.front ++ s.token ∷ []) h in let d = one-more step start s.state s.front s.token None s.comes s.stuck in let f = c.1 in cc);
      line_is = s.line;
    }

pub bad-stopped : {S : Type 0} (IsText : List Token → Type 0) (step : S → Token → Option S) (whole : S → Bool) (start : S) → Reads IsText step whole start → (ts : List Token) (n : ℕ) → IsBadToken IsText ts n → run step start ts ≡ stopped n
bad-stopped {S} IsText step whole start r ts n b = go (goes-on-comes IsText step whole start r b.front b.before) where
  go : Comes step start b.front → run step start ts ≡ stopped n
  go (s, e) = by (step s b.token) refl where
    by : (o : Option S) → step s b.token ≡ o → run step start ts ≡ stopped n
    by (Some q) i = absurd (b.after (comes-goes-on IsText step whole start r (b.front ++ b.token ∷ []) q (one-more step start s b.front b.token (Some q) e i)))
    by None i =
        ap (λ us. run step start us) b.are ∙ (run-append step start b.front (b.token ∷ b.rest)
        ∙ (ap (λ x. then_run step x (b.token ∷ b.rest)) e ∙ (ap (λ o. go_on o b.token.line (λ q. run step q b.rest)) i ∙ ap (λ x. stopped x) (sym b.line_is))))

pub reached-bad : {S : Type 0} (IsText : List Token → Type 0) (step : S → Token → Option S) (whole : S → Bool) (start : S) → Reads IsText step whole start → (ts : List Token) (last : ℕ) (s : S) → run step start ts ≡ reached s → whole s ≡ false → IsBadEnd IsText ts last last
reached-bad IsText step whole start r ts last s e w = record {
  before = comes-goes-on IsText step whole start r ts s e;
  not_whole = λ h. (let c = r.takes ts h in let i : s ≡ c.0 = let f = c.1 in cc in let g = ap whole i in let k = c.2 in cc);
  line_is = refl;
}

pub bad-reached : {S : Type 0} (IsText : List Token → Type 0) (step : S → Token → Option S) (whole : S → Bool) (start : S) → Reads IsText step whole start → (ts : List Token) (last n : ℕ) → IsBadEnd IsText ts last n → (s : S) × (run step start ts ≡ reached s) × (whole s ≡ false)
bad-reached {S} IsText step whole start r ts last n b = go (goes-on-comes IsText step whole start r ts b.before) where
  go : Comes step start ts → (s : S) × (run step start ts ≡ reached s) × (whole s ≡ false)
  go (s, e) = by (whole s) refl where
    by : (x : Bool) → whole s ≡ x → (s : S) × (run step start ts ≡ reached s) × (whole s ≡ false)
    by true i = absurd (b.not_whole (r.takes_only ts (s, e, i)))
    by false i = (s, e, i)
