-- Each step that has begun can be ended.
use Rattle.std.proofs.Common.{◌≡◌, ◌≤◌, ◌<◌, ◌⊎◌, ◌∙◌, inl, inr, refl, sym, ap, arith, subst, ℕ, Bool, true, false, if◌then◌else◌, nat_lt, nat_le, ◌+◌, List, [], ◌∷◌, ◌++◌, length, take, Option, Some, None, ℤ, pos, negsuc}
use Rattle.std.specs.Prelude.{◌==◌}
use Rattle.std.proofs.lemmas.Bool.Decides.{nat_tests}
use Rattle.q_logic.specs.declared.steps.Kind.{Kind}
use Rattle.q_logic.specs.declared.steps.Kind.TheVariants.{Add, Delete, Drop, Fresh, Remove}
use Rattle.q_logic.specs.Prelude.{Literal, ProofStep, step_of}
use Rattle.q_text.specs.declared.tokens.Token.{Token}
use Rattle.q_text.specs.declared.tokens.TokenKind.{TokenKind}
use Rattle.q_text.specs.declared.tokens.TokenKind.TheVariants.{Number, P, Cnf, Qrat, E, A, D, U, R, Other}
use Rattle.q_log.specs.declared.error.LogError.TheVariants.{BadLine, Limit}
use Rattle.q_log.specs.Grammar.{OpenStep, Move, ends_step, goes_on, unfit, is_whole, has_room, with_literal, if_small, with_zero, with_number, empty_step, first_move, next_move, move}
use Rattle.q_log.specs.Logs.{Parsed, parsed, follow, at_end, past_limit, read}
use Rattle.q_text.specs.Texts.{tokens_of, tokens_ended, line_after}
use Rattle.q_log.specs.Fronts.{EndsLog, MayEndLog, IsFirstUnfit, IsUnended, RefusalsAreLeast}

abbrev zero_token : Token
zero_token = record { kind = Number (pos 0); line = 0 }

abbrev one_token : Token
one_token = record { kind = Number (pos 1); line = 0 }

abbrev one : Literal
one = record { var = 1; negative = false }

-- a step that has begun has no more literals than its kind may have
abbrev IsOpenAs : Kind → List Literal → Type 0
IsOpenAs Add ls = Unit {0}
IsOpenAs Delete ls = Unit {0}
IsOpenAs Drop ls = Unit {0}
IsOpenAs Fresh ls = length ls ≤ 2
IsOpenAs Remove ls = length ls ≤ 1

abbrev IsOpen : Option OpenStep → Type 0
IsOpen None = Unit {0}
IsOpen (Some o) = IsOpenAs o.kind o.lits

-- a 0 ends a whole step
zero-ends : (n : ℕ) (k : Kind) (ls : List Literal) → is_whole k ls ≡ true → EndsLog (Some (record { line = n; kind = k; lits = ls })) (zero_token ∷ [])
zero-ends n k ls e m = rw e refl

-- a variable goes on where there is room
one-goes_on : (n : ℕ) (k : Kind) (ls : List Literal) (ts : List Token) → has_room k ls false ≡ true → EndsLog (Some (record { line = n; kind = k; lits = ls ++ one ∷ [] })) ts → EndsLog (Some (record { line = n; kind = k; lits = ls })) (one_token ∷ ts)
one-goes_on n k ls ts e h m = rw e (h m)

can-end : (n : ℕ) (k : Kind) (ls : List Literal) → IsOpenAs k ls → MayEndLog (Some (record { line = n; kind = k; lits = ls })) []
can-end n Add ls h = (zero_token ∷ [], zero-ends n Add ls refl)
can-end n Delete ls h = (zero_token ∷ [], zero-ends n Delete ls refl)
can-end n Drop [] h = (one_token ∷ zero_token ∷ [], one-goes_on n Drop [] (zero_token ∷ []) refl (zero-ends n Drop (one ∷ []) refl))
can-end n Drop (l ∷ ls) h = (zero_token ∷ [], zero-ends n Drop (l ∷ ls) (grind arith))
can-end n Fresh [] h = (one_token ∷ one_token ∷ zero_token ∷ [], one-goes_on n Fresh [] (one_token ∷ zero_token ∷ []) refl (one-goes_on n Fresh (one ∷ []) (zero_token ∷ []) refl (zero-ends n Fresh (one ∷ one ∷ []) refl)))
can-end n Fresh (a ∷ []) h = (one_token ∷ zero_token ∷ [], one-goes_on n Fresh (a ∷ []) (zero_token ∷ []) refl (zero-ends n Fresh (a ∷ one ∷ []) refl))
can-end n Fresh (a ∷ b ∷ []) h = (zero_token ∷ [], zero-ends n Fresh (a ∷ b ∷ []) refl)
can-end n Fresh (a ∷ b ∷ d ∷ ls) h = absurd (omega (arith, h))
can-end n Remove [] h = (one_token ∷ zero_token ∷ [], one-goes_on n Remove [] (zero_token ∷ []) refl (zero-ends n Remove (one ∷ []) refl))
can-end n Remove (a ∷ []) h = (zero_token ∷ [], zero-ends n Remove (a ∷ []) refl)
can-end n Remove (a ∷ b ∷ ls) h = absurd (omega (arith, h))

may-end : (b : Option OpenStep) → IsOpen b → MayEndLog b []
may-end None h = ([], λ m. refl)
may-end (Some o) h = can-end o.line o.kind o.lits h

-- one more literal leaves it so
room-kept : (k : Kind) (ls : List Literal) (l : Literal) → has_room k ls l.negative ≡ true → IsOpenAs k (ls ++ l ∷ [])
room-kept Add ls l e = tt
room-kept Delete ls l e = tt
room-kept Drop ls l e = tt
room-kept Fresh ls l e = fresh ls l l.negative e
  where
    fresh : (ls : List Literal) (l : Literal) (s : Bool) → has_room Fresh ls s ≡ true → length (ls ++ l ∷ []) ≤ 2
    fresh [] l s e = omega arith
    fresh (a ∷ []) l s e = omega arith
    fresh (a ∷ b ∷ ls) l true e = cc
    fresh (a ∷ b ∷ ls) l false e = absurd (grind (arith, e))
room-kept Remove ls l e = remove ls l l.negative e
  where
    remove : (ls : List Literal) (l : Literal) (s : Bool) → has_room Remove ls s ≡ true → length (ls ++ l ∷ []) ≤ 1
    remove [] l s e = omega arith
    remove (a ∷ ls) l true e = cc
    remove (a ∷ ls) l false e = absurd (grind (arith, e))

literal-open : (o p : OpenStep) (l : Literal) → with_literal o l ≡ goes_on p → IsOpen (Some p)
literal-open o p l e = go (has_room o.kind o.lits l.negative) refl e
  where
    go : (t : Bool) → has_room o.kind o.lits l.negative ≡ t → (if t then goes_on (record { line = o.line; kind = o.kind; lits = o.lits ++ l ∷ [] }) else unfit) ≡ goes_on p → IsOpen (Some p)
    go true r e = let q : record { line = o.line; kind = o.kind; lits = o.lits ++ l ∷ [] } ≡ p = cc in subst (λ (x : OpenStep). IsOpenAs x.kind x.lits) q (room-kept o.kind o.lits l r)
    go false r e = cc

small-open : (v : ℕ) (m : Move) (p : OpenStep) → (m ≡ goes_on p → IsOpen (Some p)) → if_small v m ≡ goes_on p → IsOpen (Some p)
small-open v m p h e = go (nat_lt 2147483647 v) e
  where
    go : (t : Bool) → (if t then unfit else m) ≡ goes_on p → IsOpen (Some p)
    go true e = cc
    go false e = h e

zero-open : (o p : OpenStep) → with_zero o ≡ goes_on p → IsOpen (Some p)
zero-open o p e = go (is_whole o.kind o.lits) (with_zero_step o) e
  where
    with_zero_step : OpenStep → ProofStep
    with_zero_step o = step_of o.kind o.lits

    go : (t : Bool) (s : ProofStep) → (if t then ends_step o.line s else unfit) ≡ goes_on p → IsOpen (Some p)
    go true s e = cc
    go false s e = cc

number-open : (o p : OpenStep) (z : ℤ) → with_number o z ≡ goes_on p → IsOpen (Some p)
number-open o p (pos v) e = go (v == 0) e
  where
    go : (t : Bool) → (if t then with_zero o else if_small v (with_literal o (record { var = v; negative = false }))) ≡ goes_on p → IsOpen (Some p)
    go true e = zero-open o p e
    go false e = small-open v (with_literal o (record { var = v; negative = false })) p (literal-open o p (record { var = v; negative = false })) e
number-open o p (negsuc v) e = small-open (v + 1) (with_literal o (record { var = v + 1; negative = true })) p (literal-open o p (record { var = v + 1; negative = true })) e

-- what goes on is open
open-empty : (n : ℕ) (k : Kind) (p : OpenStep) → IsOpenAs k [] → goes_on (empty_step n k) ≡ goes_on p → IsOpen (Some p)
open-empty n k p h e = let q : empty_step n k ≡ p = cc in subst (λ (x : OpenStep). IsOpenAs x.kind x.lits) q h

first-open : (n : ℕ) (k : TokenKind) (p : OpenStep) → first_move n k ≡ goes_on p → IsOpen (Some p)
first-open n D p e = open-empty n Delete p tt e
first-open n U p e = open-empty n Drop p tt e
first-open n E p e = open-empty n Fresh p (omega arith) e
first-open n R p e = open-empty n Remove p (omega arith) e
first-open n (Number z) p e = number-open (empty_step n Add) p z e
first-open n P p e = cc
first-open n Cnf p e = cc
first-open n Qrat p e = cc
first-open n A p e = cc
first-open n Other p e = cc

next-open : (o : OpenStep) (k : TokenKind) (p : OpenStep) → next_move o k ≡ goes_on p → IsOpen (Some p)
next-open o (Number z) p e = number-open o p z e
next-open o P p e = cc
next-open o Cnf p e = cc
next-open o Qrat p e = cc
next-open o E p e = cc
next-open o A p e = cc
next-open o D p e = cc
next-open o U p e = cc
next-open o R p e = cc
next-open o Other p e = cc

move-open : (b : Option OpenStep) (t : Token) (p : OpenStep) → move b t ≡ goes_on p → IsOpen (Some p)
move-open None t p e = first-open t.line t.kind p e
move-open (Some o) t p e = next-open o t.kind p e

-- where a token leads on to c, what is so behind it is so before it
abbrev LeadsOn : Option OpenStep → Token → Option OpenStep → Type 0
LeadsOn b t c = (n : ℕ) → (ts : List Token) → (parsed (at_end n) b (t ∷ ts)).refused ≡ (parsed (at_end n) c ts).refused

lift-may : (b c : Option OpenStep) (t : Token) (ts : List Token) → LeadsOn b t c → MayEndLog c ts → MayEndLog b (t ∷ ts)
lift-may b c t ts l h = (h.0, λ n. l n (ts ++ h.0) ∙ h.1 n)

lower-may : (b c : Option OpenStep) (t : Token) (ts : List Token) → LeadsOn b t c → MayEndLog b (t ∷ ts) → MayEndLog c ts
lower-may b c t ts l h = (h.0, λ n. sym (l n (ts ++ h.0)) ∙ h.1 n)

lift-unfit : (b c : Option OpenStep) (t : Token) (ts : List Token) (n : ℕ) → LeadsOn b t c → IsFirstUnfit c ts n → IsFirstUnfit b (t ∷ ts) n
lift-unfit b c t ts n l u = record {
  front = t ∷ u.front;
  t = u.t;
  rest = u.rest;
  are = ap (λ (xs : List Token). t ∷ xs) u.are;
  line = u.line;
  before = lift-may b c t u.front l u.before;
  after = λ m. u.after (lower-may b c t (u.front ++ u.t ∷ []) l m);
}

lift : (b c : Option OpenStep) (t : Token) (ts : List Token) (last n : ℕ) → LeadsOn b t c → IsFirstUnfit c ts n ⊎ IsUnended c ts n last → IsFirstUnfit b (t ∷ ts) n ⊎ IsUnended b (t ∷ ts) n last
lift b c t ts last n l (inl u) = inl (lift-unfit b c t ts n l u)
lift b c t ts last n l (inr u) = inr (record {
  line = u.line;
  may = lift-may b c t ts l u.may;
  not = λ m. u.not (λ k. sym (l k ts) ∙ m k);
})

leads : (b c : Option OpenStep) (t : Token) (m : Move) → move b t ≡ m → ((k : ℕ) → (us : List Token) → (follow m t.line (λ d. parsed (at_end k) d us)).refused ≡ (parsed (at_end k) c us).refused) → LeadsOn b t c
leads b c t m q h k us = ap (λ (x : Move). (follow x t.line (λ d. parsed (at_end k) d us)).refused) q ∙ h k us

-- a token that does not fit
first-unfit : (b : Option OpenStep) (t : Token) (ts : List Token) (n : ℕ) → IsOpen b → move b t ≡ unfit → n ≡ t.line → IsFirstUnfit b (t ∷ ts) n
first-unfit b t ts n o e q = record {
  front = [];
  t = t;
  rest = ts;
  are = refl;
  line = q;
  before = may-end b o;
  after = λ m. let z : (follow (move b t) t.line (λ c. parsed (at_end 0) c m.0)).refused ≡ None = m.1 0 in let w : (follow unfit t.line (λ c. parsed (at_end 0) c m.0)).refused ≡ None = subst (λ (x : Move). (follow x t.line (λ c. parsed (at_end 0) c m.0)).refused ≡ None) e z in cc;
}

least : (ts : List Token) (b : Option OpenStep) (last n : ℕ) → IsOpen b → (parsed (at_end last) b ts).refused ≡ Some (BadLine n) → IsFirstUnfit b ts n ⊎ IsUnended b ts n last
least [] None last n o e = cc
least [] (Some p) last n o e = inr (record { line = cc; may = may-end (Some p) o; not = λ m. let z : Some (BadLine 0) ≡ None = m 0 in cc })
least (t ∷ ts) b last n o e = go (λ c k f. least ts c last n k f) (move b t) refl e
  where
    go : ((c : Option OpenStep) → IsOpen c → (parsed (at_end last) c ts).refused ≡ Some (BadLine n) → IsFirstUnfit c ts n ⊎ IsUnended c ts n last) → (m : Move) → move b t ≡ m → (follow m t.line (λ c. parsed (at_end last) c ts)).refused ≡ Some (BadLine n) → IsFirstUnfit b (t ∷ ts) n ⊎ IsUnended b (t ∷ ts) n last
    go ih unfit q f = inl (first-unfit b t ts n o q (cc))
    go ih (goes_on p) q f = lift b (Some p) t ts last n (leads b (Some p) t (goes_on p) q (λ k us. refl)) (ih (Some p) (move-open b t p q) f)
    go ih (ends_step k s) q f = lift b None t ts last n (leads b None t (ends_step k s) q (λ j us. refl)) (ih None tt f)

-- no limit is told within the limit
no-limit : (ts : List Token) (b : Option OpenStep) (last n : ℕ) → (parsed (at_end last) b ts).refused ≡ Some (Limit n) → ⊥
no-limit [] None last n e = cc
no-limit [] (Some p) last n e = cc
no-limit (t ∷ ts) b last n e = go (λ c f. no-limit ts c last n f) (move b t) e
  where
    go : ((c : Option OpenStep) → (parsed (at_end last) c ts).refused ≡ Some (Limit n) → ⊥) → (m : Move) → (follow m t.line (λ c. parsed (at_end last) c ts)).refused ≡ Some (Limit n) → ⊥
    go ih unfit f = cc
    go ih (goes_on p) f = ih (Some p) f
    go ih (ends_step k s) f = ih None f

-- past the limit
least-past : (ts : List Token) (b : Option OpenStep) (l n : ℕ) → IsOpen b → (parsed (past_limit l) b ts).refused ≡ Some (BadLine n) → IsFirstUnfit b ts n
least-past [] b l n o e = cc
least-past (t ∷ ts) b l n o e = go (λ c k f. least-past ts c l n k f) (move b t) refl e
  where
    go : ((c : Option OpenStep) → IsOpen c → (parsed (past_limit l) c ts).refused ≡ Some (BadLine n) → IsFirstUnfit c ts n) → (m : Move) → move b t ≡ m → (follow m t.line (λ c. parsed (past_limit l) c ts)).refused ≡ Some (BadLine n) → IsFirstUnfit b (t ∷ ts) n
    go ih unfit q f = first-unfit b t ts n o q (cc)
    go ih (goes_on p) q f = lift-unfit b (Some p) t ts n (leads b (Some p) t (goes_on p) q (λ k us. refl)) (ih (Some p) (move-open b t p q) f)
    go ih (ends_step k s) q f = lift-unfit b None t ts n (leads b None t (ends_step k s) q (λ j us. refl)) (ih None tt f)

fits-past : (ts : List Token) (b : Option OpenStep) (l n : ℕ) → IsOpen b → (parsed (past_limit l) b ts).refused ≡ Some (Limit n) → (n ≡ l) × MayEndLog b ts
fits-past [] b l n o e = (cc, may-end b o)
fits-past (t ∷ ts) b l n o e = go (λ c k f. fits-past ts c l n k f) (move b t) refl e
  where
    go : ((c : Option OpenStep) → IsOpen c → (parsed (past_limit l) c ts).refused ≡ Some (Limit n) → (n ≡ l) × MayEndLog c ts) → (m : Move) → move b t ≡ m → (follow m t.line (λ c. parsed (past_limit l) c ts)).refused ≡ Some (Limit n) → (n ≡ l) × MayEndLog b (t ∷ ts)
    go ih unfit q f = cc
    go ih (goes_on p) q f = let h : (n ≡ l) × MayEndLog (Some p) ts = ih (Some p) (move-open b t p q) f in (h.0, lift-may b (Some p) t ts (leads b (Some p) t (goes_on p) q (λ k us. refl)) h.1)
    go ih (ends_step k s) q f = let h : (n ≡ l) × MayEndLog None ts = ih None tt f in (h.0, lift-may b None t ts (leads b None t (ends_step k s) q (λ j us. refl)) h.1)

never-past : (ts : List Token) (b : Option OpenStep) (l : ℕ) → (parsed (past_limit l) b ts).refused ≡ None → ⊥
never-past [] b l e = cc
never-past (t ∷ ts) b l e = go (λ c f. never-past ts c l f) (move b t) e
  where
    go : ((c : Option OpenStep) → (parsed (past_limit l) c ts).refused ≡ None → ⊥) → (m : Move) → (follow m t.line (λ c. parsed (past_limit l) c ts)).refused ≡ None → ⊥
    go ih unfit f = cc
    go ih (goes_on p) f = ih (Some p) f
    go ih (ends_step k s) f = ih None f

-- what is read within the limit, and past it
read-within : (limit : ℕ) (bytes : List ℕ) → length bytes ≤ limit → read limit bytes ≡ parsed (at_end (line_after bytes)) None (tokens_of bytes)
read-within limit bytes h =
    let e : nat_le (length bytes) limit ≡ true = grind (arith, nat_tests) in
    ap (λ (t : Bool). if t then parsed (at_end (line_after bytes)) None (tokens_of bytes) else parsed (past_limit (line_after (take limit bytes))) None (tokens_ended (take limit bytes))) e

read-past : (limit : ℕ) (bytes : List ℕ) → limit < length bytes → read limit bytes ≡ parsed (past_limit (line_after (take limit bytes))) None (tokens_ended (take limit bytes))
read-past limit bytes h =
    let e : nat_le (length bytes) limit ≡ false = grind (arith, nat_tests) in
    ap (λ (t : Bool). if t then parsed (at_end (line_after bytes)) None (tokens_of bytes) else parsed (past_limit (line_after (take limit bytes))) None (tokens_ended (take limit bytes))) e

pub are-least : RefusalsAreLeast
are-least limit bytes = record {
  within = λ h n e. least (tokens_of bytes) None (line_after bytes) n tt (ap (λ (o : Parsed). o.refused) (sym (read-within limit bytes h)) ∙ e);
  no_limit = λ h n e. no-limit (tokens_of bytes) None (line_after bytes) n (ap (λ (o : Parsed). o.refused) (sym (read-within limit bytes h)) ∙ e);
  past = λ h n e. least-past (tokens_ended (take limit bytes)) None (line_after (take limit bytes)) n tt (ap (λ (o : Parsed). o.refused) (sym (read-past limit bytes h)) ∙ e);
  at_limit = λ h n e. fits-past (tokens_ended (take limit bytes)) None (line_after (take limit bytes)) n tt (ap (λ (o : Parsed). o.refused) (sym (read-past limit bytes h)) ∙ e);
  refused = λ h e. never-past (tokens_ended (take limit bytes)) None (line_after (take limit bytes)) (ap (λ (o : Parsed). o.refused) (sym (read-past limit bytes h)) ∙ e);
}
