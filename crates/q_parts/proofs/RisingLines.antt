-- Lines rise: those of the tokens of a text, and so those of the steps of a plain log and of its offence.
use Rattle.std.proofs.Common.{◌≡◌, ◌≤◌, ◌==◌, ◌+◌, ℕ, nat_lt, nat_le, Bool, true, false, List, [], ◌∷◌, ◌++◌, length, take, if◌then◌else◌, Option, Some, None, refl, sym, subst, arith, ℤ, pos, negsuc}
use Rattle.q_logic.specs.declared.steps.Kind.TheVariants.{Add}
use Rattle.q_logic.specs.Prelude.{step_of}
use Rattle.q_text.specs.declared.tokens.Token.{Token}
use Rattle.q_text.specs.declared.tokens.TokenKind.{TokenKind}
use Rattle.q_text.specs.declared.tokens.TokenKind.TheVariants.{Number, P, Cnf, Qrat, E, A, D, U, R, Other}
use Rattle.q_text.specs.declared.shape.Shape.{Shape}
use Rattle.q_text.specs.declared.shape.Shape.TheVariants.{Start}
use Rattle.q_text.specs.Words.{is_separator}
use Rattle.q_text.specs.Texts.{tokens_of, tokens_ended, line_from, line_after}
use Rattle.q_text.specs.Tokens.{after_blank, grown, kind_in, listed, token_in, to_come, all_handed}
use Rattle.q_text.proofs.TokenLaw.{at, from_start, handed-ended}
use Rattle.q_log.specs.declared.error.LogError.{LogError}
use Rattle.q_log.specs.declared.error.LogError.TheVariants.{BadLine, Limit, NoMemory}
use Rattle.q_log.specs.Grammar.{OpenStep, Move, ends_step, goes_on, unfit, move, first_move, next_move, with_number, is_whole, has_room, empty_step}
use Rattle.q_log.specs.Logs.{follow, parsed, at_end, past_limit, read}
use Rattle.q_command.specs.Logs.{Entry}

-- the lines of tokens rise from n on, and none is behind the line m
abbrev pub AreRising : ℕ → List Token → ℕ → Type 0
AreRising n [] m = n ≤ m
AreRising n (t ∷ ts) m = (n ≤ t.line) × AreRising t.line ts m

pub at-most : (n l m : ℕ) → n ≤ l → l ≤ m → n ≤ m
at-most n l m h k = omega (arith, h, k)

pub itself : (n : ℕ) → n ≤ n
itself n = omega arith

next : (n : ℕ) → n ≤ n + 1
next n = omega arith

rising-from : (n l m : ℕ) (ts : List Token) → n ≤ l → AreRising l ts m → AreRising n ts m
rising-from n l m [] h r = at-most n l m h r
rising-from n l m (t ∷ ts) h r = (at-most n l t.line h r.0, r.1)

rising-listed : (n l m : ℕ) (o : Option TokenKind) (ts : List Token) → n ≤ l → AreRising l ts m → AreRising n (listed (token_in o n) ++ ts) m
rising-listed n l m None ts h r = rising-from n l m ts h r
rising-listed n l m (Some k) ts h r = (itself n, rising-from n l m ts h r)

come-rising : (n : ℕ) (s : Shape) (bs : List ℕ) → AreRising n (to_come (at n s) bs) (line_from n bs)
come-rising n s [] = last (kind_in s)
  where
    last : (o : Option TokenKind) → AreRising n (listed (token_in o n)) n
    last None = itself n
    last (Some k) = (itself n, itself n)
come-rising n s (b ∷ bs) = go (b == 10) (is_separator b) (λ k r. come-rising k r bs)
  where
    go : (x y : Bool) → ((k : ℕ) (r : Shape) → AreRising k (to_come (at k r) bs) (line_from k bs)) →
        AreRising n (listed (if y then token_in (kind_in s) n else None) ++ to_come (if x then at (n + 1) Start else (if y then at n (after_blank s) else at n (grown s b))) bs) (line_from (if x then n + 1 else n) bs)
    go true true ih = rising-listed n (n + 1) (line_from (n + 1) bs) (kind_in s) (to_come (at (n + 1) Start) bs) (next n) (ih (n + 1) Start)
    go true false ih = rising-from n (n + 1) (line_from (n + 1) bs) (to_come (at (n + 1) Start) bs) (next n) (ih (n + 1) Start)
    go false true ih = rising-listed n n (line_from n bs) (kind_in s) (to_come (at n (after_blank s)) bs) (itself n) (ih n (after_blank s))
    go false false ih = ih n (grown s b)

handed-rising : (n : ℕ) (s : Shape) (bs : List ℕ) → AreRising n (all_handed (at n s) bs) (line_from n bs)
handed-rising n s [] = itself n
handed-rising n s (b ∷ bs) = go (b == 10) (is_separator b) (λ k r. handed-rising k r bs)
  where
    go : (x y : Bool) → ((k : ℕ) (r : Shape) → AreRising k (all_handed (at k r) bs) (line_from k bs)) →
        AreRising n (listed (if y then token_in (kind_in s) n else None) ++ all_handed (if x then at (n + 1) Start else (if y then at n (after_blank s) else at n (grown s b))) bs) (line_from (if x then n + 1 else n) bs)
    go true true ih = rising-listed n (n + 1) (line_from (n + 1) bs) (kind_in s) (all_handed (at (n + 1) Start) bs) (next n) (ih (n + 1) Start)
    go true false ih = rising-from n (n + 1) (line_from (n + 1) bs) (all_handed (at (n + 1) Start) bs) (next n) (ih (n + 1) Start)
    go false true ih = rising-listed n n (line_from n bs) (kind_in s) (all_handed (at n (after_blank s)) bs) (itself n) (ih n (after_blank s))
    go false false ih = ih n (grown s b)

pub tokens-rising : (bytes : List ℕ) → AreRising 1 (tokens_of bytes) (line_after bytes)
tokens-rising bytes = subst (λ (ts : List Token). AreRising 1 ts (line_after bytes)) (from_start bytes) (come-rising 1 Start bytes)

pub ended-rising : (bytes : List ℕ) → AreRising 1 (tokens_ended bytes) (line_after bytes)
ended-rising bytes = subst (λ (ts : List Token). AreRising 1 ts (line_after bytes)) (handed-ended bytes) (handed-rising 1 Start bytes)

-- an offence stands on the line n or behind it
abbrev pub IsFrom : ℕ → Option LogError → Type 0
IsFrom n None = Unit {0}
IsFrom n (Some (BadLine k)) = n ≤ k
IsFrom n (Some (Limit k)) = n ≤ k
IsFrom n (Some NoMemory) = Unit {0}

pub from-earlier : (n l : ℕ) (r : Option LogError) → n ≤ l → IsFrom l r → IsFrom n r
from-earlier n l None h f = tt
from-earlier n l (Some (BadLine k)) h f = at-most n l k h f
from-earlier n l (Some (Limit k)) h f = at-most n l k h f
from-earlier n l (Some NoMemory) h f = tt

-- so do the lines of steps, and of the offence behind them
abbrev pub Rises : ℕ → List Entry → Option LogError → Type 0
Rises n [] r = IsFrom n r
Rises n (e ∷ es) r = (n ≤ e.0) × Rises e.0 es r

rises-earlier : (n l : ℕ) (es : List Entry) (r : Option LogError) → n ≤ l → Rises l es r → Rises n es r
rises-earlier n l [] r h f = from-earlier n l r h f
rises-earlier n l (e ∷ es) r h f = (at-most n l e.0 h f.0, f.1)

-- the line of the step that a token on line n belongs to
abbrev pub origin : Option OpenStep → ℕ → ℕ
origin None n = n
origin (Some o) n = o.line

abbrev pub IsOfLine : ℕ → Move → Type 0
IsOfLine l (ends_step k s) = k ≡ l
IsOfLine l (goes_on o) = o.line ≡ l
IsOfLine l unfit = Unit {0}

number-line : (o : OpenStep) (z : ℤ) → IsOfLine o.line (with_number o z)
number-line o (pos v) = go (v == 0) (is_whole o.kind o.lits) (nat_lt 2147483647 v) (has_room o.kind o.lits false)
  where
    go : (a b c d : Bool) →
        IsOfLine o.line
        (if a then (if b then ends_step o.line (step_of o.kind o.lits) else unfit)
        else (if c then unfit else (if d then goes_on (record { line = o.line; kind = o.kind; lits = o.lits ++ record { var = v; negative = false } ∷ [] }) else unfit)))
    go true true c d = refl
    go true false c d = tt
    go false b true d = tt
    go false b false true = refl
    go false b false false = tt
number-line o (negsuc v) = go (nat_lt 2147483647 (v + 1)) (has_room o.kind o.lits true)
  where
    go : (c d : Bool) →
        IsOfLine o.line (if c then unfit else (if d then goes_on (record { line = o.line; kind = o.kind; lits = o.lits ++ record { var = v + 1; negative = true } ∷ [] }) else unfit))
    go true d = tt
    go false true = refl
    go false false = tt

first-line : (n : ℕ) (x : TokenKind) → IsOfLine n (first_move n x)
first-line n (Number z) = number-line (empty_step n Add) z
first-line n P = tt
first-line n Cnf = tt
first-line n Qrat = tt
first-line n E = refl
first-line n A = tt
first-line n D = refl
first-line n U = refl
first-line n R = refl
first-line n Other = tt

next-line : (o : OpenStep) (x : TokenKind) → IsOfLine o.line (next_move o x)
next-line o (Number z) = number-line o z
next-line o P = tt
next-line o Cnf = tt
next-line o Qrat = tt
next-line o E = tt
next-line o A = tt
next-line o D = tt
next-line o U = tt
next-line o R = tt
next-line o Other = tt

pub move-line : (b : Option OpenStep) (t : Token) → IsOfLine (origin b t.line) (move b t)
move-line None t = first-line t.line t.kind
move-line (Some o) t = next-line o t.kind

-- a step that has begun stays on its line, and other steps come on later ones
origin-later : (b : Option OpenStep) (n l : ℕ) → origin b n ≤ n → n ≤ l → (origin b n ≤ origin b l) × (origin b l ≤ l)
origin-later None n l h k = (k, itself l)
origin-later (Some o) n l h k = (itself o.line, at-most o.line n l h k)

parsed-rises : (last : Option OpenStep → Option LogError) (m : ℕ) → ((b : Option OpenStep) → IsFrom m (last b)) → (n : ℕ) (b : Option OpenStep) (ts : List Token) → origin b n ≤ n → AreRising n ts m →
    Rises (origin b n) (parsed last b ts).steps (parsed last b ts).refused
parsed-rises last m f n b [] h r = from-earlier (origin b n) m (last b) (at-most (origin b n) n m h r) (f b)
parsed-rises last m f n b (t ∷ ts) h r = go (move b t) (move-line b t) (λ c k. parsed-rises last m f t.line c ts k r.1)
  where
    w : (origin b n ≤ origin b t.line) × (origin b t.line ≤ t.line)
    w = origin-later b n t.line h r.0

    go : (x : Move) → IsOfLine (origin b t.line) x → ((c : Option OpenStep) → origin c t.line ≤ t.line → Rises (origin c t.line) (parsed last c ts).steps (parsed last c ts).refused) →
        Rises (origin b n) (follow x t.line (λ c. parsed last c ts)).steps (follow x t.line (λ c. parsed last c ts)).refused
    go (ends_step k s) q ih =
        let u : origin b n ≤ k = subst (λ (x : ℕ). origin b n ≤ x) (sym q) w.0 in
        let v : k ≤ t.line = subst (λ (x : ℕ). x ≤ t.line) (sym q) w.1 in
        (u, rises-earlier k t.line (parsed last None ts).steps (parsed last None ts).refused v (ih None (itself t.line)))
    go (goes_on o) q ih =
        let u : origin b n ≤ o.line = subst (λ (x : ℕ). origin b n ≤ x) (sym q) w.0 in
        let v : o.line ≤ t.line = subst (λ (x : ℕ). x ≤ t.line) (sym q) w.1 in
        rises-earlier (origin b n) o.line (parsed last (Some o) ts).steps (parsed last (Some o) ts).refused u (ih (Some o) v)
    go unfit q ih = at-most (origin b n) (origin b t.line) t.line w.0 w.1

pub log-rises : (limit : ℕ) (bytes : List ℕ) → Rises 1 (read limit bytes).steps (read limit bytes).refused
log-rises limit bytes = go (nat_le (length bytes) limit)
  where
    ends : (n : ℕ) (b : Option OpenStep) → IsFrom n (at_end n b)
    ends n None = tt
    ends n (Some o) = itself n

    go : (x : Bool) →
        Rises 1
        (if x then parsed (at_end (line_after bytes)) None (tokens_of bytes) else parsed (past_limit (line_after (take limit bytes))) None (tokens_ended (take limit bytes))).steps
        (if x then parsed (at_end (line_after bytes)) None (tokens_of bytes) else parsed (past_limit (line_after (take limit bytes))) None (tokens_ended (take limit bytes))).refused
    go true = parsed-rises (at_end (line_after bytes)) (line_after bytes) (ends (line_after bytes)) 1 None (tokens_of bytes) (itself 1) (tokens-rising bytes)
    go false =
        let c : List ℕ = take limit bytes in
        parsed-rises (past_limit (line_after c)) (line_after c) (λ b. itself (line_after c)) 1 None (tokens_ended c) (itself 1) (ended-rising c)
