-- The canonical text of steps is read as these steps.
use Rattle.std.proofs.Common.{◌≡◌, ℕ, zero, suc, ◌+◌, ◌^◌, ◌<◌, ◌≤◌, ◌==◌, nat_lt, nat_le, Bool, true, false, List, [], ◌∷◌, ◌++◌, map, length, Option, Some, None, refl, ap, ◌∙◌, arith, add-one, pos, append_assoc, append-nil, length-append}
use Rattle.std.proofs.lemmas.Bool.Decides.{nat_tests}
use Rattle.std.specs.List.{AllByRecursion}
use Rattle.q_logic.specs.declared.steps.Kind.{Kind}
use Rattle.q_logic.specs.declared.steps.Kind.TheVariants.{Add, Delete, Drop, Fresh, Remove}
use Rattle.q_logic.specs.Prelude.{Literal, number_of, Clause, ArePairs, IsBelow, ProofStep, add, delete, drop_literal, fresh, remove_variable, IsStep, IsStepForm, IsFirst, step_of, kind_of, literals_of, first_of, in_front, clause_of}
use Rattle.q_logic.proofs.StepForms.{clause_of-in_front}
use Rattle.q_text.specs.declared.tokens.Token.{Token}
use Rattle.q_text.specs.declared.tokens.TokenKind.TheVariants.{D, U, E, R}
use Rattle.q_text.specs.declared.shape.Shape.TheVariants.{Start, Between}
use Rattle.q_text.specs.Numbers.{line_end}
use Rattle.q_text.specs.Texts.{line_after}
use Rattle.q_text.specs.Tokens.{to_come}
use Rattle.q_text.proofs.TokenLaw.{at, from_start}
use Rattle.q_text.proofs.SpelledWords.{opens-start, opens-between, word-space}
use Rattle.q_text.proofs.Decimals.{IsShown, token_of, numbers-line}
use Rattle.q_log.specs.declared.error.LogError.{LogError}
use Rattle.q_log.specs.Grammar.{OpenStep, goes_on, is_whole, has_room, with_number, empty_step}
use Rattle.q_log.specs.Logs.{onto, follow, parsed, at_end, read, Steps}
use Rattle.q_log.specs.Texts.{letter_text, literals_text, steps_text, IsLogged, on_lines}

-- a step is that of its kind and its literals

in_front-first : (p : Option Literal) (C : Clause) → ArePairs IsBelow C → IsFirst p C → first_of (in_front p C) ≡ p
in_front-first None C o f = rw f refl
in_front-first (Some l) C o f = refl

in_front-clause : (p : Option Literal) (C : Clause) → ArePairs IsBelow C → IsFirst p C → clause_of (in_front p C) ≡ C
in_front-clause None C o f = rw f refl
in_front-clause (Some l) C o f = clause_of-in_front l C o f

pub same-step : (s : ProofStep) → IsStep s → step_of (kind_of s) (literals_of s) ≡ s
same-step (add p C) (o, f) = rw (in_front-first p C o f, in_front-clause p C o f) refl
same-step (delete p C) (o, f) = rw (in_front-first p C o f, in_front-clause p C o f) refl
same-step (drop_literal l C) (o, f) = rw (clause_of-in_front l C o f) refl
same-step (fresh v w) h = refl
same-step (remove_variable v) h = refl

pub step-form : (s : ProofStep) → IsStepForm (kind_of s) (literals_of s)
step-form (add p C) = tt
step-form (delete p C) = tt
step-form (drop_literal l C) = omega arith
step-form (fresh v w) = (refl, (refl, (refl, tt)))
step-form (remove_variable v) = (refl, (refl, tt))

-- a literal that fits is taken in

abbrev pub IsSmall : Literal → Type 0
IsSmall l = (1 ≤ l.var) × (l.var < 2 ^ 31)

pub number-taken : (o : OpenStep) (v : ℕ) (b : Bool) → 1 ≤ v → v < 2 ^ 31 → has_room o.kind o.lits b ≡ true →
    with_number o (number_of (record { var = v; negative = b })) ≡ goes_on (record { line = o.line; kind = o.kind; lits = o.lits ++ record { var = v; negative = b } ∷ [] })
number-taken o zero b p h r = absurd (omega arith)
number-taken o (suc v) false p h r =
    let small : nat_lt 2147483647 (suc v) ≡ false = grind (arith, nat_tests) in
    let some : (suc v == 0) ≡ false = grind (arith, nat_tests) in
    rw (some, small, r) refl
number-taken o (suc v) true p h r =
    let small : nat_lt 2147483647 (suc v) ≡ false = grind (arith, nat_tests) in
    rw (add-one, small, r) refl

-- what a whole step has, its parts have room for
middle : (P : Literal → Type 0) (ls ms : List Literal) (l : Literal) → AllByRecursion P (ls ++ l ∷ ms) → P l
middle P [] ms l (h, hs) = h
middle P (k ∷ ls) ms l (h, hs) = middle P ls ms l hs

below-length : (ls ms : List Literal) (l : Literal) (n : ℕ) → length (ls ++ l ∷ ms) ≡ n → nat_lt (length ls) n ≡ true
below-length ls ms l n e = let f = length-append ls (l ∷ ms) in grind (arith, nat_tests)

pub room-left : (k : Kind) (ls ms : List Literal) (l : Literal) → IsStepForm k (ls ++ l ∷ ms) → has_room k ls l.negative ≡ true
room-left Add ls ms l f = refl
room-left Delete ls ms l f = refl
room-left Drop ls ms l f = refl
room-left Fresh ls ms l (e, a) = ap (has_room Fresh ls) (middle (λ l. l.negative ≡ false) ls ms l a) ∙ below-length ls ms l 2 e
room-left Remove ls ms l (e, a) = ap (has_room Remove ls) (middle (λ l. l.negative ≡ false) ls ms l a) ∙ below-length ls ms l 1 e

pub whole-taken : (k : Kind) (ls : List Literal) → IsStepForm k ls → is_whole k ls ≡ true
whole-taken Add ls f = refl
whole-taken Delete ls f = refl
whole-taken Drop ls f = grind (arith, nat_tests)
whole-taken Fresh ls (e, f) = rw e refl
whole-taken Remove ls (e, f) = rw e refl

-- the literals of a step, and the 0 behind them
taken-parsed : (last : Option OpenStep → Option LogError) (ts : List Token) (n : ℕ) (o : OpenStep) (ls : List Literal) →
    AllByRecursion IsSmall ls → IsStepForm o.kind (o.lits ++ ls) →
    parsed last (Some o) (map (token_of n) (map number_of ls) ++ token_of n (pos 0) ∷ ts) ≡ onto (o.line, step_of o.kind (o.lits ++ ls)) (parsed last None ts)
taken-parsed last ts n o [] a f =
    let g = rw append-nil at f in
    rw (append-nil, whole-taken o.kind o.lits g) refl
taken-parsed last ts n o (l ∷ ls) (h, hs) f =
    let p : OpenStep = record { line = o.line; kind = o.kind; lits = o.lits ++ l ∷ [] } in
    let ih : parsed last (Some p) (map (token_of n) (map number_of ls) ++ token_of n (pos 0) ∷ ts) ≡ onto (o.line, step_of o.kind (p.lits ++ ls)) (parsed last None ts) =
    taken-parsed last ts n p ls hs (rw append_assoc f) in
    ap (λ m. follow m n (λ b. parsed last b (map (token_of n) (map number_of ls) ++ token_of n (pos 0) ∷ ts)))
    (number-taken o l.var l.negative h.0 h.1 (room-left o.kind o.lits ls l f))
    ∙ (ih ∙ ap (λ ms. onto (o.line, step_of o.kind ms) (parsed last None ts)) (append_assoc o.lits (l ∷ []) ls))

-- the token of a step's letter
abbrev pub letter_tokens : ℕ → Kind → List Token
letter_tokens n Add = []
letter_tokens n Delete = record { kind = D; line = n } ∷ []
letter_tokens n Drop = record { kind = U; line = n } ∷ []
letter_tokens n Fresh = record { kind = E; line = n } ∷ []
letter_tokens n Remove = record { kind = R; line = n } ∷ []

pub line-parsed : (last : Option OpenStep → Option LogError) (ts : List Token) (n : ℕ) (k : Kind) (ls : List Literal) → AllByRecursion IsSmall ls → IsStepForm k ls →
    parsed last None (letter_tokens n k ++ (map (token_of n) (map number_of ls) ++ token_of n (pos 0) ∷ ts)) ≡ onto (n, step_of k ls) (parsed last None ts)
line-parsed last ts n Add [] a f = taken-parsed last ts n (empty_step n Add) [] a f
line-parsed last ts n Add (l ∷ ls) a f = taken-parsed last ts n (empty_step n Add) (l ∷ ls) a f
line-parsed last ts n Delete ls a f = taken-parsed last ts n (empty_step n Delete) ls a f
line-parsed last ts n Drop ls a f = taken-parsed last ts n (empty_step n Drop) ls a f
line-parsed last ts n Fresh ls a f = taken-parsed last ts n (empty_step n Fresh) ls a f
line-parsed last ts n Remove ls a f = taken-parsed last ts n (empty_step n Remove) ls a f

-- the tokens of a line
shown : (v : ℕ) (b : Bool) → v < 2 ^ 31 → IsShown (number_of (record { var = v; negative = b }))
shown v false h = omega arith
shown zero true h = omega arith
shown (suc v) true h = omega arith

pub all-shown : (ls : List Literal) → AllByRecursion IsSmall ls → AllByRecursion IsShown (map number_of ls)
all-shown [] a = tt
all-shown (l ∷ ls) (h, hs) = (shown l.var l.negative h.1, all-shown ls hs)

line-end : (n : ℕ) (ls : List Literal) (rest : List ℕ) → AllByRecursion IsSmall ls →
    to_come (at n Between) ((literals_text ls ++ line_end) ++ rest) ≡ map (token_of n) (map number_of ls) ++ token_of n (pos 0) ∷ to_come (at (n + 1) Start) rest
line-end n ls rest a = ap (to_come (at n Between)) (append_assoc (literals_text ls) line_end rest) ∙ numbers-line n Between (map number_of ls) rest opens-between (all-shown ls a)

line-tokens : (n : ℕ) (k : Kind) (ls : List Literal) (rest : List ℕ) → AllByRecursion IsSmall ls →
    to_come (at n Start) ((letter_text k ++ (literals_text ls ++ line_end)) ++ rest) ≡ letter_tokens n k ++ (map (token_of n) (map number_of ls) ++ token_of n (pos 0) ∷ to_come (at (n + 1) Start) rest)
line-tokens n Add ls rest a = ap (to_come (at n Start)) (append_assoc (literals_text ls) line_end rest) ∙ numbers-line n Start (map number_of ls) rest opens-start (all-shown ls a)
line-tokens n Delete ls rest a = word-space n 100 [] ((literals_text ls ++ line_end) ++ rest) Start opens-start refl refl ∙ ap (λ ts. letter_tokens n Delete ++ ts) (line-end n ls rest a)
line-tokens n Drop ls rest a = word-space n 117 [] ((literals_text ls ++ line_end) ++ rest) Start opens-start refl refl ∙ ap (λ ts. letter_tokens n Drop ++ ts) (line-end n ls rest a)
line-tokens n Fresh ls rest a = word-space n 101 [] ((literals_text ls ++ line_end) ++ rest) Start opens-start refl refl ∙ ap (λ ts. letter_tokens n Fresh ++ ts) (line-end n ls rest a)
line-tokens n Remove ls rest a = word-space n 114 [] ((literals_text ls ++ line_end) ++ rest) Start opens-start refl refl ∙ ap (λ ts. letter_tokens n Remove ++ ts) (line-end n ls rest a)

steps-parsed : (last : Option OpenStep → Option LogError) (n : ℕ) (ss : List ProofStep) → AllByRecursion IsLogged ss →
    parsed last None (to_come (at n Start) (steps_text ss)) ≡ record { steps = on_lines n ss; refused = last None }
steps-parsed last n [] a = refl
steps-parsed last n (s ∷ ss) (h, hs) =
    ap (parsed last None) (line-tokens n (kind_of s) (literals_of s) (steps_text ss) h.numbers)
    ∙ (line-parsed last (to_come (at (n + 1) Start) (steps_text ss)) n (kind_of s) (literals_of s) h.numbers (step-form s)
    ∙ (ap (λ (t : ProofStep). onto (n, t) (parsed last None (to_come (at (n + 1) Start) (steps_text ss)))) (same-step s h.step)
    ∙ ap (onto (n, s)) (steps-parsed last (n + 1) ss hs)))

pub steps-reread : (limit : ℕ) (ss : List ProofStep) → AllByRecursion IsLogged ss → length (steps_text ss) ≤ limit → Steps limit (steps_text ss) ≡ Some (on_lines 1 ss)
steps-reread limit ss a h =
    let within : nat_le (length (steps_text ss)) limit ≡ true = grind (arith, nat_tests) in
    let reads : read limit (steps_text ss) ≡ record { steps = on_lines 1 ss; refused = None } =
    rw (within, ← from_start (steps_text ss)) (steps-parsed (at_end (line_after (steps_text ss))) 1 ss a) in
    rw reads refl
