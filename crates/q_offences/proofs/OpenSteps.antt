-- A step of a log that has begun can be ended.
use Rattle.std.proofs.Common.{◌≡◌, ◌≤◌, refl, arith, ℕ, zero, suc, Bool, true, false, if◌then◌else◌, nat_lt, ◌+◌, List, [], ◌∷◌, ◌++◌, length, Option, Some, None, ℤ, pos, negsuc}
use Rattle.std.specs.Prelude.{◌==◌}
use Rattle.q_logic.specs.declared.steps.Kind.{Kind}
use Rattle.q_logic.specs.declared.steps.Kind.TheVariants.{Add, Delete, Drop, Fresh, Remove}
use Rattle.q_logic.specs.Prelude.{Literal, step_of}
use Rattle.q_text.specs.declared.tokens.Token.{Token}
use Rattle.q_text.specs.declared.tokens.TokenKind.{TokenKind}
use Rattle.q_text.specs.declared.tokens.TokenKind.TheVariants.{Number, P, Cnf, Qrat, E, A, D, U, R, Other}
use Rattle.q_log.specs.Grammar.{OpenStep, Move, ends_step, goes_on, unfit, is_whole, has_room, with_literal, if_small, with_zero, with_number, empty_step, first_move, next_move, move}

-- a step that has begun has no more literals than its kind may have
abbrev pub IsOpenAs : Kind → List Literal → Type 0
IsOpenAs Add ls = Unit {0}
IsOpenAs Delete ls = Unit {0}
IsOpenAs Drop ls = Unit {0}
IsOpenAs Fresh ls = length ls ≤ 2
IsOpenAs Remove ls = length ls ≤ 1

abbrev pub IsOpen : Option OpenStep → Type 0
IsOpen None = Unit {0}
IsOpen (Some o) = IsOpenAs o.kind o.lits

abbrev pub zero_token : Token
zero_token = record { kind = Number (pos 0); line = 0 }

abbrev pub one_token : Token
one_token = record { kind = Number (pos 1); line = 0 }

abbrev one : Literal
one = record { var = 1; negative = false }

-- with so many variables more the step is whole
abbrev pub Fills : Kind → List Literal → ℕ → Type 0
Fills k ls zero = is_whole k ls ≡ true
Fills k ls (suc n) = (has_room k ls false ≡ true) × Fills k (ls ++ record { var = 1; negative = false } ∷ []) n

filled : (k : Kind) (ls : List Literal) → IsOpenAs k ls → (n : ℕ) × Fills k ls n
filled Add ls h = (0, refl)
filled Delete ls h = (0, refl)
filled Drop [] h = (1, (refl, refl))
filled Drop (l ∷ ls) h = (0, let e : nat_lt 0 (length (l ∷ ls)) ≡ true = grind arith in e)
filled Fresh [] h = (2, (refl, (refl, refl)))
filled Fresh (a ∷ []) h = (1, (refl, refl))
filled Fresh (a ∷ b ∷ []) h = (0, refl)
filled Fresh (a ∷ b ∷ d ∷ ls) h = absurd (omega (arith, h))
filled Remove [] h = (1, (refl, refl))
filled Remove (a ∷ []) h = (0, refl)
filled Remove (a ∷ b ∷ ls) h = absurd (omega (arith, h))

pub fillable : (o : OpenStep) → IsOpen (Some o) → (n : ℕ) × Fills o.kind o.lits n
fillable o h = filled o.kind o.lits h

pub one-moves : (n : ℕ) (k : Kind) (ls : List Literal) → has_room k ls false ≡ true
    → move (Some (record { line = n; kind = k; lits = ls })) one_token ≡ goes_on (record { line = n; kind = k; lits = ls ++ record { var = 1; negative = false } ∷ [] })
one-moves n k ls e = rw e refl

pub zero-moves : (n : ℕ) (k : Kind) (ls : List Literal) → is_whole k ls ≡ true → move (Some (record { line = n; kind = k; lits = ls })) zero_token ≡ ends_step n (step_of k ls)
zero-moves n k ls e = rw e refl

-- one more literal leaves it so
room-kept : (k : Kind) (ls : List Literal) (l : Literal) → has_room k ls l.negative ≡ true → IsOpenAs k (ls ++ l ∷ [])
room-kept Add ls l e = tt
room-kept Delete ls l e = tt
room-kept Drop ls l e = tt
room-kept Fresh ls l e = fresh ls l l.negative e
  where
    fresh : (ls : List Literal) (l : Literal) (s : Bool) → has_room Fresh ls s ≡ true → length (ls ++ l ∷ []) ≤ 2
    fresh [] l s e = omega arith
    fresh (a ∷ []) l s e = omega arith
    fresh (a ∷ b ∷ ls) l true e = cc
    fresh (a ∷ b ∷ ls) l false e = absurd (grind (arith, e))
room-kept Remove ls l e = remove ls l l.negative e
  where
    remove : (ls : List Literal) (l : Literal) (s : Bool) → has_room Remove ls s ≡ true → length (ls ++ l ∷ []) ≤ 1
    remove [] l s e = omega arith
    remove (a ∷ ls) l true e = cc
    remove (a ∷ ls) l false e = absurd (grind (arith, e))

-- what a move leads to is open
abbrev pub LeadsOpen : Move → Type 0
LeadsOpen (ends_step n s) = Unit {0}
LeadsOpen (goes_on o) = IsOpenAs o.kind o.lits
LeadsOpen unfit = Unit {0}

either-open : (t : Bool) (x y : Move) → (t ≡ true → LeadsOpen x) → (t ≡ false → LeadsOpen y) → LeadsOpen (if t then x else y)
either-open true x y h k = h refl
either-open false x y h k = k refl

literal-open : (o : OpenStep) (l : Literal) → LeadsOpen (with_literal o l)
literal-open o l = either-open (has_room o.kind o.lits l.negative) (goes_on (record { line = o.line; kind = o.kind; lits = o.lits ++ l ∷ [] })) unfit (λ e. room-kept o.kind o.lits l e) (λ e. tt)

small-open : (v : ℕ) (m : Move) → LeadsOpen m → LeadsOpen (if_small v m)
small-open v m h = either-open (nat_lt 2147483647 v) unfit m (λ e. tt) (λ e. h)

zero-open : (o : OpenStep) → LeadsOpen (with_zero o)
zero-open o = either-open (is_whole o.kind o.lits) (ends_step o.line (step_of o.kind o.lits)) unfit (λ e. tt) (λ e. tt)

number-open : (o : OpenStep) (z : ℤ) → LeadsOpen (with_number o z)
number-open o (pos v) =
    either-open (v == 0) (with_zero o) (if_small v (with_literal o (record { var = v; negative = false }))) (λ e. zero-open o)
    (λ e. small-open v (with_literal o (record { var = v; negative = false })) (literal-open o (record { var = v; negative = false })))
number-open o (negsuc v) = small-open (v + 1) (with_literal o (record { var = v + 1; negative = true })) (literal-open o (record { var = v + 1; negative = true }))

first-open : (n : ℕ) (k : TokenKind) → LeadsOpen (first_move n k)
first-open n D = tt
first-open n U = tt
first-open n E = let e : length {A = Literal} [] ≤ 2 = omega arith in e
first-open n R = let e : length {A = Literal} [] ≤ 1 = omega arith in e
first-open n (Number z) = number-open (empty_step n Add) z
first-open n P = tt
first-open n Cnf = tt
first-open n Qrat = tt
first-open n A = tt
first-open n Other = tt

next-open : (o : OpenStep) (k : TokenKind) → LeadsOpen (next_move o k)
next-open o (Number z) = number-open o z
next-open o P = tt
next-open o Cnf = tt
next-open o Qrat = tt
next-open o E = tt
next-open o A = tt
next-open o D = tt
next-open o U = tt
next-open o R = tt
next-open o Other = tt

pub move-open : (b : Option OpenStep) (t : Token) → LeadsOpen (move b t)
move-open None t = first-open t.line t.kind
move-open (Some o) t = next-open o t.kind
