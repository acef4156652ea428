-- The table as tests of where the reader stands: the first row that applies is its answer.
use Rattle.std.proofs.Common.{◌≡◌, ℕ, ◌+◌, ◌==◌, ◌&&◌, nat_lt, nat_le, not, Bool, true, false, cond, List, [], ◌∷◌, ◌++◌, length, Ok, Err, Result, Option, Some, None, refl, arith, pos, negsuc}
use Rattle.std.proofs.lemmas.Bool.Decides.{nat_tests}
use Rattle.q_logic.specs.declared.limits.Limits.{Limits}
use Rattle.q_logic.specs.declared.formulas.Quant.{Quant}
use Rattle.q_logic.specs.declared.formulas.Quant.TheVariants.{Exists, Forall}
use Rattle.q_logic.specs.Prelude.{Literal, Matrix, Prefix, is_bound, clause_of}
use Rattle.q_text.specs.declared.tokens.TokenKind.{TokenKind}
use Rattle.q_text.specs.declared.tokens.TokenKind.TheVariants.{Number, P, Cnf, E, A}
use Rattle.q_dimacs.specs.declared.builder.Place.{Place}
use Rattle.q_dimacs.specs.declared.builder.Place.TheVariants.{Problem, Format, Vars, Count, Outside, InSet, InClause}
use Rattle.q_dimacs.specs.Reading.{Gathered, step_of, end_of}
use Rattle.q_dimacs.proofs.GrammarIsRead.{inside}
use Rattle.q_offences.specs.FormulaTable.{Row, bad_header, header_limit, late_quantifier, bad_token, clause_count, above_header, bound_twice, literal_limit, unended, table, cause_of}
use Rattle.q_offences.proofs.FirstRows.{first_true}

-- tests of tokens

abbrev pub is_p : TokenKind → Bool
is_p P = true
is_p k = false

abbrev pub is_cnf : TokenKind → Bool
is_cnf Cnf = true
is_cnf k = false

abbrev pub is_number : TokenKind → Bool
is_number (Number z) = true
is_number k = false

abbrev pub is_plain : TokenKind → Bool
is_plain (Number (pos n)) = true
is_plain (Number (negsuc n)) = false
is_plain k = false

abbrev pub is_letter : TokenKind → Bool
is_letter E = true
is_letter A = true
is_letter k = false

abbrev pub passes : ℕ → TokenKind → Bool
passes m (Number (pos n)) = nat_lt m n
passes m (Number (negsuc n)) = false
passes m k = false

abbrev pub exceeds : ℕ → TokenKind → Bool
exceeds v (Number (pos n)) = nat_lt v n
exceeds v (Number (negsuc n)) = nat_lt v (n + 1)
exceeds v k = false

abbrev pub is_nonzero : TokenKind → Bool
is_nonzero (Number (pos n)) = not (n == 0)
is_nonzero (Number (negsuc n)) = true
is_nonzero k = false

abbrev pub is_bound_in : Prefix → TokenKind → Bool
is_bound_in p (Number (pos n)) = not (n == 0) && is_bound p n
is_bound_in p (Number (negsuc n)) = false
is_bound_in p k = false

-- the rows at a token

abbrev header_wrong : Place → TokenKind → Bool
header_wrong Problem k = not (is_p k)
header_wrong Format k = not (is_cnf k)
header_wrong Vars k = not (is_plain k)
header_wrong Count k = not (is_plain k)
header_wrong Outside k = false
header_wrong (InSet q) k = false
header_wrong InClause k = false

abbrev header_passes : Limits → Place → TokenKind → Bool
header_passes m Problem k = false
header_passes m Format k = false
header_passes m Vars k = passes m.vars k
header_passes m Count k = passes m.clauses k
header_passes m Outside k = false
header_passes m (InSet q) k = false
header_passes m InClause k = false

abbrev is_late : Matrix → Place → TokenKind → Bool
is_late x Problem k = false
is_late x Format k = false
is_late x Vars k = false
is_late x Count k = false
is_late x Outside k = is_letter k && nat_lt 0 (length x)
is_late x (InSet q) k = false
is_late x InClause k = false

abbrev is_bad : Matrix → Place → TokenKind → Bool
is_bad x Problem k = false
is_bad x Format k = false
is_bad x Vars k = false
is_bad x Count k = false
is_bad x Outside k = not (is_number k) && not (is_letter k && not (nat_lt 0 (length x)))
is_bad x (InSet q) k = not (is_plain k)
is_bad x InClause k = not (is_number k)

abbrev is_over : ℕ → Matrix → Place → TokenKind → Bool
is_over c x Problem k = false
is_over c x Format k = false
is_over c x Vars k = false
is_over c x Count k = false
is_over c x Outside k = is_number k && nat_le c (length x)
is_over c x (InSet q) k = false
is_over c x InClause k = false

abbrev is_above : ℕ → Place → TokenKind → Bool
is_above v Problem k = false
is_above v Format k = false
is_above v Vars k = false
is_above v Count k = false
is_above v Outside k = exceeds v k
is_above v (InSet q) k = exceeds v k
is_above v InClause k = exceeds v k

abbrev is_twice : Prefix → Place → TokenKind → Bool
is_twice p Problem k = false
is_twice p Format k = false
is_twice p Vars k = false
is_twice p Count k = false
is_twice p Outside k = false
is_twice p (InSet q) k = is_bound_in p k
is_twice p InClause k = false

abbrev is_full : ℕ → ℕ → Place → TokenKind → Bool
is_full m n Problem k = false
is_full m n Format k = false
is_full m n Vars k = false
is_full m n Count k = false
is_full m n Outside k = is_nonzero k && nat_le m n
is_full m n (InSet q) k = false
is_full m n InClause k = is_nonzero k && nat_le m n

abbrev pub at : Limits → Gathered → TokenKind → Row → Bool
at m b k bad_header = header_wrong b.place k
at m b k header_limit = header_passes m b.place k
at m b k late_quantifier = is_late b.parts.clauses b.place k
at m b k bad_token = is_bad b.parts.clauses b.place k
at m b k clause_count = is_over b.count b.parts.clauses b.place k
at m b k above_header = is_above b.vars b.place k
at m b k bound_twice = is_twice b.parts.bounds b.place k
at m b k literal_limit = is_full m.lits b.lits b.place k
at m b k unended = false

-- the rows at the end

abbrev in_header : Place → Bool
in_header Problem = true
in_header Format = true
in_header Vars = true
in_header Count = true
in_header Outside = false
in_header (InSet q) = false
in_header InClause = false

abbrev is_short : ℕ → Matrix → Place → Bool
is_short c x Problem = false
is_short c x Format = false
is_short c x Vars = false
is_short c x Count = false
is_short c x Outside = nat_lt (length x) c
is_short c x (InSet q) = false
is_short c x InClause = false

abbrev is_within : Place → Bool
is_within Problem = false
is_within Format = false
is_within Vars = false
is_within Count = false
is_within Outside = false
is_within (InSet q) = true
is_within InClause = true

abbrev pub at_end : Gathered → Row → Bool
at_end b bad_header = in_header b.place
at_end b header_limit = false
at_end b late_quantifier = false
at_end b bad_token = false
at_end b clause_count = is_short b.count b.parts.clauses b.place
at_end b above_header = false
at_end b bound_twice = false
at_end b literal_limit = false
at_end b unended = is_within b.place

-- the reader's answer

abbrev pub fault : {X : Type 0} → Result X ℕ → Option ℕ
fault (Ok x) = None
fault (Err c) = Some c

abbrev pub cause_at : Option Row → Option ℕ
cause_at None = None
cause_at (Some r) = Some (cause_of r)

clause-case : (z y x : Bool) (a b : Gathered) → (z ≡ true → y ≡ false)
    → fault (cond {A = Result Gathered ℕ} z (Ok a) (cond {A = Result Gathered ℕ} y (Err 3) (cond {A = Result Gathered ℕ} x (Err 8) (Ok b)))) ≡ cause_at (cond {A = Option Row} y (Some above_header) (cond {A = Option Row} (not z && x) (Some literal_limit) None))
clause-case true true x a b h = absurd (let e = h refl in cc)
clause-case true false x a b h = refl
clause-case false true x a b h = refl
clause-case false false true a b h = refl
clause-case false false false a b h = refl

set-case : (z y x : Bool) (a b : Gathered) → (z ≡ true → y ≡ false)
    → fault (cond {A = Result Gathered ℕ} z (Ok a) (cond {A = Result Gathered ℕ} y (Err 3) (cond {A = Result Gathered ℕ} x (Err 4) (Ok b)))) ≡ cause_at (cond {A = Option Row} y (Some above_header) (cond {A = Option Row} (not z && x) (Some bound_twice) None))
set-case true true x a b h = absurd (let e = h refl in cc)
set-case true false x a b h = refl
set-case false true x a b h = refl
set-case false false true a b h = refl
set-case false false false a b h = refl

negative-case : (y x : Bool) (b : Gathered)
    → fault (cond {A = Result Gathered ℕ} y (Err 3) (cond {A = Result Gathered ℕ} x (Err 8) (Ok b))) ≡ cause_at (cond {A = Option Row} y (Some above_header) (cond {A = Option Row} x (Some literal_limit) None))
negative-case true x b = refl
negative-case false true b = refl
negative-case false false b = refl

count-case : (w : Bool) (r : Result Gathered ℕ) (o : Option Row) → fault r ≡ cause_at o → fault (cond {A = Result Gathered ℕ} w (Err 6) r) ≡ cause_at (cond {A = Option Row} w (Some clause_count) o)
count-case true r o h = refl
count-case false r o h = h

letter-case : (w : Bool) (b : Gathered) → fault (cond {A = Result Gathered ℕ} w (Err 5) (Ok b)) ≡ cause_at (cond {A = Option Row} w (Some late_quantifier) (cond {A = Option Row} (not (not w)) (Some bad_token) None))
letter-case true b = refl
letter-case false b = refl

zero-below : (v n : ℕ) → (n == 0) ≡ true → nat_lt v n ≡ false
zero-below v n e = grind (arith, nat_tests)

end-case : (w : Bool) → cond {A = Option ℕ} w (Some 6) None ≡ cause_at (cond {A = Option Row} w (Some clause_count) None)
end-case true = refl
end-case false = refl

problem-cause : (m : Limits) (v c n : ℕ) (p : Prefix) (x : Matrix) (ls : List Literal) (k : TokenKind) → fault (step_of m (inside Problem v c n p x ls) k) ≡ cause_at (first_true (at m (inside Problem v c n p x ls) k) table)
problem-cause m v c n p x ls P = refl
problem-cause m v c n p x ls k = refl

format-cause : (m : Limits) (v c n : ℕ) (p : Prefix) (x : Matrix) (ls : List Literal) (k : TokenKind) → fault (step_of m (inside Format v c n p x ls) k) ≡ cause_at (first_true (at m (inside Format v c n p x ls) k) table)
format-cause m v c n p x ls Cnf = refl
format-cause m v c n p x ls k = refl

vars-cause : (m : Limits) (v c n : ℕ) (p : Prefix) (x : Matrix) (ls : List Literal) (k : TokenKind) → fault (step_of m (inside Vars v c n p x ls) k) ≡ cause_at (first_true (at m (inside Vars v c n p x ls) k) table)
vars-cause m v c n p x ls (Number (pos w)) = go (nat_lt m.vars w) refl where
  go : (y : Bool) → nat_lt m.vars w ≡ y → fault (step_of m (inside Vars v c n p x ls) (Number (pos w))) ≡ cause_at (first_true (at m (inside Vars v c n p x ls) (Number (pos w))) table)
  go true e = rw e refl
  go false e = rw e refl
vars-cause m v c n p x ls (Number (negsuc w)) = refl
vars-cause m v c n p x ls k = refl

count-cause : (m : Limits) (v c n : ℕ) (p : Prefix) (x : Matrix) (ls : List Literal) (k : TokenKind) → fault (step_of m (inside Count v c n p x ls) k) ≡ cause_at (first_true (at m (inside Count v c n p x ls) k) table)
count-cause m v c n p x ls (Number (pos w)) = go (nat_lt m.clauses w) refl where
  go : (y : Bool) → nat_lt m.clauses w ≡ y → fault (step_of m (inside Count v c n p x ls) (Number (pos w))) ≡ cause_at (first_true (at m (inside Count v c n p x ls) (Number (pos w))) table)
  go true e = rw e refl
  go false e = rw e refl
count-cause m v c n p x ls (Number (negsuc w)) = refl
count-cause m v c n p x ls k = refl

outside-cause : (m : Limits) (v c n : ℕ) (p : Prefix) (x : Matrix) (ls : List Literal) (k : TokenKind) → fault (step_of m (inside Outside v c n p x ls) k) ≡ cause_at (first_true (at m (inside Outside v c n p x ls) k) table)
outside-cause m v c n p x ls (Number (pos w)) =
    count-case (nat_le c (length x)) _ _ (clause-case (w == 0) (nat_lt v w) (nat_le m.lits n) (inside Outside v c n p (x ++ clause_of ls ∷ []) []) (inside InClause v c (n + 1) p x (ls ++ record { var = w; negative = false } ∷ [])) (zero-below v w))
outside-cause m v c n p x ls (Number (negsuc w)) =
    count-case (nat_le c (length x)) _ _ (negative-case (nat_lt v (w + 1)) (nat_le m.lits n) (inside InClause v c (n + 1) p x (ls ++ record { var = w + 1; negative = true } ∷ [])))
outside-cause m v c n p x ls E = letter-case (nat_lt 0 (length x)) (inside (InSet Exists) v c n p x ls)
outside-cause m v c n p x ls A = letter-case (nat_lt 0 (length x)) (inside (InSet Forall) v c n p x ls)
outside-cause m v c n p x ls k = refl

set-cause : (m : Limits) (q : Quant) (v c n : ℕ) (p : Prefix) (x : Matrix) (ls : List Literal) (k : TokenKind) → fault (step_of m (inside (InSet q) v c n p x ls) k) ≡ cause_at (first_true (at m (inside (InSet q) v c n p x ls) k) table)
set-cause m q v c n p x ls (Number (pos w)) =
    set-case (w == 0) (nat_lt v w) (is_bound p w) (inside Outside v c n p x ls) (inside (InSet q) v c n (p ++ record { quant = q; var = w } ∷ []) x ls) (zero-below v w)
set-cause m q v c n p x ls (Number (negsuc w)) = refl
set-cause m q v c n p x ls k = refl

clause-cause : (m : Limits) (v c n : ℕ) (p : Prefix) (x : Matrix) (ls : List Literal) (k : TokenKind) → fault (step_of m (inside InClause v c n p x ls) k) ≡ cause_at (first_true (at m (inside InClause v c n p x ls) k) table)
clause-cause m v c n p x ls (Number (pos w)) =
    clause-case (w == 0) (nat_lt v w) (nat_le m.lits n) (inside Outside v c n p (x ++ clause_of ls ∷ []) []) (inside InClause v c (n + 1) p x (ls ++ record { var = w; negative = false } ∷ [])) (zero-below v w)
clause-cause m v c n p x ls (Number (negsuc w)) = negative-case (nat_lt v (w + 1)) (nat_le m.lits n) (inside InClause v c (n + 1) p x (ls ++ record { var = w + 1; negative = true } ∷ []))
clause-cause m v c n p x ls k = refl

-- at each token the reader's answer is the first row that applies
pub step-cause : (m : Limits) (b : Gathered) (k : TokenKind) → fault (step_of m b k) ≡ cause_at (first_true (at m b k) table)
step-cause m b k = go b.place where
  go : (l : Place) → fault (step_of m (inside l b.vars b.count b.lits b.parts.bounds b.parts.clauses b.parts.pending) k) ≡ cause_at (first_true (at m (inside l b.vars b.count b.lits b.parts.bounds b.parts.clauses b.parts.pending) k) table)
  go Problem = problem-cause m b.vars b.count b.lits b.parts.bounds b.parts.clauses b.parts.pending k
  go Format = format-cause m b.vars b.count b.lits b.parts.bounds b.parts.clauses b.parts.pending k
  go Vars = vars-cause m b.vars b.count b.lits b.parts.bounds b.parts.clauses b.parts.pending k
  go Count = count-cause m b.vars b.count b.lits b.parts.bounds b.parts.clauses b.parts.pending k
  go Outside = outside-cause m b.vars b.count b.lits b.parts.bounds b.parts.clauses b.parts.pending k
  go (InSet q) = set-cause m q b.vars b.count b.lits b.parts.bounds b.parts.clauses b.parts.pending k
  go InClause = clause-cause m b.vars b.count b.lits b.parts.bounds b.parts.clauses b.parts.pending k

pub end-cause : (b : Gathered) → end_of b ≡ cause_at (first_true (at_end b) table)
end-cause b = go b.place where
  go : (l : Place) → end_of (inside l b.vars b.count b.lits b.parts.bounds b.parts.clauses b.parts.pending) ≡ cause_at (first_true (at_end (inside l b.vars b.count b.lits b.parts.bounds b.parts.clauses b.parts.pending)) table)
  go Problem = refl
  go Format = refl
  go Vars = refl
  go Count = refl
  go Outside = end-case (nat_lt (length b.parts.clauses) b.count)
  go (InSet q) = refl
  go InClause = refl
