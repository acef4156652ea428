-- The table of causes of formulas, each row with the places where it applies, and the first offence of a text.
use Rattle.std.specs.Prelude.{◌≡◌, ◌≤◌, ◌<◌, ◌+◌, ◌⊎◌, ℕ, zero, suc, true, List, [], ◌∷◌, ◌++◌, length, map, take, ℤ, pos, negsuc}
use Rattle.q_logic.specs.declared.limits.Limits.{Limits}
use Rattle.q_logic.specs.declared.formulas.Quant.{Quant}
use Rattle.q_logic.specs.Prelude.{Literal, number_of, is_bound}
use Rattle.q_text.specs.declared.tokens.Token.{Token}
use Rattle.q_text.specs.declared.tokens.TokenKind.{TokenKind}
use Rattle.q_text.specs.declared.tokens.TokenKind.TheVariants.{Number, P, Cnf, E, A}
use Rattle.q_text.specs.Texts.{tokens_of, tokens_ended, line_after}
use Rattle.q_dimacs.specs.Dimacs.{Text, sets_bounds, total}
use Rattle.q_offences.specs.Tables.{IsFirst}
use Rattle.q_offences.specs.FormulaFronts.{IsWhole, MayGoOn, IsOutside, IsInSet, IsInClause, with_set, with_clause}

-- the rows, but for the limit on bytes
pub data Row : Type 0 where
  bad_header : Row
  header_limit : Row
  late_quantifier : Row
  bad_token : Row
  clause_count : Row
  above_header : Row
  bound_twice : Row
  literal_limit : Row
  unended : Row

-- from the top
abbrev pub table : List Row
table = bad_header ∷ header_limit ∷ late_quantifier ∷ bad_token ∷ clause_count ∷ above_header ∷ bound_twice ∷ literal_limit ∷ unended ∷ []

abbrev pub cause_of : Row → ℕ
cause_of bad_header = 1
cause_of header_limit = 8
cause_of late_quantifier = 5
cause_of bad_token = 2
cause_of clause_count = 6
cause_of above_header = 3
cause_of bound_twice = 4
cause_of literal_limit = 8
cause_of unended = 7

abbrev pub IsNumber : TokenKind → Type 0
IsNumber k = (z : ℤ) × (k ≡ Number z)

abbrev pub IsPlainNumber : TokenKind → Type 0
IsPlainNumber k = (n : ℕ) × (k ≡ Number (pos n))

abbrev pub IsLetter : TokenKind → Type 0
IsLetter k = (k ≡ E) ⊎ (k ≡ A)

-- the header is p, cnf, and two numbers without sign
abbrev pub IsHeaderToken : ℕ → TokenKind → Type 0
IsHeaderToken zero k = k ≡ P
IsHeaderToken (suc zero) k = k ≡ Cnf
IsHeaderToken (suc (suc n)) k = IsPlainNumber k

-- a number of the header is above its limit
abbrev pub PassesHeaderLimit : Limits → List TokenKind → ℕ → Type 0
PassesHeaderLimit m ks n = ((length ks ≡ 2) × (m.vars < n)) ⊎ ((length ks ≡ 3) × (m.clauses < n))

-- a letter before the first clause begins a set
abbrev pub BeginsSet : Limits → List TokenKind → TokenKind → Type 0
BeginsSet m ks k = IsLetter k × (t : Text) × IsOutside m t ks × (t.clauses ≡ [])

abbrev pub InSomeSet : Limits → List TokenKind → Type 0
InSomeSet m ks = (t : Text) × (q : Quant) × (vs : List ℕ) × IsInSet m t q vs ks

abbrev pub magnitude : ℤ → ℕ
magnitude (pos n) = n
magnitude (negsuc n) = n + 1

-- the tokens behind the header, which says V
abbrev pub IsBehindHeader : ℕ → List TokenKind → Type 0
IsBehindHeader v ks = (c : ℕ) × (rest : List TokenKind) × (ks ≡ P ∷ Cnf ∷ Number (pos v) ∷ Number (pos c) ∷ rest)

-- so many literals stand in front, where one more may stand
abbrev pub HasLiterals : Limits → List TokenKind → ℕ → Type 0
HasLiterals m ks n =
    ((t : Text) × IsOutside m t ks × (n ≡ total t.clauses)) ⊎ ((t : Text) × (ls : List Literal) × IsInClause m t ls ks × (n ≡ total (with_clause t ls).clauses))

-- the row applies at the token k behind ks
abbrev pub AppliesAt : Limits → List TokenKind → TokenKind → Row → Type 0
AppliesAt m ks k bad_header = (length ks < 4) × ¬ IsHeaderToken (length ks) k
AppliesAt m ks k header_limit = (n : ℕ) × (k ≡ Number (pos n)) × PassesHeaderLimit m ks n
AppliesAt m ks k late_quantifier = IsLetter k × (t : Text) × IsOutside m t ks × (1 ≤ length t.clauses)
AppliesAt m ks k bad_token = ((4 ≤ length ks) × (¬ IsNumber k) × ¬ BeginsSet m ks k) ⊎ ((n : ℕ) × (k ≡ Number (negsuc n)) × InSomeSet m ks)
AppliesAt m ks k clause_count = IsNumber k × (t : Text) × IsOutside m t ks × (t.count ≤ length t.clauses)
AppliesAt m ks k above_header = (z : ℤ) × (k ≡ Number z) × (v : ℕ) × IsBehindHeader v ks × (v < magnitude z)
AppliesAt m ks k bound_twice =
    (v : ℕ) × (k ≡ Number (pos v)) × (t : Text) × (q : Quant) × (vs : List ℕ) × IsInSet m t q vs ks × (is_bound (sets_bounds (with_set t q vs).sets) v ≡ true)
AppliesAt m ks k literal_limit = (l : Literal) × (k ≡ Number (number_of l)) × (1 ≤ l.var) × (n : ℕ) × HasLiterals m ks n × (m.lits ≤ n)
AppliesAt m ks k unended = ⊥

-- the row applies at the end behind ks
abbrev pub AppliesAtEnd : Limits → List TokenKind → Row → Type 0
AppliesAtEnd m ks bad_header = length ks < 4
AppliesAtEnd m ks header_limit = ⊥
AppliesAtEnd m ks late_quantifier = ⊥
AppliesAtEnd m ks bad_token = ⊥
AppliesAtEnd m ks clause_count = (t : Text) × IsOutside m t ks × (length t.clauses < t.count)
AppliesAtEnd m ks above_header = ⊥
AppliesAtEnd m ks bound_twice = ⊥
AppliesAtEnd m ks literal_limit = ⊥
AppliesAtEnd m ks unended = InSomeSet m ks ⊎ ((t : Text) × (ls : List Literal) × IsInClause m t ls ks)

abbrev pub kinds_of : List Token → List TokenKind
kinds_of ts = map (λ t. t.kind) ts

-- the first token behind which no formula file goes on, with the first row of the table that applies there
pub record IsFirstUnfit (m : Limits) (ts : List Token) (line cause : ℕ) : Type 0 where
  pub front : List Token
  pub token : Token
  pub rest : List Token
  pub are : ts ≡ front ++ token ∷ rest
  pub before : MayGoOn m (kinds_of front)
  pub after : ¬ MayGoOn m (kinds_of front ++ token.kind ∷ [])
  pub row : Row
  pub applies : IsFirst (AppliesAt m (kinds_of front) token.kind) table row
  pub line_is : line ≡ token.line
  pub cause_is : cause ≡ cause_of row

-- the end of tokens that are no formula file, though some go on with them
pub record IsUnfitEnd (m : Limits) (ts : List Token) (last line cause : ℕ) : Type 0 where
  pub before : MayGoOn m (kinds_of ts)
  pub not_whole : ¬ IsWhole m (kinds_of ts)
  pub row : Row
  pub applies : IsFirst (AppliesAtEnd m (kinds_of ts)) table row
  pub line_is : line ≡ last
  pub cause_is : cause ≡ cause_of row

-- the byte that passes the limit, behind tokens that some formula file goes on with
pub record IsPastBytes (m : Limits) (front : List ℕ) (line cause : ℕ) : Type 0 where
  pub before : MayGoOn m (kinds_of (tokens_ended front))
  pub line_is : line ≡ line_after front
  pub cause_is : cause ≡ 8

-- the first offence of the bytes
abbrev pub IsWithinOffence : Limits → List ℕ → ℕ → ℕ → Type 0
IsWithinOffence m bytes line cause = IsFirstUnfit m (tokens_of bytes) line cause ⊎ IsUnfitEnd m (tokens_of bytes) (line_after bytes) line cause

abbrev pub IsPastOffence : Limits → List ℕ → ℕ → ℕ → Type 0
IsPastOffence m front line cause = IsFirstUnfit m (tokens_ended front) line cause ⊎ IsPastBytes m front line cause

abbrev pub IsFirstOffence : Limits → List ℕ → ℕ → ℕ → Type 0
IsFirstOffence m bytes line cause =
    ((length bytes ≤ m.bytes) × IsWithinOffence m bytes line cause) ⊎ ((m.bytes < length bytes) × IsPastOffence m (take m.bytes bytes) line cause)
