-- The grammar of formula files (QDIMACS 1.1): what is written in a file, and what it has to obey.
use Rattle.std.specs.Prelude.{◌≡◌, ◌≢◌, ℕ, ◌+◌, ◌≤◌, List, [], ◌∷◌, ◌++◌, length, map, pos}
use Rattle.std.specs.List.{AllByRecursion}
use Rattle.q_logic.specs.declared.limits.Limits.{Limits}
use Rattle.q_logic.specs.declared.formulas.Quant.{Quant}
use Rattle.q_logic.specs.declared.formulas.Quant.TheVariants.{Exists, Forall}
use Rattle.q_logic.specs.Prelude.{Literal, number_of, Prefix, PrenexFormula, Block, ArePairs, clause_of}
use Rattle.q_text.specs.Tokens.{literals_kinds}
use Rattle.q_text.specs.declared.tokens.TokenKind.{TokenKind}
use Rattle.q_text.specs.declared.tokens.TokenKind.TheVariants.{Number, P, Cnf, E, A}
use Rattle.q_text.specs.Texts.{tokens_of}
use Rattle.q_dimacs.specs.Scanning.{Scan, HasRead}
use Rattle.q_dimacs.specs.Building.{formula_of}

-- what is written: V, C, the sets, and the clauses with their literals in the order of the text
pub record Text : Type 0 where
  pub vars : ℕ
  pub count : ℕ
  pub sets : List Block
  pub clauses : List (List Literal)

abbrev pub letter : Quant → TokenKind
letter Exists = E
letter Forall = A

abbrev pub vars_kinds : List ℕ → List TokenKind
vars_kinds [] = Number (pos 0) ∷ []
vars_kinds (v ∷ vs) = Number (pos v) ∷ vars_kinds vs

abbrev pub sets_kinds : List Block → List TokenKind
sets_kinds [] = []
sets_kinds (s ∷ ss) = letter s.quant ∷ vars_kinds s.vars ++ sets_kinds ss

abbrev pub clauses_kinds : List (List Literal) → List TokenKind
clauses_kinds [] = []
clauses_kinds (c ∷ cs) = literals_kinds c ++ clauses_kinds cs

-- 1. p, cnf, V and C; 2. the sets; 3. the clauses
abbrev pub spelled : Text → List TokenKind
spelled t = P ∷ Cnf ∷ Number (pos t.vars) ∷ Number (pos t.count) ∷ sets_kinds t.sets ++ clauses_kinds t.clauses

abbrev pub vars_bounds : Quant → List ℕ → Prefix
vars_bounds q [] = []
vars_bounds q (v ∷ vs) = record { quant = q; var = v } ∷ vars_bounds q vs

abbrev pub sets_bounds : List Block → Prefix
sets_bounds [] = []
sets_bounds (s ∷ ss) = vars_bounds s.quant s.vars ++ sets_bounds ss

abbrev pub total : List (List Literal) → ℕ
total [] = 0
total (c ∷ cs) = length c + total cs

-- a magnitude that the header allows
abbrev pub IsVar : ℕ → ℕ → Type 0
IsVar vars v = (1 ≤ v) × (v ≤ vars)

pub record IsLawful (m : Limits) (t : Text) : Type 0 where
  pub vars : t.vars ≤ m.vars
  pub count : t.count ≤ m.clauses
  pub clauses : length t.clauses ≡ t.count
  pub bounds : AllByRecursion (λ q. IsVar t.vars q.var) (sets_bounds t.sets)
  pub once : ArePairs (λ q r. q.var ≢ r.var) (sets_bounds t.sets)
  pub lits : AllByRecursion (λ c. AllByRecursion (λ l. IsVar t.vars l.var) c) t.clauses
  pub few : total t.clauses ≤ m.lits

abbrev pub text_formula : Text → PrenexFormula
text_formula t = formula_of (sets_bounds t.sets) (map clause_of t.clauses)

-- the bytes are a formula file, and this is its formula
pub record Dimacs (m : Limits) (bytes : List ℕ) (f : PrenexFormula) : Type 0 where
  pub text : Text
  pub short : length bytes ≤ m.bytes
  pub tokens : map (λ t. t.kind) (tokens_of bytes) ≡ spelled text
  pub lawful : IsLawful m text
  pub formula : f ≡ text_formula text

-- what the reader has read is a formula file, and this is its formula
abbrev pub FormulaOf : Scan → PrenexFormula → Type 0
FormulaOf s f = (m : Limits) → (bytes : List ℕ) → HasRead m bytes s → Dimacs m bytes f
