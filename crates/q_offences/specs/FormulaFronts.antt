-- What stands in front of a place of a formula file: tokens that some file begins with, and what they are.
use Rattle.std.specs.Prelude.{◌≡◌, ◌≢◌, ◌≤◌, ℕ, List, [], ◌∷◌, ◌++◌, length, map, pos}
use Rattle.std.specs.List.{AllByRecursion}
use Rattle.q_logic.specs.declared.limits.Limits.{Limits}
use Rattle.q_logic.specs.declared.formulas.Quant.{Quant}
use Rattle.q_logic.specs.Prelude.{Literal, number_of, ArePairs}
use Rattle.q_text.specs.declared.tokens.TokenKind.{TokenKind}
use Rattle.q_text.specs.declared.tokens.TokenKind.TheVariants.{Number}
use Rattle.q_dimacs.specs.Dimacs.{Text, letter, spelled, sets_bounds, total, IsVar, IsLawful}

-- the tokens are a formula file under these limits
abbrev pub IsWhole : Limits → List TokenKind → Type 0
IsWhole m ks = (t : Text) × (ks ≡ spelled t) × IsLawful m t

-- some further tokens make them one
abbrev pub MayGoOn : Limits → List TokenKind → Type 0
MayGoOn m ks = (more : List TokenKind) × IsWhole m (ks ++ more)

-- what is written obeys the rules; clauses may be missing
pub record IsLawfulSoFar (m : Limits) (t : Text) : Type 0 where
  pub vars : t.vars ≤ m.vars
  pub count : t.count ≤ m.clauses
  pub clauses : length t.clauses ≤ t.count
  pub bounds : AllByRecursion (λ q. IsVar t.vars q.var) (sets_bounds t.sets)
  pub once : ArePairs (λ q r. q.var ≢ r.var) (sets_bounds t.sets)
  pub lits : AllByRecursion (λ c. AllByRecursion (λ l. IsVar t.vars l.var) c) t.clauses
  pub few : total t.clauses ≤ m.lits

-- the header, sets and clauses: the place is outside all of them
pub record IsOutside (m : Limits) (t : Text) (ks : List TokenKind) : Type 0 where
  pub kinds : ks ≡ spelled t
  pub lawful : IsLawfulSoFar m t

abbrev pub with_set : Text → Quant → List ℕ → Text
with_set t q vs = record t { sets = t.sets ++ record { quant = q; vars = vs } ∷ [] }

-- the header, sets, and the letter of a set with some variables, before any clause: the place is inside this set
pub record IsInSet (m : Limits) (t : Text) (q : Quant) (vs : List ℕ) (ks : List TokenKind) : Type 0 where
  pub kinds : ks ≡ spelled t ++ letter q ∷ map (λ v. Number (pos v)) vs
  pub first : t.clauses ≡ []
  pub lawful : IsLawfulSoFar m (with_set t q vs)

abbrev pub with_clause : Text → List Literal → Text
with_clause t ls = record t { clauses = t.clauses ++ ls ∷ [] }

-- the header, sets, clauses, and at least one literal: the place is inside this clause
pub record IsInClause (m : Limits) (t : Text) (ls : List Literal) (ks : List TokenKind) : Type 0 where
  pub kinds : ks ≡ spelled t ++ map (λ l. Number (number_of l)) ls
  pub begun : 1 ≤ length ls
  pub lawful : IsLawfulSoFar m (with_clause t ls)
