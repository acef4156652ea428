-- The conditions of an elimination, told by a literal of the variable, and what the test tells the steps.
use Rattle.std.specs.Prelude.{◌≡◌, ◌≤◌, ◌+◌, ◌*◌, ◌++◌, ◌⊎◌, ℕ, true, length, Option, None, Some}
use Rattle.q_logic.specs.Prelude.{Literal, negation, Clause, Matrix, Prefix, IsIn, outer_or_same, size_of, IsTautology, OccursIn, with_literal, without_literal, literals_in, live, formula_of, standard, IsInLimits, AllOuter, resolve_all}
use Rattle.q_kernel.specs.Prelude.{Seen, slots}
use Rattle.q_eliminate.specs.declared.plan.Plan.{Plan}

-- no tautology
abbrev pub IsPlain : Clause → Type 0
IsPlain C = IsTautology C → ⊥

-- each variable is outer or same to one
abbrev pub IsOuter : Prefix → ℕ → Clause → Type 0
IsOuter P x C = (k : Literal) → IsIn k C → outer_or_same P k.var x ≡ true

-- the resolvents on a literal, and the clauses without its variable
abbrev pub resolvents_on : Literal → Matrix → Matrix
resolvents_on l X = resolve_all l (with_literal l X) (with_literal (negation l) X)

abbrev pub others_on : Literal → Matrix → Matrix
others_on l X = without_literal (negation l) (without_literal l X)

-- the variable occurs, its clauses are no tautologies, and one side holds only outer or same literals
pub record IsSplit (P : Prefix) (X : Matrix) (l : Literal) : Type 0 where
  pub occurs : OccursIn l X ⊎ OccursIn (negation l) X
  pub no_tautology : (D : Clause) → IsIn D X → IsIn l D ⊎ IsIn (negation l) D → IsPlain D
  pub outer_side : AllOuter P l X ⊎ AllOuter P (negation l) X

-- a sign whose clauses hold only outer or same literals; none exactly where neither sign is so
pub record IsOuterSign (P : Prefix) (X : Matrix) (l : Literal) (answer : Option Literal) : Type 0 where
  pub some : (m : Literal) → answer ≡ Some m → ((m ≡ l) ⊎ (m ≡ negation l)) × AllOuter P m X
  pub none : answer ≡ None → AllOuter P l X ⊎ AllOuter P (negation l) X → ⊥

-- the resolvents are no larger than the clauses of the variable and the bound
abbrev pub AreFew : ℕ → Matrix → Literal → Type 0
AreFew grow X l = size_of (resolvents_on l X) ≤ size_of (with_literal l X ++ with_literal (negation l) X) + grow

-- what has to hold beside that the variable is existential
pub record MayGo (grow : ℕ) (P : Prefix) (X : Matrix) (l : Literal) : Type 0 where
  pub split : IsSplit P X l
  pub small : AreFew grow X l
  pub limits : IsInLimits standard (formula_of P (others_on l X ++ resolvents_on l X))

-- the sign whose clauses hold only outer or same literals, what its clauses are, and what the resolvents are
pub record IsPlanOf (k : Seen) (l : Literal) (p : Plan) : Type 0 where
  pub sign : (p.outer ≡ l) ⊎ (p.outer ≡ negation l)
  pub outer : AllOuter k.prefix p.outer (live (slots k))
  pub size : p.size ≡ size_of (with_literal l (live (slots k)) ++ with_literal (negation l) (live (slots k)))
  pub clauses : p.gain.clauses ≡ length (resolvents_on l (live (slots k)))
  pub lits : p.gain.lits ≡ literals_in (resolvents_on l (live (slots k)))

-- room for the steps of a plan, and for the sweep after them
pub record HasRoomFor (k : Seen) (p : Plan) : Type 0 where
  pub words : p.gain.lits ≤ k.arena.spare_words
  pub ids : p.gain.clauses ≤ k.arena.spare_ids
  pub bytes : 16 * (2 * (p.gain.clauses + p.gain.lits) + size_of (live (slots k)) + length k.prefix) ≤ k.spare_bytes
