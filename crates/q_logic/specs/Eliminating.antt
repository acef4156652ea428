-- Variable elimination by resolution: an existential variable goes, and the resolvents of its clauses come, where on
-- one side all literals are outer or same to it, and the formula grows by no more than the bound. (The conditions are
-- this project's own.)
use Rattle.std.specs.Prelude.{◌≡◌, ℕ, ◌+◌, ◌≤◌, Bool, true, not, ◌&&◌, ◌||◌, [], ◌∷◌, ◌++◌, ◌⊎◌}
use Rattle.q_logic.specs.StepForms.{positive}
use Rattle.q_logic.specs.Literals.{Literal, negation}
use Rattle.q_logic.specs.Formulas.{Clause, Matrix, Prefix, IsIn}
use Rattle.q_logic.specs.Prefixes.{is_existential, outer_or_same}
use Rattle.q_logic.specs.Pivots.{without}
use Rattle.q_logic.specs.Sets.{has, IsTautology, is_tautology, OccursIn, union, with_literal, without_literal, put_unless_tautology}
use Rattle.q_logic.specs.Measure.{size_of}

-- the union without both literals
abbrev pub resolvent : Literal → Clause → Clause → Clause
resolvent l C D = union (without l C) (without (negation l) D)

abbrev pub resolve_one : Literal → Clause → Matrix → Matrix
resolve_one l C [] = []
resolve_one l C (D ∷ X) = put_unless_tautology (resolvent l C D) (resolve_one l C X)

abbrev pub resolve_all : Literal → Matrix → Matrix → Matrix
resolve_all l [] Y = []
resolve_all l (C ∷ X) Y = resolve_one l C Y ++ resolve_all l X Y

-- all resolvents on x that are no tautologies
abbrev pub resolvents : ℕ → Matrix → Matrix
resolvents x X =
    resolve_all (positive x) (with_literal (positive x) X) (with_literal (negation (positive x)) X)

-- the clauses that hold x or not x
abbrev pub clauses_of : ℕ → Matrix → Matrix
clauses_of x X = with_literal (positive x) X ++ with_literal (negation (positive x)) X

-- the others
abbrev pub clauses_not_of : ℕ → Matrix → Matrix
clauses_not_of x X = without_literal (negation (positive x)) (without_literal (positive x) X)

-- each clause with l has only literals outer or same to l
abbrev pub AllOuter : Prefix → Literal → Matrix → Type 0
AllOuter P l X = (D : Clause) → IsIn D X → IsIn l D → (k : Literal) → IsIn k D →
    outer_or_same P k.var l.var ≡ true

pub record Eliminable (grow : ℕ) (P : Prefix) (X : Matrix) (x : ℕ) : Type 0 where
  pub existential : is_existential P x ≡ true
  pub occurs : OccursIn (positive x) X ⊎ OccursIn (negation (positive x)) X
  pub no_tautology : (D : Clause) → IsIn D X → IsIn (positive x) D ⊎
      IsIn (negation (positive x)) D → IsTautology D → ⊥
  pub outer_side : AllOuter P (positive x) X ⊎ AllOuter P (negation (positive x)) X
  pub small : size_of (resolvents x X) ≤ size_of (clauses_of x X) + grow

abbrev pub all_outer : Prefix → Literal → Clause → Bool
all_outer P l [] = true
all_outer P l (k ∷ C) = outer_or_same P k.var l.var && all_outer P l C

abbrev pub outer_side : Prefix → Literal → Matrix → Bool
outer_side P l [] = true
outer_side P l (D ∷ X) = (not (has l D) || all_outer P l D) && outer_side P l X

abbrev pub no_tautology : Literal → Matrix → Bool
no_tautology l [] = true
no_tautology l (D ∷ X) = not (has l D && is_tautology D) && no_tautology l X
