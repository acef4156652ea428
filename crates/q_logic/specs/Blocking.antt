-- Blocked clauses, after Biere, Lonsing and Seidl, "Blocked Clause Elimination for QBF" (CADE 2011). Only literals
-- that are outer or same to the pivot count; the same test serves a universal pivot, after Heule, Seidl and Biere,
-- "A Unified Proof System for QBF Preprocessing" (IJCAR 2014). (The exact conditions are this project's own.)
use Rattle.std.specs.Prelude.{Bool, true, not, ◌&&◌, ◌||◌, [], ◌∷◌}
use Rattle.q_logic.specs.Literals.{Literal, negation}
use Rattle.q_logic.specs.Formulas.{Clause, Matrix, Prefix, IsIn}
use Rattle.q_logic.specs.Pivots.{outer}
use Rattle.q_logic.specs.Sets.{has, negated_in}

-- the outer clause of D, on not l, holds the negation of a literal of S
abbrev pub Clashes : Prefix → Literal → Clause → Clause → Type 0
Clashes P l S D = (k : Literal) × IsIn k (outer P (negation l) D) × IsIn (negation k) S

-- each clause that holds not l clashes with S on l
abbrev pub AllClash : Prefix → Matrix → Literal → Clause → Type 0
AllClash P X l S = (D : Clause) → IsIn D X → IsIn (negation l) D → Clashes P l S D

abbrev pub clashes : Prefix → Literal → Clause → Clause → Bool
clashes P l S D = negated_in (outer P (negation l) D) S

abbrev pub all_clash : Prefix → Matrix → Literal → Clause → Bool
all_clash P [] l S = true
all_clash P (D ∷ X) l S = (not (has (negation l) D) || clashes P l S D) && all_clash P X l S
