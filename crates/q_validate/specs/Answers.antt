-- What a validator answers.
use Rattle.std.specs.Prelude.{◌≡◌, ℕ, List, Option, Some}
use Rattle.q_logic.specs.Prelude.{Literal, PrenexFormula, Clause, IsIn, Assignment, LiteralTrue, ClauseTrue, CertificateView, trees_of, Strategy, SkolemOf, outcome}
use Rattle.q_logic.specs.Branches.{claim_of, branches, counter}
use Rattle.q_search.specs.Budgets.{IsBelow}
use Rattle.q_validate.specs.declared.validating.Answer.{Answer}
use Rattle.q_validate.specs.declared.validating.Answer.TheVariants.{Valid, Invalid, Unknown}

-- where the literals are true and each existential has its circuit's value, some clause has no true literal
abbrev pub Falsify : PrenexFormula → Strategy → List Literal → Type 0
Falsify F c lits =
    (A : Assignment) → ((k : Literal) → IsIn k lits → LiteralTrue A k) →
    (C : Clause) × IsIn C F.matrix × (¬ ClauseTrue (outcome c A) C)

-- Unknown comes exactly where a budget below the number of branches is given; else the answer is whether the circuits
-- are Skolem functions, with the literals of the counter where they are not
abbrev pub IsAnswer : PrenexFormula → CertificateView → Option ℕ → Answer → Type 0
IsAnswer F c budget Valid = (¬ IsBelow budget (branches (claim_of F c))) × SkolemOf F (trees_of c)
IsAnswer F c budget (Invalid lits) =
    (¬ IsBelow budget (branches (claim_of F c))) × (¬ SkolemOf F (trees_of c)) × (counter (claim_of F c) ≡ Some lits) ×
    Falsify F (trees_of c) lits
IsAnswer F c budget Unknown = IsBelow budget (branches (claim_of F c))
