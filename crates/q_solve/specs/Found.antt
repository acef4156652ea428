-- What the search answers.
use Rattle.std.specs.Prelude.{◌≡◌, ℕ, true, Option, map}
use Rattle.q_logic.specs.Prelude.{PrenexFormula, is_existential, Assignment, Holds, value_of, CertificateView, trees_of, SkolemOf, circuit_of}
use Rattle.q_logic.specs.Decisions.{decisions, circuits_of}
use Rattle.q_certificate.specs.Prelude.{universals, existentials}
use Rattle.q_search.specs.Budgets.{IsBelow}
use Rattle.q_solve.specs.declared.searching.Found.{Found}
use Rattle.q_solve.specs.declared.searching.Found.TheVariants.{Yes, No, Unknown}

-- the certificate of a true formula: inputs are the universals and outputs the existentials, in the order of the prefix,
-- and the circuits are Skolem functions: they have the values of those that the search picks
pub record IsAnswer (F : PrenexFormula) (made : CertificateView) : Type 0 where
  pub inputs : made.inputs ≡ universals F.prefix
  pub outputs : map (λ o. o.name) made.outputs ≡ existentials F.prefix
  pub skolem : SkolemOf F (trees_of made)
  pub values : (x : ℕ) → is_existential F.prefix x ≡ true → (A : Assignment) → value_of (circuit_of (trees_of made) x) A ≡ value_of (circuit_of (circuits_of F) x) A

-- Unknown comes exactly where a budget below the number of decisions is given; else the answer is whether the formula
-- is true
abbrev pub IsFound : PrenexFormula → Option ℕ → Found → Type 0
IsFound F budget (Yes made) = ¬ IsBelow budget (decisions F) × Holds F × IsAnswer F made
IsFound F budget No = ¬ IsBelow budget (decisions F) × ¬ Holds F
IsFound F budget Unknown = IsBelow budget (decisions F)
