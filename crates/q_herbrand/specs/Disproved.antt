-- Herbrand functions from the steps of a refutation.
use Rattle.std.specs.Prelude.{◌≡◌, ◌≤◌, ℕ, true, false, cond, List, [], ◌∷◌, length, map}
use Rattle.q_logic.specs.declared.formulas.Quant.TheVariants.{Exists}
use Rattle.q_logic.specs.Prelude.{Prefix, PrenexFormula, is_universal, Assignment, value_of, constant, where_true, CertificateView, trees_of, circuit_of}
use Rattle.q_logic.specs.Herbrands.{HerbrandOf}
use Rattle.q_logic.specs.Reversals.{Forth}
use Rattle.q_refutation.specs.Refutations.{zeros}
use Rattle.q_certificate.specs.Prelude.{universals, existentials}
use Rattle.q_herbrand.specs.Covered.{weights}
use Rattle.q_herbrand.specs.Trails.{Trailed}

-- a circuit for each universal of the prefix, and each is 0
pub record AreZerosOf (P : Prefix) (c : CertificateView) : Type 0 where
  pub gates : c.gates ≡ []
  pub trees : (u : ℕ) → trees_of c u ≡ where_true (is_universal P u) (constant false)

-- of a formula
abbrev pub AreZeros : PrenexFormula → CertificateView → Type 0
AreZeros F c = AreZerosOf F.prefix c

-- the universals of P among the variables of Q, as variables that get outputs
abbrev pub universals_in : Prefix → Prefix → Prefix
universals_in P [] = []
universals_in P (b ∷ Q) =
    cond (is_universal P b.var) (record { quant = Exists; var = b.var } ∷ universals_in P Q) (universals_in P Q)

-- circuits of the universals of F, by the reversals of steps that led from F to a formula with the empty clause: there each
-- universal is 0
pub record IsDisproved (F : PrenexFormula) (t : Trailed) (made : CertificateView) : Type 0 where
  pub inputs : made.inputs ≡ existentials F.prefix
  pub outputs : map (λ o. o.name) made.outputs ≡ universals F.prefix
  pub values : (u : ℕ) → is_universal F.prefix u ≡ true → (A : Assignment) →
      value_of (circuit_of (trees_of made) u) A ≡
      value_of (circuit_of (Forth t.reversals (zeros t.formula)) u) A
  pub herbrand : HerbrandOf F (trees_of made)
  pub gates : length made.gates ≤ weights t.reversals
