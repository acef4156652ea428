-- What comes out: circuits of the formula before.
use Rattle.std.specs.Prelude.{◌≡◌, ◌≤◌, ℕ, ◌+◌, Bool, true, List, length, map}
use Rattle.q_logic.specs.Prelude.{PrenexFormula, is_existential, Assignment, value_of, CertificateView, trees_of, circuit_of, Lawful, SkolemOf, UndoEntry, Back}
use Rattle.q_aig.specs.Prelude.{marked_count}
use Rattle.q_certificate.specs.Prelude.{universals, existentials, HasCones}
use Rattle.q_rebuild.specs.TakenBack.{weights}

-- circuits of the formula before, made from those of the formula after
pub record IsRebuilt (F G : PrenexFormula) (us : List UndoEntry) (given made : CertificateView) : Type 0 where
  pub inputs : made.inputs ≡ universals F.prefix
  pub outputs : map (λ o. o.name) made.outputs ≡ existentials F.prefix
  pub values : (x : ℕ) → is_existential F.prefix x ≡ true → (A : Assignment) → value_of (circuit_of (trees_of made) x) A ≡ value_of (circuit_of (Back us (trees_of given)) x) A
  pub lawful : Lawful F.prefix (trees_of made)
  pub skolem : SkolemOf G (trees_of given) → SkolemOf F (trees_of made)
  pub gates : length made.gates ≤ length given.gates + weights us
  pub cones : (marks : List Bool) → HasCones given marks → length made.gates ≤ marked_count marks + weights us
