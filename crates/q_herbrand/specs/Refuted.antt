-- What comes out.
use Rattle.std.specs.Prelude.{◌≡◌, ◌≤◌, ℕ, ◌+◌, Bool, true, List, length, map}
use Rattle.q_logic.specs.Prelude.{PrenexFormula, is_universal, Assignment, value_of, CertificateView, trees_of, circuit_of, Lawful}
use Rattle.q_aig.specs.Prelude.{Serves, marked_count}
use Rattle.q_certificate.specs.Prelude.{HasCones, universals, existentials}
use Rattle.q_logic.specs.Exchanging.{exchanged}
use Rattle.q_logic.specs.Herbrands.{LawfulHerbrand, HerbrandOf}
use Rattle.q_logic.specs.Reversals.{Reversal, Forth}
use Rattle.q_herbrand.specs.Covered.{weights}

-- circuits over more inputs than those of the formula before
pub record IsWide (F : PrenexFormula) (rs : List Reversal) (given made : CertificateView) : Type 0 where
  pub serves : (u : ℕ) → is_universal F.prefix u ≡ true →
      Serves (circuit_of (trees_of made) u) (circuit_of (Forth rs (trees_of given)) u)
  pub lawful : Lawful (exchanged F.prefix) (trees_of made)
  pub gates : length made.gates ≤ length given.gates + weights rs
  pub cones : (marks : List Bool) → HasCones given marks → length made.gates ≤ marked_count marks + weights rs

-- circuits of the universals of the formula before, made from those of the formula after
pub record IsRefuted (F G : PrenexFormula) (rs : List Reversal) (given made : CertificateView) : Type 0 where
  pub inputs : made.inputs ≡ existentials F.prefix
  pub outputs : map (λ o. o.name) made.outputs ≡ universals F.prefix
  pub values : (u : ℕ) → is_universal F.prefix u ≡ true → (A : Assignment) →
      value_of (circuit_of (trees_of made) u) A ≡ value_of (circuit_of (Forth rs (trees_of given)) u) A
  pub lawful : LawfulHerbrand F.prefix (trees_of made)
  pub herbrand : HerbrandOf G (trees_of given) → HerbrandOf F (trees_of made)
  pub gates : length made.gates ≤ length given.gates + weights rs
  pub cones : (marks : List Bool) → HasCones given marks → length made.gates ≤ marked_count marks + weights rs
