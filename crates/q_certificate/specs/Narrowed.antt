-- Circuits over the universals of a prefix alone.
use Rattle.std.specs.Prelude.{◌≡◌, ◌≤◌, ℕ, Bool, true, List, length, map}
use Rattle.q_logic.specs.Prelude.{Prefix, is_existential, CertificateView, trees_of, circuit_of, Lawful}
use Rattle.q_aig.specs.Prelude.{Serves, marked_count}
use Rattle.q_certificate.specs.Made.{universals, existentials}
use Rattle.q_certificate.specs.Cones.{HasCones}

pub record IsNarrowed (P : Prefix) (given made : CertificateView) : Type 0 where
  pub inputs : made.inputs ≡ universals P
  pub outputs : map (λ o. o.name) made.outputs ≡ existentials P
  pub serves : (x : ℕ) → is_existential P x ≡ true → Serves (circuit_of (trees_of made) x) (circuit_of (trees_of given) x)
  pub lawful : Lawful P (trees_of made)
  pub gates : length made.gates ≤ length given.gates
  pub cones : (marks : List Bool) → HasCones given marks → length made.gates ≤ marked_count marks
