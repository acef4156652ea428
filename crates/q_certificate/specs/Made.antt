-- Graphs over the universals of a prefix, with outputs for its existentials.
use Rattle.std.specs.Prelude.{◌≡◌, ℕ, cond, List, [], ◌∷◌, Option}
use Rattle.q_logic.specs.Prelude.{Prefix, is_exists, is_universal, NamedOutput, CertificateView}
use Rattle.q_aig.specs.Prelude.{Net, operand_of}
use Rattle.q_certificate.specs.Standing.{look_at, AreLiterals, InputsAt}
use Rattle.q_certificate.specs.Copied.{or_zero}

abbrev pub universals : Prefix → List ℕ
universals [] = []
universals (b ∷ P) = cond (is_exists b.quant) (universals P) (b.var ∷ universals P)

abbrev pub existentials : Prefix → List ℕ
existentials [] = []
existentials (b ∷ P) = cond (is_exists b.quant) (b.var ∷ existentials P) (existentials P)

-- the outputs that a row of literals gives to a prefix
abbrev pub outputs_for : List (Option ℕ) → Prefix → List NamedOutput
outputs_for tb [] = []
outputs_for tb (b ∷ P) =
    cond (is_exists b.quant)
    (record { name = b.var; operand = operand_of (or_zero (look_at tb b.var)) } ∷ outputs_for tb P)
    (outputs_for tb P)

pub record IsOpened (a : Net) (ins : List (Option ℕ)) (P : Prefix) : Type 0 where
  pub inputs : a.inputs ≡ universals P
  pub gates : a.gates ≡ []
  pub literals : AreLiterals a ins
  pub at : InputsAt a ins (is_universal P)

pub record IsNamed (a : Net) (made : CertificateView) (tb : List (Option ℕ)) (P : Prefix) : Type 0 where
  pub inputs : made.inputs ≡ a.inputs
  pub gates : made.gates ≡ a.gates
  pub outputs : made.outputs ≡ outputs_for tb P
