-- Certificates that differ in the order of their gates alone, and files that hold no circuits.
use Rattle.std.specs.Prelude.{◌≡◌, ℕ, List}
use Rattle.q_logic.specs.Prelude.{CertificateView, trees_of}
use Rattle.q_aiger.specs.Writing.{names_of}
use Rattle.q_aiger.specs.Circuits.{AreCircuits}

-- the same inputs, the same names of outputs in the same order, and for each name the same tree
pub record AreAlike (c d : CertificateView) : Type 0 where
  pub inputs : c.inputs ≡ d.inputs
  pub names : names_of c.outputs ≡ names_of d.outputs
  pub trees : (x : ℕ) → trees_of c x ≡ trees_of d x

-- the file holds no circuits
abbrev pub IsNoCircuits : List ℕ → Type 0
IsNoCircuits bytes = (c : CertificateView) → ¬ AreCircuits bytes c
