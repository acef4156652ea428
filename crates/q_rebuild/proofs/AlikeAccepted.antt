-- Circuits of the same inputs, names and trees are accepted alike.
use Rattle.std.proofs.Common.{◌≡◌, ℕ, map, subst}
use Rattle.q_logic.specs.Prelude.{PrenexFormula, CertificateView, trees_of, Strategy, SkolemOf}
use Rattle.q_certificate.proofs.AlikeFit.{fits-alike}
use Rattle.q_rebuild.specs.Refusals.{IsAccepted}

pub same-strategy : (s t : Strategy) → ((x : ℕ) → s x ≡ t x) → s ≡ t
same-strategy s t h = λ i x. h x i

module _ (c d : CertificateView) (inputs : c.inputs ≡ d.inputs) (names : map (λ o. o.name) c.outputs ≡ map (λ o. o.name) d.outputs) (trees : (x : ℕ) → trees_of c x ≡ trees_of d x) where
  pub accepted-alike : (G : PrenexFormula) → IsAccepted G c → IsAccepted G d
  accepted-alike G a = record { fits = fits-alike c d inputs names trees G.prefix a.fits; not_false = a.not_false }

  -- what is a Skolem function by its tree
  pub skolem-alike : (G : PrenexFormula) → SkolemOf G (trees_of c) → SkolemOf G (trees_of d)
  skolem-alike G h = subst (SkolemOf G) (same-strategy (trees_of c) (trees_of d) trees) h
