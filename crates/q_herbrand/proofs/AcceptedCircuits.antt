-- Which circuits are accepted.
use Rattle.std.proofs.Common.{◌≡◌, ℕ, false, [], map, refl, subst}
use Rattle.q_logic.specs.Prelude.{IsIn, PrenexFormula, IsFormula, CertificateView, trees_of, outcome}
use Rattle.q_logic.specs.Exchanging.{exchanged}
use Rattle.q_logic.specs.Herbrands.{MatrixFalse, HerbrandOf}
use Rattle.q_logic.proofs.Exchanged.{exchanged-distinct, lawful-exchanged}
use Rattle.q_certificate.specs.declared.error.Misfit.TheVariants as misfit
use Rattle.q_certificate.proofs.LawfulFit.{lawful-fits}
use Rattle.q_certificate.proofs.AlikeFit.{fits-alike}
use Rattle.q_certificate.proofs.Misfits.{misfit-not_fits}
use Rattle.q_herbrand.specs.declared.error.HerbrandError.{HerbrandError}
use Rattle.q_herbrand.specs.declared.error.HerbrandError.TheVariants as refusal
use Rattle.q_herbrand.specs.Refusals.{IsRefused, IsAccepted}

-- Herbrand functions are accepted.
pub herbrand-accepted : (G : PrenexFormula) (c : CertificateView) → IsFormula G → HerbrandOf G (trees_of c) →
    IsAccepted G c
herbrand-accepted G c f h = record {
  fits = lawful-fits (exchanged G.prefix) c (exchanged-distinct G.prefix f.distinct)
      (lawful-exchanged G.prefix (trees_of c) h.lawful);
  not_true = λ e. none (h.loses (λ x. false)) e;
}
  where
    none : MatrixFalse (outcome (trees_of c) (λ x. false)) G.matrix → G.matrix ≡ [] → ⊥
    none (D, m, n) e = subst (IsIn D) e m

-- Circuits of the same inputs, names and trees are accepted alike.
pub accepted-alike : (c d : CertificateView) → c.inputs ≡ d.inputs →
    map (λ o. o.name) c.outputs ≡ map (λ o. o.name) d.outputs → ((x : ℕ) → trees_of c x ≡ trees_of d x) →
    (G : PrenexFormula) → IsAccepted G c → IsAccepted G d
accepted-alike c d inputs names trees G a =
    record { fits = fits-alike c d inputs names trees (exchanged G.prefix) a.fits; not_true = a.not_true }

-- What is refused is not accepted.
pub refused-not_accepted : (G : PrenexFormula) (c : CertificateView) (e : HerbrandError) →
    (e ≡ refusal.NoMemory → ⊥) → IsRefused G c e → IsAccepted G c → ⊥
refused-not_accepted G c (refusal.MissingOutput v) d h a =
    misfit-not_fits (exchanged G.prefix) c (misfit.MissingOutput v) (λ e. cc) h a.fits
refused-not_accepted G c (refusal.StrangeOutput v) d h a =
    misfit-not_fits (exchanged G.prefix) c (misfit.StrangeOutput v) (λ e. cc) h a.fits
refused-not_accepted G c (refusal.StrangeInput v) d h a =
    misfit-not_fits (exchanged G.prefix) c (misfit.StrangeInput v) (λ e. cc) h a.fits
refused-not_accepted G c (refusal.Reads v e) d h a =
    misfit-not_fits (exchanged G.prefix) c (misfit.Reads v e) (λ e. cc) h a.fits
refused-not_accepted G c refusal.TrueOutput d h a = a.not_true h.1
refused-not_accepted G c refusal.NoMemory d h a = d refl
