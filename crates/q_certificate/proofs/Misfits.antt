-- What is a misfit does not fit.
use Rattle.std.proofs.Common.{◌≡◌, ℕ, refl, true, false, sym, ap, ◌∙◌, subst, Some, None}
use Rattle.q_logic.specs.Prelude.{Prefix, is_universal, universal_before, CertificateView}
use Rattle.q_certificate.specs.Refusals.{input_name, ReadsInput, Fits, IsMisfit}
use Rattle.q_certificate.specs.declared.error.Misfit.{Misfit}
use Rattle.q_certificate.specs.declared.error.Misfit.TheVariants as refusal

pub misfit-not_fits : (P : Prefix) (c : CertificateView) (e : Misfit) → (e ≡ refusal.NoMemory → ⊥) → IsMisfit P c e → Fits P c → ⊥
misfit-not_fits P c (refusal.MissingOutput v) d h a = let z : None ≡ Some v = sym a.none_missing ∙ h in cc
misfit-not_fits P c (refusal.StrangeOutput v) d h a = let z : None ≡ Some v = sym a.none_strange ∙ h.1 in cc
misfit-not_fits P c (refusal.StrangeInput v) d h a =
    let s = h.2 in
    let t : is_universal P v ≡ true = ap (is_universal P) (sym s.named) ∙ a.inputs s.place s.read.0 s.read.1 in
    let f : is_universal P v ≡ false = s.strange in
    let z : true ≡ false = sym t ∙ f in cc
misfit-not_fits P c (refusal.Reads v u) d h a =
    let s = h.3 in
    let r : ReadsInput c s.bound.var s.place = subst (λ (x : ℕ). ReadsInput c x s.place) (sym s.var) s.read in
    let t : universal_before P (input_name c s.place) s.bound.var ≡ true = a.outer s.at s.bound s.is s.existential s.place r in
    let f : universal_before P (input_name c s.place) s.bound.var ≡ false = subst (λ (y : ℕ). universal_before P y s.bound.var ≡ false) (sym s.named) (subst (λ (x : ℕ). universal_before P u x ≡ false) (sym s.var) s.inner) in
    let z : true ≡ false = sym t ∙ f in cc
misfit-not_fits P c refusal.NoMemory d h a = d refl
