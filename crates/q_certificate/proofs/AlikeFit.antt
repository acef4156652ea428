-- Circuits of the same inputs, names and trees fit alike.
use Rattle.std.proofs.Common.{◌≡◌, ℕ, ◌<◌, ◌&&◌, not, cond, List, [], ◌∷◌, length, map, get_or, refl, sym, ap, ◌∙◌, subst, Option, Some}
use Rattle.q_logic.specs.Prelude.{Prefix, is_exists, is_existential, is_universal, universal_before, Circuit, Reads, NamedOutput, CertificateView, trees_of, or_input, given}
use Rattle.q_certificate.specs.Refusals.{first_missing, first_strange, input_name, ReadsInput, Fits}

first_strange-alike : (P : Prefix) (os ps : List NamedOutput) → map (λ o. o.name) os ≡ map (λ o. o.name) ps → first_strange P os ≡ first_strange P ps
first_strange-alike P [] [] e = refl
first_strange-alike P [] (p ∷ ps) e = absurd (cc)
first_strange-alike P (o ∷ os) [] e = absurd (cc)
first_strange-alike P (o ∷ os) (p ∷ ps) e =
    let n : o.name ≡ p.name = cc in
    let m : map (λ o. o.name) os ≡ map (λ o. o.name) ps = cc in
    let r = first_strange-alike P os ps m in
    ap (λ (s : Option ℕ). cond (is_existential P o.name) s (Some o.name)) r ∙ ap (λ (v : ℕ). cond (is_existential P v) (first_strange P ps) (Some v)) n

module _ (c d : CertificateView) (inputs : c.inputs ≡ d.inputs) (names : map (λ o. o.name) c.outputs ≡ map (λ o. o.name) d.outputs) (trees : (x : ℕ) → trees_of c x ≡ trees_of d x) where
  first_missing-alike : (P : Prefix) → first_missing P c ≡ first_missing P d
  first_missing-alike [] = refl
  first_missing-alike (b ∷ P) =
      ap (λ (o : Option Circuit). cond (is_exists b.quant && not (given o)) (Some b.var) (first_missing P c)) (trees b.var)
      ∙ ap (λ (r : Option ℕ). cond (is_exists b.quant && not (given (trees_of d b.var))) (Some b.var) r) (first_missing-alike P)

  input_name-alike : (i : ℕ) → input_name c i ≡ input_name d i
  input_name-alike i = ap (λ (xs : List ℕ). get_or xs i 0) inputs

  reads-alike : (x i : ℕ) → ReadsInput d x i → ReadsInput c x i
  reads-alike x i r = (
    ap given (trees x) ∙ r.0,
    subst (λ (xs : List ℕ). i < length xs) (sym inputs) r.1,
    subst (λ (v : ℕ). Reads (or_input x (trees_of c x)) v) (sym (input_name-alike i)) (subst (λ (o : Option Circuit). Reads (or_input x o) (input_name d i)) (sym (trees x)) r.2),
  )

  pub fits-alike : (P : Prefix) → Fits P c → Fits P d
  fits-alike P a = record {
    none_missing = sym (first_missing-alike P) ∙ a.none_missing;
    none_strange = sym (first_strange-alike P c.outputs d.outputs names) ∙ a.none_strange;
    inputs = λ i x r. ap (is_universal P) (sym (input_name-alike i)) ∙ a.inputs i x (reads-alike x i r);
    outer = λ j b e q i r. ap (λ (v : ℕ). universal_before P v b.var) (sym (input_name-alike i)) ∙ a.outer j b e q i (reads-alike b.var i r);
  }
