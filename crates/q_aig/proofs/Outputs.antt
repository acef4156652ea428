-- One more output.
use Rattle.std.proofs.Common.{◌≡◌, ◌≢◌, ℕ, ◌<◌, List, [], ◌∷◌, ◌++◌, length, map, get_or, sym, ap, ◌∙◌, subst, inl, inr, arith}
use Rattle.std.proofs.lemmas.List.{length-map, get_or-map, length_push, get_or_append_left, get_or_push}
use Rattle.std.proofs.lemmas.Bool.{cases_lt}
use Rattle.q_logic.specs.Prelude.{NamedOutput}
use Rattle.q_aig.specs.declared.output.Output.{Output}
use Rattle.q_aig.specs.Nets.{Net, IsLiteral}
use Rattle.q_aig.specs.Outputs.{output_of, no_output, IsNewName, AreOutputs}

pub outputs-more : (a : Net) (os os2 : List Output) (v l : ℕ) → AreOutputs a os → IsNewName (map output_of os) v → IsLiteral a l → os2 ≡ os ++ record { var = v; lit = l } ∷ [] → AreOutputs a os2
outputs-more a os os2 v l o new h e = subst (AreOutputs a) (sym e) (record { literals = lits; names = names })
  where
    out : Output
    out = record { var = v; lit = l }

    early : (i : ℕ) → i < length os → get_or (os ++ record { var = v; lit = l } ∷ []) i no_output ≡ get_or os i no_output
    early i lt = get_or_append_left os (record { var = v; lit = l } ∷ []) no_output i lt

    last : (i : ℕ) → length os ≡ i → get_or (os ++ record { var = v; lit = l } ∷ []) i no_output ≡ record { var = v; lit = l }
    last i q = get_or_push os (record { var = v; lit = l }) no_output i q

    fresh : (i : ℕ) → i < length os → (get_or os i no_output).var ≢ v
    fresh i lt q =
        let len : length (map output_of os) ≡ length os = length-map os output_of in
        let is : get_or (map output_of os) i (output_of no_output) ≡ output_of (get_or os i no_output) = get_or-map output_of os i no_output (output_of no_output) lt in
        new i (omega arith) (ap (λ (n : NamedOutput). n.name) is ∙ q)

    lits : (i : ℕ) → i < length (os ++ record { var = v; lit = l } ∷ []) → IsLiteral a (get_or (os ++ record { var = v; lit = l } ∷ []) i no_output).lit
    lits i lt =
        let len = length_push os (record { var = v; lit = l }) in
        elim (cases_lt i (length os)) [
          | inl b ↦ subst (λ (x : Output). IsLiteral a x.lit) (sym (early i b)) (o.literals i b)
          | inr b ↦ subst (λ (x : Output). IsLiteral a x.lit) (sym (last i (omega arith))) h
        ]

    names : (i j : ℕ) → i < length (os ++ record { var = v; lit = l } ∷ []) → j < length (os ++ record { var = v; lit = l } ∷ []) → (get_or (os ++ record { var = v; lit = l } ∷ []) i no_output).var ≡ (get_or (os ++ record { var = v; lit = l } ∷ []) j no_output).var → i ≡ j
    names i j li lj q =
        let len = length_push os (record { var = v; lit = l }) in
        elim (cases_lt i (length os)) [
          | inl b ↦ elim (cases_lt j (length os)) [
            | inl d ↦ o.names i j b d (sym (ap (λ (x : Output). x.var) (early i b)) ∙ q ∙ ap (λ (x : Output). x.var) (early j d))
            | inr d ↦ absurd (fresh i b (sym (ap (λ (x : Output). x.var) (early i b)) ∙ q ∙ ap (λ (x : Output). x.var) (last j (omega arith))))
          ]
          | inr b ↦ elim (cases_lt j (length os)) [
            | inl d ↦ absurd (fresh j d (sym (ap (λ (x : Output). x.var) (early j d)) ∙ sym q ∙ ap (λ (x : Output). x.var) (last i (omega arith))))
            | inr d ↦ omega arith
          ]
        ]
