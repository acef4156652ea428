-- Literals that stand for variables, and clauses made by them.
use Rattle.std.proofs.Common.{◌≡◌, ◌≢◌, ℕ, ◌+◌, ◌<◌, Bool, true, false, cond, eqb, List, [], ◌∷◌, ◌++◌, length, take, get_or, Option, Some, None, refl, sym, ap, ◌∙◌, subst, arith}
use Rattle.std.proofs.lemmas.Bool.Decides.{nat_tests}
use Rattle.q_logic.specs.Prelude.{Literal, negation, Clause, Operand, NamedOutput, CertificateView, output_named}
use Rattle.q_logic.proofs.Common.{taken}
use Rattle.q_aig.specs.declared.output.Output.{Output}
use Rattle.q_aig.specs.Prelude.{operand_of, output_of}
use Rattle.q_pages.specs.ByNumber.{Values, value_at, IsPut}
use Rattle.q_miter.specs.Miters.{operand_literal, literal_by, translated, translated_clause}
use Rattle.q_encode.specs.Translations.{circuit_literal, AreBy, IsTranslation}

-- the literals of circuits
pub placed-none : (top : ℕ) (inputs : List ℕ) (lits : Values (Option Literal)) → ((v : ℕ) → value_at lits v ≡ None) → AreBy top inputs [] lits
placed-none top inputs lits h = record { at = h }

pub placed-by : (top : ℕ) (inputs : List ℕ) (os : List NamedOutput) (lits more : Values (Option Literal)) (o : Output) (l : Literal) → AreBy top inputs os lits →
    l ≡ operand_literal top inputs (operand_of o.lit) → IsPut lits more o.var (Some l) → AreBy top inputs (output_of o ∷ os) more
placed-by top inputs os lits more o l h e put = record { at = λ v. go v (eqb o.var v) refl }
  where
    go : (v : ℕ) (t : Bool) → eqb o.var v ≡ t →
        value_at more v ≡ circuit_literal top inputs (cond t (Some (operand_of o.lit)) (output_named v os))
    go v true r =
        let s : v ≡ o.var = grind (arith, nat_tests) in
        subst (λ (x : ℕ). value_at more x ≡ Some (operand_literal top inputs (operand_of o.lit))) (sym s) (put.here ∙ ap (λ (x : Literal). Some x) e)
    go v false r =
        let s : v ≢ o.var = grind (arith, nat_tests) in
        put.others v s ∙ h.at v

-- one literal
pub translated-own : (top : ℕ) (c : CertificateView) (lits : Values (Option Literal)) (k : Literal) → IsTranslation top c lits →
    value_at lits k.var ≡ None → k ≡ translated top c k
translated-own top c lits k h e = go (output_named k.var c.outputs) (sym (h.at k.var) ∙ e)
  where
    go : (o : Option Operand) → circuit_literal top c.inputs o ≡ None → k ≡ literal_by top c.inputs k o
    go None r = refl
    go (Some o) r = absurd (cc)

pub translated-by : (top : ℕ) (c : CertificateView) (lits : Values (Option Literal)) (k p : Literal) → IsTranslation top c lits →
    value_at lits k.var ≡ Some p → cond k.negative (negation p) p ≡ translated top c k
translated-by top c lits k p h e = go (output_named k.var c.outputs) (sym (h.at k.var) ∙ e)
  where
    go : (o : Option Operand) → circuit_literal top c.inputs o ≡ Some p → cond k.negative (negation p) p ≡ literal_by top c.inputs k o
    go None r = absurd (cc)
    go (Some o) r =
        let q : operand_literal top c.inputs o ≡ p = cc in
        ap (λ (x : Literal). cond k.negative (negation x) x) (sym q)

-- clauses
clause-last : (top : ℕ) (c : CertificateView) (C : Clause) (k : Literal) → translated_clause top c (C ++ k ∷ []) ≡ translated_clause top c C ++ translated top c k ∷ []
clause-last top c [] k = refl
clause-last top c (j ∷ C) k = ap (λ (D : Clause). translated top c j ∷ D) (clause-last top c C k)

pub clause-more : (top : ℕ) (c : CertificateView) (C made : Clause) (n : ℕ) (k l : Literal) → n < length C → k ≡ get_or C n k →
    made ≡ translated_clause top c (take n C) → l ≡ translated top c k → made ++ l ∷ [] ≡ translated_clause top c (take (n + 1) C)
clause-more top c C made n k l b e h f =
    ap (λ (D : Clause). D ++ l ∷ []) h ∙
    ap (λ (x : Literal). translated_clause top c (take n C) ++ x ∷ []) f ∙
    sym (ap (translated_clause top c) (taken C n k b e) ∙ clause-last top c (take n C) k)
