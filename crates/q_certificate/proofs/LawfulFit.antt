-- Lawful circuits fit.
use Rattle.std.proofs.Common.{◌≡◌, ◌⊎◌, ℕ, zero, suc, ◌&&◌, Bool, true, false, not, cond, eqb, List, [], ◌∷◌, inl, inr, arith, refl, sym, ap, ◌∙◌, subst, Some, None, slice_get}
use Rattle.q_logic.specs.declared.formulas.Bound.{Bound}
use Rattle.q_logic.specs.Prelude.{Prefix, IsIn, is_exists, is_existential, is_bound, Distinct, NamedOutput, CertificateView, output_named, tree_of_some, trees_of, given, Lawful}
use Rattle.q_certificate.specs.Refusals.{first_missing, first_strange, input_name, Fits}
use Rattle.q_certificate.proofs.NamedCertificates.{before-universal}

bound-is : (Q : Prefix) (x : Bound) → IsIn x Q → is_bound Q x.var ≡ true
bound-is [] x j = elim j [ ]
bound-is (y ∷ Q) x (inl q) = let v : x.var ≡ y.var = ap (λ (z : Bound). z.var) q in grind arith
bound-is (y ∷ Q) x (inr j) = let r : is_bound Q x.var ≡ true = bound-is Q x j in grind arith

exists-is : (P : Prefix) (b : Bound) → Distinct P → IsIn b P → is_exists b.quant ≡ true → is_existential P b.var ≡ true
exists-is [] b d i e = elim i [ ]
exists-is (a ∷ P) b d (inl q) e = let z : is_exists a.quant ≡ true = subst (λ (x : Bound). is_exists x.quant ≡ true) q e in let v : b.var ≡ a.var = ap (λ (x : Bound). x.var) q in grind arith
exists-is (a ∷ P) b d (inr i) e =
    let h : is_existential P b.var ≡ true = exists-is P b d.1 i e in
    let k : is_bound P b.var ≡ true = bound-is P b i in
    go (eqb a.var b.var) refl h k
  where
    go : (s : Bool) → eqb a.var b.var ≡ s → is_existential P b.var ≡ true → is_bound P b.var ≡ true → cond s (is_exists a.quant) (is_existential P b.var) ≡ true
    go true q h k = let v : a.var ≡ b.var = grind arith in let z : is_bound P b.var ≡ false = subst (λ (w : ℕ). is_bound P w ≡ false) v d.0 in absurd (grind arith)
    go false q h k = h

missing-none : (c : CertificateView) (Q : Prefix) → ((b : Bound) → IsIn b Q → is_exists b.quant ≡ true → given (trees_of c b.var) ≡ true) → first_missing Q c ≡ None
missing-none c [] h = refl
missing-none c (b ∷ Q) h = go (is_exists b.quant) (given (trees_of c b.var)) (h b (inl refl)) (missing-none c Q (λ x i e. h x (inr i) e))
  where
    go : (e g : Bool) → (e ≡ true → g ≡ true) → first_missing Q c ≡ None → cond (e && not g) (Some b.var) (first_missing Q c) ≡ None
    go true true k i = i
    go true false k i = let z : false ≡ true = k refl in cc
    go false g k i = i

named-some : (c : CertificateView) (os : List NamedOutput) (o : NamedOutput) → IsIn o os → given (tree_of_some c (output_named o.name os)) ≡ true
named-some c [] o i = elim i [ ]
named-some c (x ∷ os) o i = go (eqb x.name o.name) refl i (named-some c os o)
  where
    go : (s : Bool) → eqb x.name o.name ≡ s → (o ≡ x) ⊎ IsIn o os → (IsIn o os → given (tree_of_some c (output_named o.name os)) ≡ true) → given (tree_of_some c (cond s (Some x.operand) (output_named o.name os))) ≡ true
    go true q j ih = refl
    go false q (inl e) ih = let n : o.name ≡ x.name = ap (λ (z : NamedOutput). z.name) e in absurd (grind arith)
    go false q (inr j) ih = ih j

strange-none : (P : Prefix) (os : List NamedOutput) → ((o : NamedOutput) → IsIn o os → is_existential P o.name ≡ true) → first_strange P os ≡ None
strange-none P [] h = refl
strange-none P (o ∷ os) h = rw (h o (inl refl)) (strange-none P os (λ x i. h x (inr i)))

slice_get-IsIn : (P : Prefix) (j : ℕ) (b : Bound) → slice_get P j ≡ Some b → IsIn b P
slice_get-IsIn [] j b e = cc
slice_get-IsIn (a ∷ P) zero b e = inl (cc)
slice_get-IsIn (a ∷ P) (suc j) b e = inr (slice_get-IsIn P j b e)

pub lawful-fits : (P : Prefix) (c : CertificateView) → Distinct P → Lawful P (trees_of c) → Fits P c
lawful-fits P c d l = record {
  none_missing = missing-none c P (λ b i e. l.trees b.var ∙ exists-is P b d i e);
  none_strange = strange-none P c.outputs (λ o i. sym (l.trees o.name) ∙ named-some c c.outputs o i);
  inputs = λ i x r. before-universal P (input_name c i) x (l.reads x (sym (l.trees x) ∙ r.0) (input_name c i) r.2);
  outer = λ j b e q i r. l.reads b.var (sym (l.trees b.var) ∙ r.0) (input_name c i) r.2;
}
