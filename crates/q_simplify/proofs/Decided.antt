-- No target applies to a formula without literals.
use Rattle.std.proofs.Common.{◌≡◌, ◌≤◌, ◌<◌, ◌∙◌, [], ◌∷◌, refl, sym, ap, subst, arith}
use Rattle.q_logic.specs.declared.rule_bounds.Bounds.{Bounds}
use Rattle.q_logic.specs.Prelude.{Matrix, Prefix, PrenexFormula, IsSwept, formula_of, live, numbered, occurring, size_of, swept}
use Rattle.q_logic.proofs.Common.{settled-nothing}
use Rattle.q_logic.proofs.SettledResults.{settled-falsity}
use Rattle.q_kernel.specs.Prelude.{Seen, formula_in, slots}
use Rattle.q_sched.specs.Settled.{IsDone, NoneApplies}
use Rattle.q_simplify.specs.Stops.{IsUndecided}

-- a formula without clauses is settled
occurring-nothing : (P : Prefix) → occurring P [] ≡ []
occurring-nothing [] = refl
occurring-nothing (b ∷ P) = occurring-nothing P

pub nothing-settled : (B : Bounds) (P : Prefix) (X : Matrix) → X ≡ [] → swept (formula_of P X) ≡ formula_of P X → NoneApplies B P (numbered X)
nothing-settled B P X e s =
    let p : P ≡ [] = sym (ap (λ (G : PrenexFormula). G.prefix) (subst (λ (Y : Matrix). swept (formula_of P Y) ≡ formula_of P Y) e s)) ∙ occurring-nothing P in
    subst (λ (Y : Matrix). NoneApplies B P (numbered Y)) (sym e) (subst (λ (Q : Prefix). NoneApplies B Q (numbered [])) (sym p) (settled-nothing B [] refl).1)

pub small-nothing : (X : Matrix) → size_of X ≤ 0 → X ≡ []
small-nothing [] h = refl
small-nothing (C ∷ X) h = absurd (omega arith)

-- a kernel that holds one
no-prefix : (P : Prefix) (X : Matrix) → X ≡ [] → swept (formula_of P X) ≡ formula_of P X → P ≡ []
no-prefix P X e s = sym (ap (λ (G : PrenexFormula). G.prefix) (subst (λ (Y : Matrix). swept (formula_of P Y) ≡ formula_of P Y) e s)) ∙ occurring-nothing P

one-prefix : (P : Prefix) (X : Matrix) → X ≡ [] ∷ [] → swept (formula_of P X) ≡ formula_of P X → P ≡ []
one-prefix P X e s = sym (ap (λ (G : PrenexFormula). G.prefix) (subst (λ (Y : Matrix). swept (formula_of P Y) ≡ formula_of P Y) e s))

decided : (B : Bounds) (k : Seen) (X : Matrix) → X ≡ live (slots k) → IsSwept (formula_in k) → size_of X ≤ 1 → IsDone B k
decided B k [] e s l =
    subst (λ (P : Prefix). NoneApplies B P (slots k)) (sym (no-prefix k.prefix (live (slots k)) (sym e) s)) (settled-nothing B (slots k) (sym e)).1
decided B k ([] ∷ X) e s l =
    let z : X ≡ [] = small-nothing X (omega arith) in
    let f : live (slots k) ≡ [] ∷ [] = sym e ∙ ap (λ (Y : Matrix). [] ∷ Y) z in
    subst (λ (P : Prefix). NoneApplies B P (slots k)) (sym (one-prefix k.prefix (live (slots k)) f s)) (settled-falsity B (slots k) f).1
decided B k ((l ∷ C) ∷ X) e s h = absurd (omega arith)

pub decided-done : (B : Bounds) (k : Seen) → IsSwept (formula_in k) → size_of (live (slots k)) ≤ 1 → IsDone B k
decided-done B k s l = decided B k (live (slots k)) refl s l

-- and one that has a literal is none of these
pub large-undecided : (k : Seen) → 1 < size_of (live (slots k)) → IsUndecided (formula_in k)
large-undecided k l = (
  (λ e. let z : size_of (live (slots k)) ≡ 0 = ap size_of e in omega arith),
  (λ e. let z : size_of (live (slots k)) ≡ 1 = ap (λ (F : PrenexFormula). size_of F.matrix) e in omega arith),
)
