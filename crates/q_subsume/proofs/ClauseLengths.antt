-- A clause within another one is no longer than that.
use Rattle.std.proofs.Common.{◌≡◌, ◌≢◌, ◌≤◌, ◌<◌, ◌⊎◌, ℕ, Bool, true, false, [], ◌∷◌, length, refl, sym, ap, ◌∙◌, subst, inl, inr, arith, true≢false}
use Rattle.q_logic.specs.Prelude.{Literal, IsBelow, negation, literal_eq, pack, Clause, IsIn, ArePairs, without, IsSubset}
use Rattle.q_logic.proofs.Common.{literal_eq-sound, literal_eq-itself, same_or_not, without-other, IsIn-without, without-IsIn, without-in_order}
use Rattle.q_kernel.proofs.KernelInvariant.{length-shorter}
use Rattle.q_subsume.specs.Looks.{IsTurnedWithin}
use Rattle.q_rule.proofs.OrderedClauses.{all-below}

below_or_not : (a b : ℕ) → (a < b) ⊎ (b ≤ a)
below_or_not a b = grind arith

-- All literals of C are above the first of D, or it is the first of C.
pub within-length : (C D : Clause) → ArePairs IsBelow C → ArePairs IsBelow D → IsSubset C D → length C ≤ length D
within-length [] D o p w = omega arith
within-length (x ∷ C) [] o p w = absurd (w x (inl refl))
within-length (x ∷ C) (y ∷ D) o p w = elim (same_or_not x y) [
  | inl e ↦ let i : length C ≤ length D = within-length C D o.1 p.1 (rest e) in omega arith
  | inr n ↦ let i : length (x ∷ C) ≤ length D = within-length (x ∷ C) D o p.1 (all n) in omega arith
]
  where
    rest : x ≡ y → IsSubset C D
    rest e k m = elim (w k (inr m)) [
      | inl f ↦ let a = all-below x k C o.0 m in let b : pack k ≡ pack x = ap pack (f ∙ sym e) in absurd (omega arith)
      | inr i ↦ i
    ]

    first : x ≢ y → IsIn x D
    first n = elim (w x (inl refl)) [ inl f ↦ absurd (n f) | inr i ↦ i ]

    all : x ≢ y → IsSubset (x ∷ C) D
    all n k (inl e) = subst (λ (z : Literal). IsIn z D) (sym e) (first n)
    all n k (inr m) = elim (w k (inr m)) [
      | inl f ↦ let a = all-below x k C o.0 m in let b = all-below y x D p.0 (first n) in let g : pack k ≡ pack y = ap pack f in absurd (omega arith)
      | inr i ↦ i
    ]

-- The same where one literal is turned.
pub turned-length : (C D : Clause) (l : Literal) → ArePairs IsBelow C → ArePairs IsBelow D → IsIn (negation l) C → IsTurnedWithin C D l → length C ≤ length D
turned-length C D l o p n w =
    let a = length-shorter (negation l) C o n in
    let b = length-shorter l D p w.held in
    let i : length (without (negation l) C) ≤ length (without l D) = within-length (without (negation l) C) (without l D) (without-in_order (negation l) C o) (without-in_order l D p) rest in
    omega arith
  where
    other : (j : Literal) → j ≢ l → (b : Bool) → literal_eq j l ≡ b → literal_eq j l ≡ false
    other j n true q = absurd (n (literal_eq-sound j l q))
    other j n false q = q

    rest : IsSubset (without (negation l) C) (without l D)
    rest j m =
        let r = w.rest j (without-IsIn (negation l) C j m) (λ e. true≢false (sym (subst (λ (z : Literal). literal_eq z (negation l) ≡ true) (sym e) (literal_eq-itself (negation l))) ∙ without-other (negation l) C j m)) in
        IsIn-without l D j r.0 (other j r.1 (literal_eq j l) refl)
