-- How often a clause stands in a matrix.
use Rattle.std.proofs.Common.{◌≡◌, ◌≤◌, ◌+◌, Bool, true, false, cond, [], ◌∷◌, ◌⊎◌, inl, inr, arith, refl, sym, ap, subst, length}
use Rattle.q_logic.specs.Prelude.{Clause, Matrix, IsIn, clause_eq, one_less, literals_in, copies}
use Rattle.q_logic.proofs.Runs.{clause_eq-sound, clause_eq-itself, IsIn-copies}
use Rattle.q_logic.proofs.JustifiedRuns.{SameClauses, IsIn-alike, alike-sym, alike-trans, alike-uncons, one_less-alike}

-- Of a clause that is not there none goes.
pub one_less-none : (C : Clause) (X : Matrix) → (IsIn C X → ⊥) → one_less C X ≡ X
one_less-none C [] n = refl
one_less-none C (D ∷ X) n = go (clause_eq D C) refl (one_less-none C X)
  where
    go : (b : Bool) → clause_eq D C ≡ b → ((IsIn C X → ⊥) → one_less C X ≡ X) → cond b X (D ∷ one_less C X) ≡ D ∷ X
    go true q ih = absurd (n (inl (sym (clause_eq-sound D C q))))
    go false q ih = ap (λ (Y : Matrix). D ∷ Y) (ih (λ m. n (inr m)))

is_in-or : (C : Clause) (X : Matrix) → IsIn C X ⊎ (IsIn C X → ⊥)
is_in-or C [] = inr (λ m. m)
is_in-or C (D ∷ X) = go (clause_eq D C) refl (is_in-or C X)
  where
    other : clause_eq D C ≡ false → C ≡ D → ⊥
    other q e = let z : clause_eq D C ≡ true = subst (λ y. clause_eq y C ≡ true) e (clause_eq-itself C) in grind arith

    go : (b : Bool) → clause_eq D C ≡ b → IsIn C X ⊎ (IsIn C X → ⊥) → IsIn C (D ∷ X) ⊎ (IsIn C (D ∷ X) → ⊥)
    go true q ih = inl (inl (sym (clause_eq-sound D C q)))
    go false q (inl m) = inl (inr m)
    go false q (inr n) = inr (λ m. elim m [ inl e ↦ other q e | inr k ↦ n k ])

pub one_less-same : (C : Clause) (X Y : Matrix) → SameClauses X Y → SameClauses (one_less C X) (one_less C Y)
one_less-same C X Y s = elim (is_in-or C X) [
  | inl m ↦ alike-uncons C (one_less C X) (one_less C Y)
      (alike-trans (C ∷ one_less C X) X (C ∷ one_less C Y) (alike-sym X (C ∷ one_less C X) (one_less-alike C X m))
      (alike-trans X Y (C ∷ one_less C Y) s (one_less-alike C Y (IsIn-alike X Y s C m))))
  | inr n ↦ rw (one_less-none C X n, one_less-none C Y (λ m. n (IsIn-alike Y X (alike-sym X Y s) C m))) s
]

-- Equal collections have equal sizes.
pub one_less-sizes : (C : Clause) (X : Matrix) → IsIn C X → (length X ≡ length (one_less C X) + 1) × (literals_in X ≡ literals_in (one_less C X) + length C)
one_less-sizes C [] m = elim m [ ]
one_less-sizes C (E ∷ X) m = go (clause_eq E C) refl m (one_less-sizes C X)
  where
    go : (b : Bool) → clause_eq E C ≡ b → (C ≡ E) ⊎ IsIn C X → (IsIn C X → (length X ≡ length (one_less C X) + 1) × (literals_in X ≡ literals_in (one_less C X) + length C)) →
        (length (E ∷ X) ≡ length (cond b X (E ∷ one_less C X)) + 1) × (literals_in (E ∷ X) ≡ literals_in (cond b X (E ∷ one_less C X)) + length C)
    go true q n ih = let e : length E ≡ length C = ap (λ (D : Clause). length D) (clause_eq-sound E C q) in (omega arith, omega arith)
    go false q (inl e) ih = let z : clause_eq E C ≡ true = subst (λ y. clause_eq y C ≡ true) e (clause_eq-itself C) in absurd (grind arith)
    go false q (inr n) ih = let i : (length X ≡ length (one_less C X) + 1) × (literals_in X ≡ literals_in (one_less C X) + length C) = ih n in (omega (arith, i.0), omega (arith, i.1))

pub no_copies : (X : Matrix) → ((C : Clause) → 0 ≡ copies C X) → X ≡ []
no_copies [] h = refl
no_copies (D ∷ X) h = let z : 1 ≤ copies D (D ∷ X) = IsIn-copies D (D ∷ X) (inl refl) in let e : 0 ≡ copies D (D ∷ X) = h D in absurd (omega arith)

pub same-sizes : (X Y : Matrix) → SameClauses X Y → (length X ≡ length Y) × (literals_in X ≡ literals_in Y)
same-sizes [] Y s = let e : Y ≡ [] = no_copies Y s in rw e (refl, refl)
same-sizes (C ∷ X) Y s =
    let m : IsIn C Y = IsIn-alike (C ∷ X) Y s C (inl refl) in
    let z : (length Y ≡ length (one_less C Y) + 1) × (literals_in Y ≡ literals_in (one_less C Y) + length C) = one_less-sizes C Y m in
    let i : (length X ≡ length (one_less C Y)) × (literals_in X ≡ literals_in (one_less C Y)) = same-sizes X (one_less C Y) (alike-uncons C X (one_less C Y) (alike-trans (C ∷ X) Y (C ∷ one_less C Y) s (one_less-alike C Y m))) in
    (omega (arith, z.0, i.0), omega (arith, z.1, i.1))
