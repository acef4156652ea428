-- What is made clause by clause does not depend on the order of the clauses.
use Rattle.std.proofs.Common.{◌≡◌, ◌⊎◌, ◌≤◌, ℕ, Bool, true, false, cond, [], ◌∷◌, ◌++◌, inl, inr, arith, refl, sym, subst, ◌∙◌, append_assoc, true≢false}
use Rattle.q_logic.specs.Prelude.{Clause, Matrix, IsIn, copies, clause_eq, one_less}
use Rattle.q_logic.proofs.Runs.{clause_eq-sound, clause_eq-itself, IsIn-copies}
use Rattle.q_logic.proofs.JustifiedRuns.{SameClauses, IsIn-alike, alike-refl, alike-sym, alike-trans, alike-append, alike-append_swap, alike-uncons, one_less-alike}

-- all that the clauses give, one after the other
abbrev pub flat : (Clause → Matrix) → Matrix → Matrix
flat f [] = []
flat f (C ∷ X) = f C ++ flat f X

pub alike-swap_front : (X Y Z : Matrix) → SameClauses (X ++ (Y ++ Z)) (Y ++ (X ++ Z))
alike-swap_front X Y Z = subst (λ (W : Matrix). SameClauses W (Y ++ (X ++ Z))) (append_assoc X Y Z)
    (subst (λ (W : Matrix). SameClauses ((X ++ Y) ++ Z) W) (append_assoc Y X Z) (alike-append (X ++ Y) (Y ++ X) Z Z (alike-append_swap X Y) (alike-refl Z)))

pub flat-first : (f : Clause → Matrix) (C : Clause) (X : Matrix) → IsIn C X → SameClauses (flat f X) (f C ++ flat f (one_less C X))
flat-first f C [] m = absurd m
flat-first f C (D ∷ X) m = go (clause_eq D C) refl m (flat-first f C X)
  where
    go : (b : Bool) → clause_eq D C ≡ b → (C ≡ D) ⊎ IsIn C X → (IsIn C X → SameClauses (flat f X) (f C ++ flat f (one_less C X))) → SameClauses (f D ++ flat f X) (f C ++ flat f (cond b X (D ∷ one_less C X)))
    go true e n ih = subst (λ (E : Clause). SameClauses (f D ++ flat f X) (f E ++ flat f X)) (clause_eq-sound D C e) (alike-refl (f D ++ flat f X))
    go false e (inl q) ih = let z : clause_eq D C ≡ true = subst (λ (E : Clause). clause_eq E C ≡ true) q (clause_eq-itself C) in absurd (true≢false (sym z ∙ e))
    go false e (inr n) ih = alike-trans (f D ++ flat f X) (f D ++ (f C ++ flat f (one_less C X))) (f C ++ (f D ++ flat f (one_less C X)))
        (alike-append (f D) (f D) (flat f X) (f C ++ flat f (one_less C X)) (alike-refl (f D)) (ih n)) (alike-swap_front (f D) (f C) (flat f (one_less C X)))

pub flat-same : (f : Clause → Matrix) (X Y : Matrix) → SameClauses X Y → SameClauses (flat f X) (flat f Y)
flat-same f [] [] s = alike-refl []
flat-same f [] (D ∷ Y) s = let z = IsIn-copies D (D ∷ Y) (inl refl) in let e = s D in absurd (none (copies D (D ∷ Y)) z e)
  where
    none : (n : ℕ) → 1 ≤ n → 0 ≡ n → ⊥
    none n z e = omega arith
flat-same f (C ∷ X) Y s =
    let m : IsIn C Y = IsIn-alike (C ∷ X) Y s C (inl refl) in
    let i : SameClauses (flat f X) (flat f (one_less C Y)) = flat-same f X (one_less C Y) (alike-uncons C X (one_less C Y) (alike-trans (C ∷ X) Y (C ∷ one_less C Y) s (one_less-alike C Y m))) in
    alike-trans (f C ++ flat f X) (f C ++ flat f (one_less C Y)) (flat f Y) (alike-append (f C) (f C) (flat f X) (flat f (one_less C Y)) (alike-refl (f C)) i)
    (alike-sym (flat f Y) (f C ++ flat f (one_less C Y)) (flat-first f C Y m))
