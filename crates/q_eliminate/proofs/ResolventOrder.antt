-- The resolvents do not depend on the order of the clauses.
use Rattle.std.proofs.Common.{◌≡◌, ◌+◌, ◌++◌, Bool, true, false, cond, [], ◌∷◌, refl, sym, ap, ◌∙◌, subst}
use Rattle.q_logic.specs.Prelude.{Literal, Clause, Matrix, is_tautology, put_unless_tautology, resolvent, resolve_one, resolve_all}
use Rattle.q_logic.proofs.Common.{SameClauses, alike-refl, alike-trans, alike-append, flat, flat-same}

flat-each : (f g : Clause → Matrix) (X : Matrix) → ((C : Clause) → SameClauses (f C) (g C)) → SameClauses (flat f X) (flat g X)
flat-each f g [] h = alike-refl []
flat-each f g (C ∷ X) h = alike-append (f C) (g C) (flat f X) (flat g X) (h C) (flat-each f g X h)

pub put-apart : (U : Clause) (X : Matrix) → put_unless_tautology U X ≡ put_unless_tautology U [] ++ X
put-apart U X = go (is_tautology U)
  where
    go : (b : Bool) → cond b X (U ∷ X) ≡ cond b [] (U ∷ []) ++ X
    go true = refl
    go false = refl

one-flat : (l : Literal) (C : Clause) (Y : Matrix) → resolve_one l C Y ≡ flat (λ D. put_unless_tautology (resolvent l C D) []) Y
one-flat l C [] = refl
one-flat l C (D ∷ Y) = put-apart (resolvent l C D) (resolve_one l C Y) ∙ ap (λ (Z : Matrix). put_unless_tautology (resolvent l C D) [] ++ Z) (one-flat l C Y)

all-flat : (l : Literal) (X Y : Matrix) → resolve_all l X Y ≡ flat (λ C. resolve_one l C Y) X
all-flat l [] Y = refl
all-flat l (C ∷ X) Y = ap (λ (Z : Matrix). resolve_one l C Y ++ Z) (all-flat l X Y)

one-same : (l : Literal) (C : Clause) (Y Z : Matrix) → SameClauses Y Z → SameClauses (resolve_one l C Y) (resolve_one l C Z)
one-same l C Y Z s = subst (λ (W : Matrix). SameClauses W (resolve_one l C Z)) (sym (one-flat l C Y)) (subst (λ (W : Matrix). SameClauses (flat (λ D. put_unless_tautology (resolvent l C D) []) Y) W) (sym (one-flat l C Z))
    (flat-same (λ D. put_unless_tautology (resolvent l C D) []) Y Z s))

pub resolve-same : (l : Literal) (X X' Y Y' : Matrix) → SameClauses X X' → SameClauses Y Y' → SameClauses (resolve_all l X Y) (resolve_all l X' Y')
resolve-same l X X' Y Y' s t = subst (λ (W : Matrix). SameClauses W (resolve_all l X' Y')) (sym (all-flat l X Y)) (subst (λ (W : Matrix). SameClauses (flat (λ C. resolve_one l C Y) X) W) (sym (all-flat l X' Y'))
    (alike-trans (flat (λ C. resolve_one l C Y) X) (flat (λ C. resolve_one l C Y) X') (flat (λ C. resolve_one l C Y') X') (flat-same (λ C. resolve_one l C Y) X X' s) (flat-each (λ C. resolve_one l C Y) (λ C. resolve_one l C Y') X' (λ C. one-same l C Y Y' t))))
