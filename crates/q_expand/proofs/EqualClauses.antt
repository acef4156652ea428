-- Equal clauses, literal by literal.
use Rattle.std.proofs.Common.{◌≡◌, ◌≤◌, ◌<◌, ◌+◌, ℕ, zero, suc, [], ◌∷◌, length, get_or, refl, sym, ◌∙◌, subst, inl, inr, arith}
use Rattle.q_logic.specs.Prelude.{Literal, Clause}
use Rattle.q_logic.proofs.Common.{before_or_at}
use Rattle.q_logic.proofs.LiteralNeighbours.{item-same}

-- the literals before a place are equal
pub record AreSame (C D : Clause) (i : ℕ) : Type 0 where
  pub same : (j : ℕ) (k : Literal) → j < i → k ≡ get_or C j k → k ≡ get_or D j k

pub same-begun : (C D : Clause) → AreSame C D 0
same-begun C D = record { same = λ j k h e. absurd (omega arith) }

pub same-more : (C D : Clause) (i : ℕ) (a b : Literal) → i < length C → a ≡ get_or C i a → b ≡ get_or D i b → a ≡ b → AreSame C D i → AreSame C D (i + 1)
same-more C D i a b w e f g h = record {
  same = λ j k l m. elim (before_or_at j i l) [
    | inl before ↦ h.same j k before m
    | inr is ↦
        let n : k ≡ get_or C i k = subst (λ (x : ℕ). k ≡ get_or C x k) is m in
        let q : k ≡ b = item-same C i k a w n e ∙ g in
        subst (λ (x : ℕ). k ≡ get_or D x k) (sym is) (subst (λ (x : Literal). x ≡ get_or D i x) (sym q) f)
  ];
}

tail-same : (x y : Literal) (C D : Clause) (i : ℕ) → AreSame (x ∷ C) (y ∷ D) (suc i) → AreSame C D i
tail-same x y C D i h = record { same = λ j k l e. h.same (suc j) k (omega arith) e }

pub same-all : (C D : Clause) (i : ℕ) → length C ≡ length D → length C ≤ i → AreSame C D i → C ≡ D
same-all [] [] i e h s = refl
same-all [] (y ∷ D) i e h s = absurd (omega arith)
same-all (x ∷ C) [] i e h s = absurd (omega arith)
same-all (x ∷ C) (y ∷ D) zero e h s = absurd (omega arith)
same-all (x ∷ C) (y ∷ D) (suc i) e h s =
    let f : x ≡ y = s.same 0 x (omega arith) refl in
    let g : C ≡ D = same-all C D i (omega arith) (omega arith) (tail-same x y C D i s) in
    λ i. f i ∷ g i

pub same-not : (C D : Clause) (i : ℕ) (a b : Literal) → i < length C → a ≡ get_or C i a → b ≡ get_or D i b → C ≡ D → a ≡ b
same-not C D i a b w e f q = item-same C i a b w e (subst (λ (x : Clause). b ≡ get_or x i b) (sym q) f)
