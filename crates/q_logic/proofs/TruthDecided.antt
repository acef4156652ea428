-- The slow program decides truth.
use Rattle.std.proofs.Common.{◌≡◌, Bool, true, false, ◌&&◌, ◌||◌, [], ◌∷◌, ◌⊎◌, inl, inr, arith, refl, sym, subst}
use Rattle.q_logic.specs.declared.formulas.Quant.{Quant}
use Rattle.q_logic.specs.declared.formulas.Quant.TheVariants.{Exists, Forall}
use Rattle.q_logic.specs.Prelude.{Prefix, Clause, Matrix}
use Rattle.q_logic.specs.Truth.{Assignment, LiteralTrue, ClauseTrue, MatrixTrue, HoldsUnder, by_quant, with_value, literal_true, clause_true, matrix_true, one_or_both, is_true_under}
use Rattle.q_logic.proofs.Booleans.{both-left, both-right}

pub clause_true-sound : (A : Assignment) (C : Clause) → clause_true A C ≡ true → ClauseTrue A C
clause_true-sound A [] h = grind arith
clause_true-sound A (k ∷ C) h = go (literal_true A k) refl h (clause_true-sound A C)
  where
    go : (b : Bool) → literal_true A k ≡ b → b || clause_true A C ≡ true →
        (clause_true A C ≡ true → ClauseTrue A C) → ClauseTrue A (k ∷ C)
    go true e h ih = (k, inl refl, e)
    go false e h ih = let t : ClauseTrue A C = ih h in (t.0, inr t.1, t.2)

pub clause_true-complete : (A : Assignment) (C : Clause) → ClauseTrue A C → clause_true A C ≡ true
clause_true-complete A [] t = elim t.1 [ ]
clause_true-complete A (k ∷ C) (j, inl e, t) =
    let z : literal_true A k ≡ true = subst (LiteralTrue A) e t in grind arith
clause_true-complete A (k ∷ C) (j, inr m, t) = go (literal_true A k) (clause_true-complete A C (j, m, t))
  where
    go : (b : Bool) → clause_true A C ≡ true → b || clause_true A C ≡ true
    go true h = refl
    go false h = h

both : (a b : Bool) → a ≡ true → b ≡ true → a && b ≡ true
both a b g h = grind arith

pub matrix_true-sound : (A : Assignment) (X : Matrix) → matrix_true A X ≡ true → MatrixTrue A X
matrix_true-sound A [] h D m = elim m [ ]
matrix_true-sound A (C ∷ X) h D (inl e) =
    subst (ClauseTrue A) (sym e) (clause_true-sound A C (both-left (clause_true A C) (matrix_true A X) h))
matrix_true-sound A (C ∷ X) h D (inr m) =
    matrix_true-sound A X (both-right (clause_true A C) (matrix_true A X) h) D m

pub matrix_true-complete : (A : Assignment) (X : Matrix) → MatrixTrue A X → matrix_true A X ≡ true
matrix_true-complete A [] t = refl
matrix_true-complete A (C ∷ X) t =
    both (clause_true A C) (matrix_true A X) (clause_true-complete A C (t C (inl refl)))
    (matrix_true-complete A X (λ D m. t D (inr m)))

one_or_both-sound : (q : Quant) (a b : Bool) (S T : Type 0) → (a ≡ true → S) → (b ≡ true → T) →
    one_or_both q a b ≡ true → by_quant q S T
one_or_both-sound Exists true b S T f g h = inl (f refl)
one_or_both-sound Exists false b S T f g h = inr (g h)
one_or_both-sound Forall true b S T f g h = (f refl, g h)
one_or_both-sound Forall false b S T f g h = grind arith

one_or_both-complete : (q : Quant) (a b : Bool) (S T : Type 0) → (S → a ≡ true) → (T → b ≡ true) →
    by_quant q S T → one_or_both q a b ≡ true
one_or_both-complete Exists a b S T f g (inl s) = let z : a ≡ true = f s in grind arith
one_or_both-complete Exists a b S T f g (inr t) = let z : b ≡ true = g t in or_true a b z
  where
    or_true : (a b : Bool) → b ≡ true → a || b ≡ true
    or_true true b h = refl
    or_true false b h = h
one_or_both-complete Forall a b S T f g (s, t) = both a b (f s) (g t)

pub is_true_under-sound : (P : Prefix) (X : Matrix) (A : Assignment) → is_true_under P X A ≡ true →
    HoldsUnder P X A
is_true_under-sound [] X A h = matrix_true-sound A X h
is_true_under-sound (b ∷ P) X A h =
    one_or_both-sound b.quant (is_true_under P X (with_value A b.var false))
    (is_true_under P X (with_value A b.var true)) (HoldsUnder P X (with_value A b.var false))
    (HoldsUnder P X (with_value A b.var true))
    (is_true_under-sound P X (with_value A b.var false))
    (is_true_under-sound P X (with_value A b.var true)) h

pub is_true_under-complete : (P : Prefix) (X : Matrix) (A : Assignment) → HoldsUnder P X A →
    is_true_under P X A ≡ true
is_true_under-complete [] X A h = matrix_true-complete A X h
is_true_under-complete (b ∷ P) X A h =
    one_or_both-complete b.quant (is_true_under P X (with_value A b.var false))
    (is_true_under P X (with_value A b.var true)) (HoldsUnder P X (with_value A b.var false))
    (HoldsUnder P X (with_value A b.var true))
    (is_true_under-complete P X (with_value A b.var false))
    (is_true_under-complete P X (with_value A b.var true)) h

-- Truth is decided.
pub true_decided : (P : Prefix) (X : Matrix) (A : Assignment) → HoldsUnder P X A ⊎ (HoldsUnder P X A → ⊥)
true_decided P X A = go (is_true_under P X A) refl
  where
    go : (b : Bool) → is_true_under P X A ≡ b → HoldsUnder P X A ⊎ (HoldsUnder P X A → ⊥)
    go true e = inl (is_true_under-sound P X A e)
    go false e =
        inr (λ h. let z : is_true_under P X A ≡ true = is_true_under-complete P X A h in grind arith)
