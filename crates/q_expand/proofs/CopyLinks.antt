-- The two steps by which a copy and its original are linked, or no longer, under the names that the code has for their
-- literals.
use Rattle.std.proofs.Common.{◌≡◌, ◌∙◌, ℕ, List, [], ◌∷◌, true, false, sym, ap, subst}
use Rattle.q_logic.specs.Prelude.{Literal, negation, ProofStep}
use Rattle.q_kernel.specs.Prelude.{Seen}
use Rattle.q_expand.specs.Tracks.{CanTake, HasTaken}
use Rattle.q_expand.specs.Steps.{of_sign}
use Rattle.q_expand.proofs.StepQueue.{took-through, can-rest, can-first}

-- the step of the copy y and the original x, and that of their negations
abbrev one : (Literal → Literal → ProofStep) → ℕ → ℕ → List ProofStep
one f x y = f (of_sign y false) (of_sign x true) ∷ []

abbrev two : (Literal → Literal → ProofStep) → ℕ → ℕ → List ProofStep
two f x y = f (of_sign y true) (of_sign x false) ∷ []

module _ (f : Literal → Literal → ProofStep) (k m : Seen) (x y : ℕ) (a b : Literal) (d : a ≡ of_sign y false) (e : b ≡ of_sign x true) where
  same : f a b ∷ [] ≡ one f x y
  same = λ i. f (d i) (e i) ∷ []

  pub first-can : CanTake k (f (of_sign y false) (of_sign x true) ∷ f (of_sign y true) (of_sign x false) ∷ []) → CanTake k (f a b ∷ [])
  first-can h = subst (CanTake k) (sym same) (can-first k (one f x y) (two f x y) h)

  module _ (c n : Literal) (g : c ≡ negation a) (j : n ≡ negation b) (t : HasTaken k m (f a b ∷ [])) where
    turned : f c n ∷ [] ≡ two f x y
    turned = λ i. f ((g ∙ ap negation d) i) ((j ∙ ap negation e) i) ∷ []

    pub second-can : CanTake k (f (of_sign y false) (of_sign x true) ∷ f (of_sign y true) (of_sign x false) ∷ []) → CanTake m (f c n ∷ [])
    second-can h = subst (CanTake m) (sym turned) (can-rest k m (one f x y) (two f x y) (subst (HasTaken k m) same t) h)

    pub both-taken : (o : Seen) → HasTaken m o (f c n ∷ []) → HasTaken k o (f (of_sign y false) (of_sign x true) ∷ f (of_sign y true) (of_sign x false) ∷ [])
    both-taken o h = took-through k m o (one f x y) (two f x y) (subst (HasTaken k m) same t) (subst (HasTaken m o) turned h)
