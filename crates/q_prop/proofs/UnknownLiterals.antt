-- How many literals of a matrix are not known: the measure of the search.
use Rattle.std.proofs.Common.{◌⊎◌, ℕ, ◌+◌, ◌<◌, ◌≤◌, List, [], ◌∷◌, ◌++◌, Contains, sym, inl, inr, arith}
use Rattle.std.proofs.lemmas.List.Elements.{Contains-append_left, Contains-push}
use Rattle.q_logic.specs.Prelude.{Literal, Clause, Matrix}
use Rattle.q_logic.proofs.Common.{same_or_not}
use Rattle.q_prop.proofs.ListMembers.{Contains-here, Contains-there, Contains-nil, Contains-cons_cases, Contains-along}

Known-cases : (known : List Literal) (l : Literal) → Contains known l ⊎ (Contains known l → ⊥)
Known-cases [] l = inr (Contains-nil l)
Known-cases (k ∷ known) l =
    elim (same_or_not k l) [
      | inl e ↦ inl (Contains-along (k ∷ known) k l e (Contains-here k known))
      | inr n ↦ elim (Known-cases known l) [
        | inl h ↦ inl (Contains-there k known l h)
        | inr m ↦ inr (λ h. elim (Contains-cons_cases k known l h) [ inl e ↦ n e | inr t ↦ m t ])
      ]
    ]

-- 1 where the fact fails
weight : {A : Type 0} → A ⊎ (A → ⊥) → ℕ
weight (inl a) = 0
weight (inr n) = 1

weight-le : {A B : Type 0} (a : A ⊎ (A → ⊥)) (b : B ⊎ (B → ⊥)) → (A → B) → weight b ≤ weight a
unfolding weight
weight-le (inl a) (inl b) f = omega arith
weight-le (inl a) (inr n) f = absurd (n (f a))
weight-le (inr m) (inl b) f = omega arith
weight-le (inr m) (inr n) f = omega arith

weight-lt : {A B : Type 0} (a : A ⊎ (A → ⊥)) (b : B ⊎ (B → ⊥)) → (A → ⊥) → B → weight b < weight a
unfolding weight
weight-lt (inl a) b m h = absurd (m a)
weight-lt (inr m) (inl b) f h = omega arith
weight-lt (inr m) (inr n) f h = absurd (n h)

missing_in : List Literal → Clause → ℕ
missing_in known [] = 0
missing_in known (l ∷ c) = weight (Known-cases known l) + missing_in known c

-- how many literals of the clauses are not known
pub missing : List Literal → Matrix → ℕ
missing known [] = 0
missing known (c ∷ x) = missing_in known c + missing known x

module _ (known : List Literal) (m : Literal) where
  missing_in-le : (c : Clause) → missing_in (known ++ m ∷ []) c ≤ missing_in known c
  unfolding missing_in
  missing_in-le [] = omega arith
  missing_in-le (l ∷ c) =
      let h = weight-le (Known-cases known l) (Known-cases (known ++ m ∷ []) l) (Contains-append_left known (m ∷ []) l) in
      omega (arith, missing_in-le c)

  missing-le : (x : Matrix) → missing (known ++ m ∷ []) x ≤ missing known x
  unfolding missing
  missing-le [] = omega arith
  missing-le (c ∷ x) = omega (arith, missing_in-le c, missing-le x)

  missing_in-lt : (Contains known m → ⊥) → (c : Clause) → Contains c m → missing_in (known ++ m ∷ []) c < missing_in known c
  unfolding missing_in
  missing_in-lt new [] h = absurd (Contains-nil m h)
  missing_in-lt new (l ∷ c) h =
      elim (Contains-cons_cases l c m h) [
        | inl e ↦
            let w = weight-lt (Known-cases known l) (Known-cases (known ++ m ∷ []) l) (λ k. new (Contains-along known l m e k)) (Contains-along (known ++ m ∷ []) m l (sym e) (Contains-push known m)) in
            omega (arith, w, missing_in-le c)
        | inr t ↦
            let w = weight-le (Known-cases known l) (Known-cases (known ++ m ∷ []) l) (Contains-append_left known (m ∷ []) l) in
            omega (arith, w, missing_in-lt new c t)
      ]

  -- a new literal of a clause makes fewer missing
  pub missing-lt : (Contains known m → ⊥) → (c : Clause) → Contains c m → (x : Matrix) → Contains x c → missing (known ++ m ∷ []) x < missing known x
  unfolding missing
  missing-lt new c h [] k = absurd (Contains-nil c k)
  missing-lt new c h (d ∷ x) k =
      elim (Contains-cons_cases d x c k) [
        | inl e ↦ omega (arith, rw (← e) at (missing_in-lt new c h), missing-le x)
        | inr t ↦ omega (arith, missing_in-le d, missing-lt new c h x t)
      ]
