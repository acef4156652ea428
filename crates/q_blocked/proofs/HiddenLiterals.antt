-- Hidden literals of one clause.
use Rattle.std.proofs.Common.{◌≡◌, ◌≢◌, ◌⊎◌, [], ◌∷◌, ◌++◌, inl, inr, refl, sym, subst}
use Rattle.q_logic.specs.Prelude.{Literal, negation, Clause, Matrix, IsIn, IsSubset, IsTautology}
use Rattle.q_logic.specs.Covering.{Hidden}
use Rattle.q_logic.proofs.Common.{IsIn-append, IsIn-append_left, IsIn-append_right, negation-negation, same_or_not}
use Rattle.q_blocked.specs.Walks.{GivesNone, Gives}

-- by its only literal outside
pub gives-only : (S D : Clause) (k : Literal) → IsIn k D → ((j : Literal) → IsIn j D → j ≢ k → IsIn j S) → (IsIn (negation k) S → ⊥) → Gives S D (negation k)
gives-only S D k m h n = record {
  negated = subst (λ (x : Literal). IsIn x D) (sym (negation-negation k)) m;
  others_in = λ j i d. h j i (λ e. d (subst (λ (x : Literal). j ≡ x) (sym (negation-negation k)) e));
  is_new = n;
}

-- by its first one, where none is outside
pub gives-first : (S D : Clause) (k : Literal) → IsIn k D → IsSubset D S → (IsTautology S → ⊥) → Gives S D (negation k)
gives-first S D k m h n = gives-only S D k m (λ j i d. h j i) (λ i. n (k, h k m, i))

-- a literal outside, which is then the only one
only : (S D : Clause) (k new : Literal) → IsIn k D → (IsIn k S → ⊥) → ((j : Literal) → IsIn j D → j ≢ negation new → IsIn j S) → k ≡ negation new
only S D k new m n h = elim (same_or_not k (negation new)) [ inl e ↦ e | inr d ↦ absurd (n (h k m d)) ]

pub gives_none-another : (S D : Clause) (k : Literal) → IsIn k D → (IsIn k S → ⊥) → (((j : Literal) → IsIn j D → j ≢ k → IsIn j S) → ⊥) → GivesNone S D
gives_none-another S D k m n a new i h = let e = only S D k new m n h in absurd (a (λ j x d. h j x (λ q. d (subst (λ (y : Literal). j ≡ y) (sym e) q))))

pub gives_none-there : (S D : Clause) (k : Literal) → IsIn k D → (IsIn k S → ⊥) → IsIn (negation k) S → GivesNone S D
gives_none-there S D k m n t new i h =
    let e = only S D k new m n h in
    let r : IsIn (negation (negation new)) S = subst (λ (x : Literal). IsIn (negation x) S) e t in
    subst (λ (x : Literal). IsIn x S) (negation-negation new) r

-- a literal whose negation is in a set that holds no literal beside its negation
pub gives_none-opposed : (S D : Clause) (k : Literal) → IsIn k D → (IsTautology S → ⊥) → IsIn (negation k) S → GivesNone S D
gives_none-opposed S D k m t n = gives_none-there S D k m (λ i. t (k, i, n)) n

-- two literals outside
pub gives_none-two : (S D : Clause) (k j : Literal) → IsIn k D → (IsIn k S → ⊥) → IsIn j D → (IsIn j S → ⊥) → (j ≡ k → ⊥) → GivesNone S D
gives_none-two S D k j m n i o d = gives_none-another S D k m n (λ h. o (h j i d))

-- the set grows by it
pub hidden-growth : (X : Matrix) (S D : Clause) (new : Literal) → IsIn D X → Gives S D new → Hidden X S (S ++ new ∷ [])
hidden-growth X S D new m g = record {
  new = new;
  by = D;
  there = m;
  negated = g.negated;
  others_in = g.others_in;
  is_new = g.is_new;
  grown = λ k. (
    (λ i. elim (IsIn-append k S (new ∷ []) i) [ inl a ↦ inr a | inr a ↦ elim a [ inl e ↦ inl e | inr none ↦ absurd none ] ]),
    λ i. elim i [ inl e ↦ IsIn-append_right k S (new ∷ []) (inl e) | inr a ↦ IsIn-append_left k S (new ∷ []) a ],
  );
}

-- a literal of the clause other than one, or none
pub other_or : (D : Clause) (j : Literal) → ((k : Literal) × IsIn k D × (k ≢ j)) ⊎ ((k : Literal) → IsIn k D → k ≡ j)
other_or [] j = inr (λ k m. absurd m)
other_or (i ∷ D) j = elim (same_or_not i j) [
  | inr d ↦ inl (i, inl refl, d)
  | inl e ↦ elim (other_or D j) [
    | inl r ↦ inl (r.0, inr r.1, r.2)
    | inr f ↦ inr (λ k m. elim m [ inl q ↦ subst (λ (x : Literal). x ≡ j) (sym q) e | inr n ↦ f k n ])
  ]
]
