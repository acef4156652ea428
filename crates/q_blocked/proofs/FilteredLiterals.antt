-- The literals of a list that meet a condition, one after the other.
use Rattle.std.proofs.Common.{◌≡◌, ◌↔◌, ◌⊎◌, Bool, true, false, cond, List, [], ◌∷◌, ◌++◌, inl, inr, refl, sym, subst, true≢false}
use Rattle.q_logic.specs.Prelude.{Literal, IsIn}
use Rattle.q_logic.proofs.Common.{IsIn-append, IsIn-append_left, IsIn-append_right}

pub record IsSifted (T : Literal → Type 0) (source out : List Literal) : Type 0 where
  pub both : (k : Literal) → IsIn k out ↔ (IsIn k source × T k)

pub sifted-begun : (T : Literal → Type 0) → IsSifted T [] []
sifted-begun T = record { both = λ k. ((λ m. absurd m), λ m. absurd m.0) }

pub sifted-more : (T : Literal → Type 0) (C D out new : List Literal) (j : Literal) (b : Bool) → ((k : Literal) → IsIn k D → IsIn k C ⊎ (k ≡ j)) → ((k : Literal) → IsIn k C → IsIn k D) → IsIn j D → (b ≡ true) ↔ T j → new ≡ cond b (out ++ j ∷ []) out → IsSifted T C out → IsSifted T D new
sifted-more T C D out new j true f g i t e s = subst (λ (xs : List Literal). IsSifted T D xs) (sym e) (record {
  both = λ k. (
    (λ m. elim (IsIn-append k out (j ∷ []) m) [
      | inl a ↦ let r = (s.both k).0 a in (g k r.0, r.1)
      | inr a ↦ elim a [ inl q ↦ (subst (λ (x : Literal). IsIn x D) (sym q) i, subst T (sym q) (t.0 refl)) | inr none ↦ absurd none ]
    ]),
    λ m. elim (f k m.0) [
      | inl a ↦ IsIn-append_left k out (j ∷ []) ((s.both k).1 (a, m.1))
      | inr q ↦ IsIn-append_right k out (j ∷ []) (inl q)
    ],
  );
})
sifted-more T C D out new j false f g i t e s = subst (λ (xs : List Literal). IsSifted T D xs) (sym e) (record {
  both = λ k. (
    (λ m. let r = (s.both k).0 m in (g k r.0, r.1)),
    λ m. elim (f k m.0) [
      | inl a ↦ (s.both k).1 (a, m.1)
      | inr q ↦ absurd (true≢false (sym (t.1 (subst T q m.1))))
    ],
  );
})
