-- The variables of a clause come to a queue, each once.
use Rattle.std.proofs.Common.{◌≡◌, ◌⊎◌, ℕ, true, List, [], ◌∷◌, ◌++◌, sym, ◌∙◌, ap, subst, inl, inr, append-nil, append_assoc}
use Rattle.q_logic.specs.Prelude.{Literal, Clause, Prefix, IsIn, positive, inner_existential}
use Rattle.q_logic.proofs.Common.{IsIn-append_left, IsIn-append, IsIn-append_right}
use Rattle.q_expand.specs.Dependents.{IsWidened, Lone}

pub lone-end : (ks : List Literal) (j : Literal) → (IsIn j ks → ⊥) → Lone ks → Lone (ks ++ j ∷ [])
lone-end [] j n l = ((λ m. m), tt)
lone-end (k ∷ ks) j n l = (
  (λ m. elim (IsIn-append k ks (j ∷ []) m) [ inl a ↦ l.0 a | inr a ↦ elim a [ inl e ↦ n (inl (sym e)) | inr b ↦ b ] ]),
  lone-end ks j (λ m. n (inr m)) l.1,
)

module _ (P : Prefix) (u : ℕ) where
  pub widened-begun : (old : List Literal) → IsWidened P u [] old old
  widened-begun old = record { added = []; is = sym (append-nil old); all_there = λ k i t. absurd i; from = λ k m. inl m; lone = λ l. l }

  pub widened-left : (C D : Clause) (j : Literal) (old new : List Literal) → ((k : Literal) → IsIn k D → IsIn k C ⊎ (k ≡ j)) → ((k : Literal) → IsIn k C → IsIn k D) → (inner_existential P u j.var ≡ true → IsIn (positive j.var) new) → IsWidened P u C old new → IsWidened P u D old new
  widened-left C D j old new f g h w = record {
    added = w.added;
    is = w.is;
    all_there = λ k i t. elim (f k i) [
      | inl a ↦ w.all_there k a t
      | inr a ↦ subst (λ (x : Literal). IsIn (positive x.var) new) (sym a) (h (subst (λ (x : Literal). inner_existential P u x.var ≡ true) a t))
    ];
    from = λ k m. elim (w.from k m) [ inl a ↦ inl a | inr a ↦ inr (a.0, g a.0 a.1, a.2, a.3) ];
    lone = w.lone;
  }

  pub widened-pushed : (C D : Clause) (j : Literal) (old new : List Literal) → ((k : Literal) → IsIn k D → IsIn k C ⊎ (k ≡ j)) → ((k : Literal) → IsIn k C → IsIn k D) → IsIn j D → inner_existential P u j.var ≡ true → (IsIn (positive j.var) new → ⊥) → IsWidened P u C old new → IsWidened P u D old (new ++ positive j.var ∷ [])
  widened-pushed C D j old new f g i t n w = record {
    added = w.added ++ positive j.var ∷ [];
    is = ap (λ (xs : List Literal). xs ++ positive j.var ∷ []) w.is ∙ append_assoc old w.added (positive j.var ∷ []);
    all_there = λ k m q. elim (f k m) [
      | inl a ↦ IsIn-append_left (positive k.var) new (positive j.var ∷ []) (w.all_there k a q)
      | inr a ↦ IsIn-append_right (positive k.var) new (positive j.var ∷ []) (inl (ap (λ (x : Literal). positive x.var) a))
    ];
    from = λ k m. elim (IsIn-append k new (positive j.var ∷ []) m) [
      | inl a ↦ elim (w.from k a) [ inl b ↦ inl b | inr b ↦ inr (b.0, g b.0 b.1, b.2, b.3) ]
      | inr a ↦ elim a [ inl e ↦ inr (j, i, t, e) | inr none ↦ absurd none ]
    ];
    lone = λ l. lone-end new (positive j.var) n (w.lone l);
  }
