-- A walk that ends tells which literals may go.
use Rattle.std.proofs.Common.{◌≡◌, ◌⊎◌, ℕ, zero, suc, ◌+◌, ◌<◌, ◌≤◌, Bool, true, false, List, [], ◌∷◌, ◌++◌, slice_get, Some, length, sym, ◌∙◌, ap, subst, inl, inr, arith}
use Rattle.std.proofs.lemmas.Option.{same_Some}
use Rattle.q_logic.specs.Prelude.{Literal, negation, Clause, Matrix, Prefix, IsIn, is_universal, inner_existential, Reached, Reducible}
use Rattle.q_logic.proofs.ClosureSearch.{closed-reducible, Reaching, hit-reached, hit-not_reducible}
use Rattle.q_logic.proofs.Common.{before_or_at, slice_get-IsIn, IsIn-slice_get, slice_get-before}
use Rattle.q_rule.proofs.GrownMembers.{IsIn-grown}
use Rattle.q_reduce.specs.Walks.{IsWidened, IsWorkedOff, IsVisited}
use Rattle.q_reduce.proofs.ReachWalks.{worked_off-more}

module _ (P : Prefix) (X : Matrix) (C : Clause) (u : Literal) where
  -- the literals before the head were visited
  pub record IsWalk (head : ℕ) (known : List Literal) : Type 0 where
    pub within : head ≤ length known
    pub begun : (k : Literal) → IsIn k C → inner_existential P u.var k.var ≡ true → IsIn k known
    pub linked : (k : Literal) → IsIn k known → Reaching P X C u k
    pub visited : (j : ℕ) (k : Literal) → j < head → slice_get known j ≡ Some k → (E : Clause) → IsIn E X → IsIn (negation k) E → IsWorkedOff P u known E

  pub walk-begun : (known : List Literal) → IsWidened P u C [] known → IsWalk 0 known
  walk-begun known w = record {
    within = omega arith;
    begun = w.all_there;
    linked = λ k m. elim (w.no_other k m) [ inl a ↦ absurd a | inr a ↦ (C, Reached.first, a.0, a.1) ];
    visited = λ j k l e. absurd (omega arith);
  }

  pub walk-more : (head : ℕ) (k : Literal) (old new : List Literal) → IsWalk head old → head < length old → slice_get old head ≡ Some k → IsVisited P X u k old new true → IsWalk (head + 1) new
  walk-more head k old new w room e v = record {
    within = longer;
    begun = λ j m t. IsIn-grown old new v.0.added j v.0.is (w.begun j m t);
    linked = λ j m. elim (v.0.from j m) [
      | inl a ↦ w.linked j a
      | inr a ↦ (a.0, hit-reached P X C u a.0 k (w.linked k (slice_get-IsIn old head k e)) a.1.0 a.2 a.1.1, a.3, a.4)
    ];
    visited = λ j i l f E d m. elim (before_or_at j head l) [
      | inl b ↦ worked_off-more P u old new v.0.added E v.0.is (w.visited j i b (was j i (omega arith) f) E d m)
      | inr b ↦ v.1 E d (subst (λ (x : Literal). IsIn (negation x) E) (here j i b f) m)
    ];
  }
    where
      longer : head + 1 ≤ length new
      longer = let n = ap length v.0.is in let m = Rattle.std.proofs.Common.length-append old v.0.added in omega arith

      was : (j : ℕ) (i : Literal) → j < length old → slice_get new j ≡ Some i → slice_get old j ≡ Some i
      was j i l f = slice_get-before old v.0.added j i l (subst (λ (xs : List Literal). slice_get xs j ≡ Some i) v.0.is f)

      here : (j : ℕ) (i : Literal) → j ≡ head → slice_get new j ≡ Some i → i ≡ k
      here j i b f = same_Some i k (sym (was j i (omega arith) f) ∙ (ap (slice_get old) b ∙ e))

  pub walk-refuted : (head : ℕ) (k : Literal) (old new : List Literal) → IsWalk head old → slice_get old head ≡ Some k → IsVisited P X u k old new false → Reducible P X C u → ⊥
  walk-refuted head k old new w e v = hit-not_reducible P X C u v.0 k (w.linked k (slice_get-IsIn old head k e)) v.1 v.3 v.2 v.4

  -- once all literals were visited, they are closed
  pub walk-ended : (head : ℕ) (known : List Literal) → IsWalk head known → length known ≤ head → is_universal P u.var ≡ true → IsIn u C → (IsIn (negation u) C → ⊥) → Reducible P X C u
  walk-ended head known w past t m n = closed-reducible P X C u known t m n
      (record { of_first = w.begun; of_hit = λ E d f k i h j o q. elim (worked_off k i E d h) [ inl a ↦ absurd (f a) | inr a ↦ a.1 j o q ] })
      (record { none = λ E d f k i h o. elim (worked_off k i E d h) [ inl a ↦ f a | inr a ↦ a.0 o ] })
    where
      worked_off : (k : Literal) → IsIn k known → (E : Clause) → IsIn E X → IsIn (negation k) E → IsWorkedOff P u known E
      worked_off k i E d h = let j = IsIn-slice_get known k i in w.visited j.0 k (let z = j.1 in omega arith) j.2 E d h
