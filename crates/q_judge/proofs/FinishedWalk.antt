-- A walk that ends tells which literals may go.
use Rattle.std.proofs.Common.{◌≡◌, ℕ, zero, suc, ◌+◌, ◌<◌, ◌≤◌, Bool, true, false, List, [], ◌∷◌, ◌++◌, Contains, slice_get, Some, length, refl, sym, ◌∙◌, ap, subst, inl, inr, arith, true≢false}
use Rattle.std.proofs.lemmas.Option.{same_Some, slice_get_within}
use Rattle.q_logic.specs.Prelude.{Literal, negation, Clause, Matrix, Prefix, IsIn, is_existential, is_universal, outer_or_same, Reached, Reducible}
use Rattle.q_logic.proofs.Common.{before_or_at}
use Rattle.q_prop.proofs.SlotLemmas.{slice_get-Contains, Contains-slice_get}
use Rattle.q_judge.specs.Walks.{is_inner, IsWidened, IsWorkedOff, IsVisited}
use Rattle.q_judge.proofs.ReachWalks.{Contains-grown, settled-more}

module _ (P : Prefix) (X : Matrix) (C : Clause) (u : Literal) where
  -- an inner literal of a clause that is reached
  abbrev pub IsLinked : Literal → Type 0
  IsLinked k = (D : Clause) × Reached P X C u D × IsIn k D × (is_inner P u k ≡ true)

  -- the literals before the head were visited
  pub record IsWalk (head : ℕ) (known : List Literal) : Type 0 where
    pub begun : (k : Literal) → IsIn k C → is_inner P u k ≡ true → Contains known k
    pub linked : (k : Literal) → Contains known k → IsLinked k
    pub visited : (j : ℕ) (k : Literal) → j < head → slice_get known j ≡ Some k → (E : Clause) → IsIn E X → IsIn (negation k) E → IsWorkedOff P u known E

  pub walk-begun : (known : List Literal) → IsWidened P u C [] known → IsWalk 0 known
  walk-begun known w = record {
    begun = w.all_there;
    linked = λ k m. elim (w.no_other k m) [ inl a ↦ let h = a.1 in absurd (omega arith) | inr a ↦ (C, Reached.first, a.0, a.1) ];
    visited = λ j k l e. absurd (omega arith);
  }

  inner-parts : (k : Literal) → is_inner P u k ≡ true → (is_existential P k.var ≡ true) × (outer_or_same P k.var u.var ≡ false)
  inner-parts k e = go (is_existential P k.var) refl (outer_or_same P k.var u.var) refl
    where
      go : (a : Bool) → is_existential P k.var ≡ a → (b : Bool) → outer_or_same P k.var u.var ≡ b → (a ≡ true) × (b ≡ false)
      go true p false q = (refl, refl)
      go true p true q = let z : false ≡ true = rw (p, q) at e in absurd (true≢false (sym z))
      go false p b q = let z : false ≡ true = rw (p) at e in absurd (true≢false (sym z))

  parts-inner : (k : Literal) → is_existential P k.var ≡ true → outer_or_same P k.var u.var ≡ false → is_inner P u k ≡ true
  parts-inner k p q = rw (p, q) refl

  next-reached : (k : Literal) → IsLinked k → (E : Clause) → IsIn E X → IsIn (negation k) E → (IsIn u E → ⊥) → Reached P X C u E
  next-reached k (D, r, m, t) E d n h = let p = inner-parts k t in Reached.next {D = D} E k m n p.0 p.1 d h r

  in-linked : (old : List Literal) (k : Literal) (head : ℕ) → IsWalk head old → Contains old k → IsLinked k
  in-linked old k head w m = w.linked k m

  pub walk-more : (head : ℕ) (k : Literal) (old new : List Literal) → IsWalk head old → slice_get old head ≡ Some k → IsVisited P X u k old new true → IsWalk (head + 1) new
  walk-more head k old new w e v = record {
    begun = λ j m t. Contains-grown old new v.0.added j v.0.is (w.begun j m t);
    linked = λ j m. elim (v.0.from j m) [
      | inl a ↦ w.linked j a
      | inr a ↦ (a.0, next-reached k (w.linked k (Contains-slice_get old head k e)) a.0 a.1.0 a.1.1 a.2, a.3, a.4)
    ];
    visited = λ j i l f E d m. elim (before_or_at j head l) [
      | inl z ↦
          let o = slice_get-Contains-at old new v.0.added j i v.0.is (let y = slice_get_within old head k e in omega arith) f in
          settled-more P u old new v.0.added E v.0.is (w.visited j i z o E d m)
      | inr z ↦
          let o = slice_get-Contains-at old new v.0.added j i v.0.is (let y = slice_get_within old head k e in omega arith) f in
          let q : i ≡ k = same_Some i k (sym o ∙ ap (slice_get old) z ∙ e) in
          v.1 E d (subst (λ (x : Literal). IsIn (negation x) E) q m)
    ];
  }
    where
      slice_get-Contains-at : (old new added : List Literal) (j : ℕ) (i : Literal) → new ≡ old ++ added → j < length old → slice_get new j ≡ Some i → slice_get old j ≡ Some i
      slice_get-Contains-at old new added j i p l f = before old added j i l (subst (λ (xs : List Literal). slice_get xs j ≡ Some i) p f)
        where
          before : (xs ys : List Literal) (j : ℕ) (i : Literal) → j < length xs → slice_get (xs ++ ys) j ≡ Some i → slice_get xs j ≡ Some i
          before [] ys j i l f = absurd (omega arith)
          before (x ∷ xs) ys zero i l f = f
          before (x ∷ xs) ys (suc j) i l f = before xs ys j i (omega arith) f

  pub walk-refuted : (head : ℕ) (k : Literal) (old new : List Literal) → IsWalk head old → slice_get old head ≡ Some k → IsVisited P X u k old new false → Reducible P X C u → ⊥
  walk-refuted head k old new w e v r = r.no_negation v.0 (next-reached k (w.linked k (Contains-slice_get old head k e)) v.0 v.1 v.2 v.3) v.4

  -- what every reached clause keeps, once all literals were visited
  kept : (head : ℕ) (known : List Literal) → IsWalk head known → length known ≤ head → (IsIn (negation u) C → ⊥) → (D : Clause) → Reached P X C u D → (IsIn (negation u) D → ⊥) × ((k : Literal) → IsIn k D → is_inner P u k ≡ true → Contains known k)
  kept head known w past n D Reached.first = (n, w.begun)
  kept head known w past n D (Reached.next {D = B} E k a b p q d h r) =
      let i = kept head known w past n B r in
      let m = i.1 k a (parts-inner k p q) in
      let j = slice_get-Contains known k m in
      elim (w.visited j.0 k (let z = slice_get_within known j.0 k j.1 in omega arith) j.1 E d b) [
        | inl x ↦ absurd (h x)
        | inr x ↦ x
      ]

  pub walk-ended : (head : ℕ) (known : List Literal) → IsWalk head known → length known ≤ head → is_universal P u.var ≡ true → IsIn u C → (IsIn (negation u) C → ⊥) → Reducible P X C u
  walk-ended head known w past t m n = record { universal_literal = t; in_clause = m; no_negation = λ D r. (kept head known w past n D r).0 }
