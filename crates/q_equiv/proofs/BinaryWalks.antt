-- Walks along clauses of two literals.
use Rattle.std.proofs.Common.{◌≡◌, ◌⊎◌, ℕ, Contains, ◌+◌, ◌<◌, ◌≤◌, List, [], ◌∷◌, ◌++◌, slice_get, length, Some, refl, sym, ◌∙◌, ap, subst, inl, inr, arith, append-nil, append_assoc}
use Rattle.q_logic.specs.Prelude.{Literal, negation, Clause, Matrix, IsIn, Slots, slot, live, Binary, Joined}
use Rattle.q_logic.proofs.Common.{live-slot, IsIn-append_left, IsIn-append, IsIn-append_right, before_or_at, slice_get-IsIn, IsIn-slice_get, slice_get-before}
use Rattle.q_logic.proofs.ClosureSearch.{joined-further}
use Rattle.q_logic.proofs.HintChains.{live-number}
use Rattle.q_kernel.proofs.DistinctMembers.{Contains-none, Contains-last}
use Rattle.q_equiv.specs.Walks.{level_of, NeverRise, IsSpread}
use Rattle.q_equiv.proofs.BinaryClauses.{binary-in, binary-own}

grown-in : (old new added : List Literal) (k : Literal) → new ≡ old ++ added → IsIn k old → IsIn k new
grown-in old new added k e m = subst (λ (xs : List Literal). IsIn k xs) (sym e) (IsIn-append_left k old added m)

-- One clause.
module _ (levels : List ℕ) where
  pub spread-none : (D : Clause) (x : Literal) (old : List Literal) → ((y : Literal) → Binary (D ∷ []) x y → ⊥) → IsSpread levels (D ∷ []) x old old
  spread-none D x old h = record { added = []; is = sym (append-nil old); all_there = λ y b e. absurd (h y b); no_other = λ y m. inl m }

  pub spread-there : (D : Clause) (x next : Literal) (old : List Literal) → ((y : Literal) → Binary (D ∷ []) x y → next ≡ y) → IsIn next old ⊎ (level_of levels next ≡ level_of levels x → ⊥) → IsSpread levels (D ∷ []) x old old
  spread-there D x next old h m = record {
    added = [];
    is = sym (append-nil old);
    all_there = λ y b e. elim m [
      | inl i ↦ subst (λ (k : Literal). IsIn k old) (h y b) i
      | inr n ↦ absurd (n (ap (level_of levels) (h y b) ∙ e))
    ];
    no_other = λ y i. inl i;
  }

  pub spread-pushed : (D : Clause) (x next : Literal) (old : List Literal) → ((y : Literal) → Binary (D ∷ []) x y → next ≡ y) → Binary (D ∷ []) x next → level_of levels next ≡ level_of levels x → IsSpread levels (D ∷ []) x old (old ++ next ∷ [])
  spread-pushed D x next old h b l = record {
    added = next ∷ [];
    is = refl;
    all_there = λ y c e. IsIn-append_right y old (next ∷ []) (inl (sym (h y c)));
    no_other = λ y m. elim (IsIn-append y old (next ∷ []) m) [
      | inl a ↦ inl a
      | inr a ↦ elim a [ inl e ↦ inr (subst (λ (k : Literal). Binary (D ∷ []) x k) (sym e) b, ap (level_of levels) e ∙ l) | inr z ↦ absurd z ]
    ];
  }

-- The clauses that a walk has passed.
pub record IsSpreading (levels : List ℕ) (N : Slots) (x : Literal) (ids : List ℕ) (old new : List Literal) : Type 0 where
  pub added : List Literal
  pub is : new ≡ old ++ added
  pub all_there : (d : ℕ) (D : Clause) (y : Literal) → Contains ids d → slot N d ≡ Some D → Binary (D ∷ []) x y → level_of levels y ≡ level_of levels x → IsIn y new
  pub no_other : (y : Literal) → IsIn y new → IsIn y old ⊎ (Binary (live N) x y × (level_of levels y ≡ level_of levels x))

module _ (levels : List ℕ) (N : Slots) (x : Literal) where
  pub spreading-begun : (old : List Literal) → IsSpreading levels N x [] old old
  spreading-begun old = record { added = []; is = sym (append-nil old); all_there = λ d D y h s b e. absurd (Contains-none d h); no_other = λ y m. inl m }

  pub spreading-more : (ids : List ℕ) (d : ℕ) (D : Clause) (old mid new : List Literal) → slot N d ≡ Some D → IsSpreading levels N x ids old mid → IsSpread levels (D ∷ []) x mid new → IsSpreading levels N x (ids ++ d ∷ []) old new
  spreading-more ids d D old mid new e f g = record {
    added = f.added ++ g.added;
    is = g.is ∙ ap (λ (xs : List Literal). xs ++ g.added) f.is ∙ append_assoc old f.added g.added;
    all_there = λ q E y m s b l. elim (Contains-last ids d q m) [
      | inl a ↦ grown-in mid new g.added y g.is (f.all_there q E y a s b l)
      | inr a ↦ g.all_there y (subst (λ (C : Clause). Binary (C ∷ []) x y) (one q E a s) b) l
    ];
    no_other = λ y m. elim (g.no_other y m) [
      | inl a ↦ f.no_other y a
      | inr b ↦ inr (binary-in (live N) D x y (live-slot N d D e) b.0, b.1)
    ];
  }
    where
      one : (q : ℕ) (E : Clause) → q ≡ d → slot N q ≡ Some E → E ≡ D
      one q E a s = let z : Some E ≡ Some D = sym s ∙ (ap (slot N) a ∙ e) in cc

  pub spreading-done : (ids : List ℕ) (old new : List Literal) → ((d : ℕ) → ((E : Clause) × (slot N d ≡ Some E) × IsIn (negation x) E) → Contains ids d) → IsSpreading levels N x ids old new → IsSpread levels (live N) x old new
  spreading-done ids old new has f = record {
    added = f.added;
    is = f.is;
    all_there = λ y b l. let d = live-number N b.clause b.there in f.all_there d.0 b.clause y (has d.0 (b.clause, d.1, b.first)) d.1 (binary-own (live N) x y b) l;
    no_other = f.no_other;
  }

-- A walk from p: the literals before the head were expanded.
pub record IsWalk (levels : List ℕ) (X : Matrix) (p : Literal) (head : ℕ) (known : List Literal) : Type 0 where
  pub begun : IsIn p known
  pub linked : (k : Literal) → IsIn k known → Joined X k p
  pub level : (k : Literal) → IsIn k known → level_of levels k ≡ level_of levels p
  pub expanded : (j : ℕ) (x y : Literal) → j < head → slice_get known j ≡ Some x → Binary X x y → level_of levels y ≡ level_of levels x → IsIn y known

-- Levels along a way.
pub joined-level : (levels : List ℕ) (X : Matrix) (q x : Literal) → NeverRise levels X → Joined X q x → level_of levels q ≤ level_of levels x
joined-level levels X q x f Joined.here = omega arith
joined-level levels X q x f (Joined.on {y = y} w h j) = let i = joined-level levels X q y f j in let e = f x y h in omega arith

module _ (levels : List ℕ) (X : Matrix) (p : Literal) where
  pub walk-begun : IsWalk levels X p 0 (p ∷ [])
  walk-begun = record {
    begun = inl refl;
    linked = λ k m. elim m [ inl e ↦ subst (λ (z : Literal). Joined X z p) (sym e) Joined.here | inr z ↦ absurd z ];
    level = λ k m. elim m [ inl e ↦ ap (level_of levels) e | inr z ↦ absurd z ];
    expanded = λ j x y l e b i. absurd (omega arith);
  }

  pub walk-more : (head : ℕ) (k : Literal) (old new : List Literal) → IsWalk levels X p head old → head < length old → slice_get old head ≡ Some k → IsSpread levels X k old new → IsWalk levels X p (head + 1) new
  walk-more head k old new w room e s = record {
    begun = grown-in old new s.added p s.is w.begun;
    linked = λ j m. elim (s.no_other j m) [
      | inl a ↦ w.linked j a
      | inr b ↦ joined-further X k j p (w.linked k (slice_get-IsIn old head k e)) b.0
    ];
    level = λ j m. elim (s.no_other j m) [
      | inl a ↦ w.level j a
      | inr b ↦ b.1 ∙ w.level k (slice_get-IsIn old head k e)
    ];
    expanded = λ j x y l f b i. elim (before_or_at j head l) [
      | inl a ↦ grown-in old new s.added y s.is (w.expanded j x y a (was j x (omega arith) f) b i)
      | inr a ↦
          let h = here j x a f in
          s.all_there y (subst (λ (z : Literal). Binary X z y) h b) (i ∙ ap (level_of levels) h)
    ];
  }
    where
      was : (j : ℕ) (i : Literal) → j < length old → slice_get new j ≡ Some i → slice_get old j ≡ Some i
      was j i l f = slice_get-before old s.added j i l (subst (λ (xs : List Literal). slice_get xs j ≡ Some i) s.is f)

      here : (j : ℕ) (i : Literal) → j ≡ head → slice_get new j ≡ Some i → i ≡ k
      here j i a f = let z : Some i ≡ Some k = sym (was j i (omega arith) f) ∙ (ap (slice_get old) a ∙ e) in cc

  -- once all literals were expanded, the list has all of its level that p is joined to
  pub walk-ended : (head : ℕ) (known : List Literal) (q : Literal) → NeverRise levels X → level_of levels q ≡ level_of levels p → IsWalk levels X p head known → length known ≤ head → Joined X q p → IsIn q known
  walk-ended head known q f same w past j = go p w.begun j
    where
      go : (x : Literal) → IsIn x known → Joined X q x → IsIn q known
      go x m Joined.here = m
      go x m (Joined.on {y = y} v h i) = go y (next m h i) i
        where
          next : IsIn x known → Binary X x y → Joined X q y → IsIn y known
          next m h i =
              let r = IsIn-slice_get known x m in
              let low = joined-level levels X q y f i in
              let high = f x y h in
              let at = w.level x m in
              w.expanded r.0 x y (let z = r.1 in omega arith) r.2 h (omega arith)
