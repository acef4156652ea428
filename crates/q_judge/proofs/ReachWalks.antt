-- Walks, literal by literal and clause by clause.
use Rattle.std.proofs.Common.{◌≡◌, ◌⊎◌, ℕ, ◌+◌, ◌<◌, ◌≤◌, true, false, List, [], ◌∷◌, ◌++◌, Contains, slice_get, Some, length, sym, ◌∙◌, ap, subst, inl, inr, arith, append-nil, append_assoc}
use Rattle.std.proofs.lemmas.List.Elements.{Contains-append_left, Contains-push, Contains-push_cases}
use Rattle.std.proofs.lemmas.Option.{same_Some, slice_get_within}
use Rattle.q_logic.specs.Prelude.{Literal, negation, Clause, Prefix, IsIn, Slots}
use Rattle.q_logic.proofs.Common.{before_or_at}
use Rattle.q_prop.proofs.BucketLemmas.{same-clause}
use Rattle.q_prop.specs.Slots.{Holds, filled}
use Rattle.q_prop.proofs.SlotLemmas.{slice_get-Contains, Contains-slice_get}
use Rattle.q_judge.specs.Warrants.{AreSlotsOf}
use Rattle.q_judge.proofs.SlotCollections.{held-in, in-held}
use Rattle.q_judge.specs.Walks.{is_inner, IsWidened, IsWorkedOff, IsGrown, IsFollowed, IsVisited}

pub Contains-grown : (old new added : List Literal) (k : Literal) → new ≡ old ++ added → Contains old k → Contains new k
Contains-grown old new added k e m = rw e (Contains-append_left old added k m)

module _ (P : Prefix) (u : Literal) where
  pub widened-begun : (old : List Literal) → IsWidened P u [] old old
  widened-begun old = record { added = []; is = sym (append-nil old); all_there = λ k i t. absurd i; no_other = λ k m. inl m }

  -- one more literal, which is not inner, or known, or comes
  pub widened-left : (C D : Clause) (j : Literal) (old new : List Literal) → ((k : Literal) → IsIn k D → IsIn k C ⊎ (k ≡ j)) → ((k : Literal) → IsIn k C → IsIn k D) → (is_inner P u j ≡ true → Contains new j) → IsWidened P u C old new → IsWidened P u D old new
  widened-left C D j old new f g h w = record {
    added = w.added;
    is = w.is;
    all_there = λ k i t. elim (f k i) [
      | inl a ↦ w.all_there k a t
      | inr a ↦ subst (λ (x : Literal). Contains new x) (sym a) (h (subst (λ (x : Literal). is_inner P u x ≡ true) a t))
    ];
    no_other = λ k m. elim (w.no_other k m) [ inl a ↦ inl a | inr a ↦ inr (g k a.0, a.1) ];
  }

  pub widened-pushed : (C D : Clause) (j : Literal) (old new : List Literal) → ((k : Literal) → IsIn k D → IsIn k C ⊎ (k ≡ j)) → ((k : Literal) → IsIn k C → IsIn k D) → IsIn j D → is_inner P u j ≡ true → IsWidened P u C old new → IsWidened P u D old (new ++ j ∷ [])
  widened-pushed C D j old new f g i t w = record {
    added = w.added ++ j ∷ [];
    is = ap (λ (xs : List Literal). xs ++ j ∷ []) w.is ∙ append_assoc old w.added (j ∷ []);
    all_there = λ k m q. elim (f k m) [
      | inl a ↦ Contains-append_left new (j ∷ []) k (w.all_there k a q)
      | inr a ↦ subst (λ (x : Literal). Contains (new ++ j ∷ []) x) (sym a) (Contains-push new j)
    ];
    no_other = λ k m. elim (Contains-push_cases new j k m) [
      | inl a ↦ elim (w.no_other k a) [ inl b ↦ inl b | inr b ↦ inr (g k b.0, b.1) ]
      | inr a ↦ inr (subst (λ (x : Literal). IsIn x D) a i, subst (λ (x : Literal). is_inner P u x ≡ true) a t)
    ];
  }

  grown-same : (Q : Clause → Type 0) (old : List Literal) → IsGrown P u Q old old
  grown-same Q old = record { added = []; is = sym (append-nil old); from = λ k m. inl m }

  pub followed-none : (s : Slots) (n : ℕ) (old : List Literal) → ((E : Clause) → Holds s n E → ⊥) → IsFollowed P s u n old old true
  followed-none s n old h = (grown-same (Holds s n) old, λ E e. absurd (h E e))

  pub followed-held : (s : Slots) (n : ℕ) (C : Clause) (old : List Literal) → Holds s n C → IsIn u C → IsFollowed P s u n old old true
  followed-held s n C old h m = (grown-same (Holds s n) old, λ E e. inl (subst (λ (x : Clause). IsIn u x) (same-clause s n C E h e) m))

  pub followed-widened : (s : Slots) (n : ℕ) (C : Clause) (old new : List Literal) → Holds s n C → (IsIn u C → ⊥) → (IsIn (negation u) C → ⊥) → IsWidened P u C old new → IsFollowed P s u n old new true
  followed-widened s n C old new h a b w = (
    record { added = w.added; is = w.is; from = λ k m. elim (w.no_other k m) [ inl x ↦ inl x | inr x ↦ inr (C, h, a, x.0, x.1) ] },
    (λ E e. let q = same-clause s n C E h e in inr ((λ m. b (subst (λ (x : Clause). IsIn (negation u) x) (sym q) m)), (λ k m t. w.all_there k (subst (λ (x : Clause). IsIn k x) (sym q) m) t))),
  )

  pub settled-more : (old new added : List Literal) (E : Clause) → new ≡ old ++ added → IsWorkedOff P u old E → IsWorkedOff P u new E
  settled-more old new added E e (inl m) = inl m
  settled-more old new added E e (inr (n, h)) = inr (n, λ k m t. Contains-grown old new added k e (h k m t))

  pub grown-through : (Q R : Clause → Type 0) (old mid new : List Literal) → ((E : Clause) → R E → Q E) → IsGrown P u Q old mid → IsGrown P u R mid new → IsGrown P u Q old new
  grown-through Q R old mid new f g h = record {
    added = g.added ++ h.added;
    is = h.is ∙ ap (λ (xs : List Literal). xs ++ h.added) g.is ∙ append_assoc old g.added h.added;
    from = λ k m. elim (h.from k m) [ inl x ↦ g.from k x | inr x ↦ inr (x.0, f x.0 x.1, x.2, x.3, x.4) ];
  }

  -- the slots before the i-th were followed
  pub record IsFollowing (s : Slots) (slots : List ℕ) (i : ℕ) (old new : List Literal) : Type 0 where
    pub grown : IsGrown P u (λ E. (j : ℕ) × (n : ℕ) × (j < i) × (slice_get slots j ≡ Some n) × Holds s n E) old new
    pub settled : (j n : ℕ) (E : Clause) → j < i → slice_get slots j ≡ Some n → Holds s n E → IsWorkedOff P u new E

  pub following-begun : (s : Slots) (slots : List ℕ) (old : List Literal) → IsFollowing s slots 0 old old
  following-begun s slots old = record { grown = grown-same (λ E. (j : ℕ) × (n : ℕ) × (j < 0) × (slice_get slots j ≡ Some n) × Holds s n E) old; settled = λ j n E l e h. absurd (omega arith) }

  pub following-more : (s : Slots) (slots : List ℕ) (i n : ℕ) (old mid new : List Literal) → IsFollowing s slots i old mid → slice_get slots i ≡ Some n → IsFollowed P s u n mid new true → IsFollowing s slots (i + 1) old new
  following-more s slots i n old mid new f e h = record {
    grown = grown-through (λ E. (j : ℕ) × (k : ℕ) × (j < i + 1) × (slice_get slots j ≡ Some k) × Holds s k E) (Holds s n) old mid new (λ E g. (i, n, omega arith, e, g)) (record { added = f.grown.added; is = f.grown.is; from = λ k m. elim (f.grown.from k m) [ inl a ↦ inl a | inr a ↦ inr (a.0, (a.1.0, a.1.1, (let z : a.1.0 < i = a.1.2 in omega arith), a.1.3, a.1.4), a.2, a.3, a.4) ] }) h.0;
    settled = λ j k E l g o. elim (before_or_at j i l) [
      | inl z ↦ settled-more mid new h.0.added E h.0.is (f.settled j k E z g o)
      | inr z ↦ h.1 E (subst (λ (x : ℕ). Holds s x E) (same_Some k n (sym g ∙ ap (slice_get slots) z ∙ e)) o)
    ];
  }

  -- all slots with the negation of a literal were followed
  pub following-visited : (s : Slots) (k : Literal) (slots : List ℕ) (i : ℕ) (old new : List Literal) → AreSlotsOf s (negation k) slots → length slots ≤ i → IsFollowing s slots i old new → IsVisited P (filled s) u k old new true
  following-visited s k slots i old new h past f = (
    record {
      added = f.grown.added;
      is = f.grown.is;
      from = λ j m. elim (f.grown.from j m) [
        | inl a ↦ inl a
        | inr a ↦
            let n = a.1.1 in
            inr (a.0, (held-in s n a.0 a.1.4, h.no_other n a.0 (Contains-slice_get slots a.1.0 n a.1.3) a.1.4), a.2, a.3, a.4)
      ];
    },
    (λ E d m.
        let n = in-held s E d in
        let j = slice_get-Contains slots n.0 (h.all_there n.0 E n.1 m) in
        f.settled j.0 n.0 E (let z = slice_get_within slots j.0 n.0 j.1 in omega arith) j.1 n.1),
  )

  pub visited-not : (s : Slots) (k : Literal) (slots : List ℕ) (i n : ℕ) (old mid new : List Literal) → AreSlotsOf s (negation k) slots → slice_get slots i ≡ Some n → IsFollowed P s u n mid new false → IsVisited P (filled s) u k old new false
  visited-not s k slots i n old mid new h e f =
      (f.0, held-in s n f.0 f.1, h.no_other n f.0 (Contains-slice_get slots i n e) f.1, f.2, f.3)
