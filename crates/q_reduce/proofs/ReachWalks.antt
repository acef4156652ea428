-- Walks, literal by literal and clause by clause.
use Rattle.std.proofs.Common.{◌≡◌, ◌⊎◌, ℕ, Bool, true, false, List, [], ◌∷◌, ◌++◌, Some, Contains, sym, ◌∙◌, ap, subst, inl, inr, append-nil, append_assoc}
use Rattle.q_logic.specs.Prelude.{Literal, negation, Clause, Prefix, IsIn, inner_existential, Slots, slot, live, others}
use Rattle.q_logic.proofs.Common.{others-slot, IsIn-append_left, IsIn-append, IsIn-append_right, others-live, live-slot}
use Rattle.q_logic.proofs.HintChains.{live-number}
use Rattle.q_kernel.proofs.DistinctMembers.{Contains-none, Contains-last}
use Rattle.q_rule.proofs.GrownMembers.{IsIn-grown}
use Rattle.q_rule.proofs.IdClauses.{slot-one}
use Rattle.q_reduce.specs.Walks.{IsWidened, IsWorkedOff, IsGrown, Stands, IsFollowed, IsVisited}

module _ (P : Prefix) (u : Literal) where
  pub widened-begun : (old : List Literal) → IsWidened P u [] old old
  widened-begun old = record { added = []; is = sym (append-nil old); all_there = λ k i t. absurd i; no_other = λ k m. inl m }

  -- slot-one more literal of the clause, which is not inner or there already
  pub widened-left : (C D : Clause) (j : Literal) (old new : List Literal) → ((k : Literal) → IsIn k D → IsIn k C ⊎ (k ≡ j)) → ((k : Literal) → IsIn k C → IsIn k D) → (inner_existential P u.var j.var ≡ true → IsIn j new) → IsWidened P u C old new → IsWidened P u D old new
  widened-left C D j old new f g h w = record {
    added = w.added;
    is = w.is;
    all_there = λ k i t. elim (f k i) [
      | inl a ↦ w.all_there k a t
      | inr a ↦ subst (λ (x : Literal). IsIn x new) (sym a) (h (subst (λ (x : Literal). inner_existential P u.var x.var ≡ true) a t))
    ];
    no_other = λ k m. elim (w.no_other k m) [ inl a ↦ inl a | inr a ↦ inr (g k a.0, a.1) ];
  }

  -- or it comes
  pub widened-pushed : (C D : Clause) (j : Literal) (old new : List Literal) → ((k : Literal) → IsIn k D → IsIn k C ⊎ (k ≡ j)) → ((k : Literal) → IsIn k C → IsIn k D) → IsIn j D → inner_existential P u.var j.var ≡ true → IsWidened P u C old new → IsWidened P u D old (new ++ j ∷ [])
  widened-pushed C D j old new f g i t w = record {
    added = w.added ++ j ∷ [];
    is = ap (λ (xs : List Literal). xs ++ j ∷ []) w.is ∙ append_assoc old w.added (j ∷ []);
    all_there = λ k m q. elim (f k m) [
      | inl a ↦ IsIn-append_left k new (j ∷ []) (w.all_there k a q)
      | inr a ↦ IsIn-append_right k new (j ∷ []) (inl a)
    ];
    no_other = λ k m. elim (IsIn-append k new (j ∷ []) m) [
      | inl a ↦ elim (w.no_other k a) [ inl b ↦ inl b | inr b ↦ inr (g k b.0, b.1) ]
      | inr a ↦ elim a [
        | inl e ↦ inr (subst (λ (x : Literal). IsIn x D) (sym e) i, subst (λ (x : Literal). inner_existential P u.var x.var ≡ true) (sym e) t)
        | inr none ↦ absurd none
      ]
    ];
  }

  pub grown-same : (Q : Clause → Type 0) (old : List Literal) → IsGrown P u Q old old
  grown-same Q old = record { added = []; is = sym (append-nil old); from = λ k m. inl m }

  pub followed-held : (N : Slots) (d : ℕ) (C : Clause) (old : List Literal) → slot N d ≡ Some C → IsIn u C → IsFollowed P N u d old old true
  followed-held N d C old h m = (grown-same (Stands N d) old, λ E b. inl (subst (λ (x : Clause). IsIn u x) (slot-one N d C E h b) m))

  pub grown-widened : (N : Slots) (d : ℕ) (C : Clause) (old new : List Literal) → slot N d ≡ Some C → (IsIn u C → ⊥) → IsWidened P u C old new → IsGrown P u (Stands N d) old new
  grown-widened N d C old new h a w = record { added = w.added; is = w.is; from = λ k m. elim (w.no_other k m) [ inl x ↦ inl x | inr x ↦ inr (C, h, a, x.0, x.1) ] }

  pub followed-widened : (N : Slots) (d : ℕ) (C : Clause) (old new : List Literal) → slot N d ≡ Some C → (IsIn u C → ⊥) → (IsIn (negation u) C → ⊥) → IsWidened P u C old new → IsFollowed P N u d old new true
  followed-widened N d C old new h a b w = (
    grown-widened N d C old new h a w,
    (λ E s. let q = slot-one N d C E h s in inr ((λ m. b (subst (λ (x : Clause). IsIn (negation u) x) (sym q) m)), (λ k m t. w.all_there k (subst (λ (x : Clause). IsIn k x) (sym q) m) t))),
  )

  pub worked_off-more : (old new added : List Literal) (E : Clause) → new ≡ old ++ added → IsWorkedOff P u old E → IsWorkedOff P u new E
  worked_off-more old new added E e (inl m) = inl m
  worked_off-more old new added E e (inr (n, h)) = inr (n, λ k m t. IsIn-grown old new added k e (h k m t))

  pub grown-through : (Q R : Clause → Type 0) (old mid new : List Literal) → ((E : Clause) → R E → Q E) → IsGrown P u Q old mid → IsGrown P u R mid new → IsGrown P u Q old new
  grown-through Q R old mid new f g h = record {
    added = g.added ++ h.added;
    is = h.is ∙ ap (λ (xs : List Literal). xs ++ h.added) g.is ∙ append_assoc old g.added h.added;
    from = λ k m. elim (h.from k m) [ inl x ↦ g.from k x | inr x ↦ inr (x.0, f x.0 x.1, x.2, x.3, x.4) ];
  }

  -- the clauses of ids that came were followed
  pub record IsFollowing (N : Slots) (Q : Clause → Type 0) (came : List ℕ) (old new : List Literal) : Type 0 where
    pub grown : IsGrown P u Q old new
    pub worked_off : (d : ℕ) (E : Clause) → Contains came d → Stands N d E → IsWorkedOff P u new E

  pub following-begun : (N : Slots) (Q : Clause → Type 0) (old : List Literal) → IsFollowing N Q [] old old
  following-begun N Q old = record { grown = grown-same Q old; worked_off = λ d E h b. absurd (Contains-none d h) }

  pub following-more : (N : Slots) (Q : Clause → Type 0) (came : List ℕ) (c : ℕ) (old mid new : List Literal) → ((E : Clause) → Stands N c E → Q E) → IsFollowing N Q came old mid → IsFollowed P N u c mid new true → IsFollowing N Q (came ++ c ∷ []) old new
  following-more N Q came c old mid new q f h = record {
    grown = grown-through Q (Stands N c) old mid new q f.grown h.0;
    worked_off = λ d E m b. elim (Contains-last came c d m) [
      | inl a ↦ worked_off-more mid new h.0.added E h.0.is (f.worked_off d E a b)
      | inr e ↦ h.1 E (subst (λ (x : ℕ). Stands N x E) e b)
    ];
  }

  -- once each clause with the literal came
  pub following-visited : (N : Slots) (k : Literal) (came : List ℕ) (old new : List Literal) → ((d : ℕ) (E : Clause) → slot N d ≡ Some E → IsIn (negation k) E → Contains came d) → IsFollowing N (λ E. IsIn E (live N) × IsIn (negation k) E) came old new → IsVisited P (live N) u k old new true
  following-visited N k came old new has f = (f.grown, (λ E m i. let d = live-number N E m in f.worked_off d.0 E (has d.0 E d.1 i) d.1))

  -- a clause that was followed and holds the negation of u
  pub visited-not : (N : Slots) (d : ℕ) (k : Literal) (D : Clause) (old mid new : List Literal) → slot N d ≡ Some D → IsIn (negation k) D → IsFollowed P N u d mid new false → IsVisited P (live N) u k old new false
  visited-not N d k D old mid new h m f = (
    f.0,
    live-slot N d f.0 f.1,
    subst (λ (x : Clause). IsIn (negation k) x) (slot-one N d D f.0 h f.1) m,
    f.2,
    f.3,
  )

  pub stands-held : (N : Slots) (d : ℕ) (l : Literal) (D E : Clause) → slot N d ≡ Some D → IsIn l D → Stands N d E → IsIn E (live N) × IsIn l E
  stands-held N d l D E h m b = (live-slot N d E b, subst (λ (x : Clause). IsIn l x) (slot-one N d D E h b) m)

  -- A clause that lacks u stands beside one that holds it.
  pub lacking-beside : (N : Slots) (c : ℕ) (C E : Clause) → slot N c ≡ Some C → IsIn u C → IsIn E (live N) → (IsIn u E → ⊥) → IsIn E (others c N)
  lacking-beside N c C E h m i n =
      let d = live-number N E i in
      others-slot N d.0 c E (λ e. n (subst (λ (x : Clause). IsIn u x) (slot-one N c C E h (subst (λ (x : ℕ). slot N x ≡ Some E) e d.1)) m)) d.1

  -- So what a walk meets, it meets beside the clause that is asked about.
  pub visited-beside : (N : Slots) (c : ℕ) (C : Clause) (k : Literal) (old new : List Literal) (b : Bool) → slot N c ≡ Some C → IsIn u C → IsVisited P (live N) u k old new b → IsVisited P (others c N) u k old new b
  visited-beside N c C k old new true h m v = (
    record { added = v.0.added; is = v.0.is; from = λ j i. elim (v.0.from j i) [ inl a ↦ inl a | inr a ↦ inr (a.0, (lacking-beside N c C a.0 h m a.1.0 a.2, a.1.1), a.2, a.3, a.4) ] },
    (λ E i n. v.1 E (others-live N c E i) n),
  )
  visited-beside N c C k old new false h m v = (v.0, lacking-beside N c C v.0 h m v.1 v.3, v.2, v.3, v.4)
