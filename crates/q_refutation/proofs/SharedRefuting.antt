-- Refutations that are checked in shares.
use Rattle.std.proofs.Common.{◌≡◌, ◌⊎◌, ◌≤◌, ◌+◌, ◌∙◌, ℕ, zero, suc, Bool, true, false, cond, List, [], ◌∷◌, length, take, Option, None, inl, inr, refl, sym, ap, subst, arith, sum}
use Rattle.std.proofs.lemmas.List.Sums.{sum_by-cons}
use Rattle.q_logic.specs.declared.limits.Limits.{Limits}
use Rattle.q_logic.specs.Prelude.{IsIn, PrenexFormula, ProofStep, add, delete, drop_literal, fresh, remove_variable, after}
use Rattle.q_same_steps.specs.Making.{Applies, IsUnfit}
use Rattle.q_same_steps.proofs.MadeSteps.{valid-applies}
use Rattle.q_shares.specs.Shares.{AreDealt, Share, count, counts, shares_of}
use Rattle.q_shares.proofs.SharedRuns.{finds, counts-sum}
use Rattle.q_refutation.specs.Refutations.{IsLost, MayBeMade, RefusedAt, RefutedIn, Refutes}
use Rattle.q_refutation.specs.SharedRefutations.{AllSharedIn, IsOwner, MayBeTaken, NotTaken, RefusedShared, RefutesShared, SharedIn}
use Rattle.q_refutation.proofs.Refusing.{lost-or, made-no_cause, refutes-number}

-- One step.
made-applies : (m : Limits) (F : PrenexFormula) (s : ProofStep) → MayBeMade false m F s → Applies m F s
made-applies m F (add p C) v = valid-applies m F (add p C) v
made-applies m F (delete p C) v = v
made-applies m F (drop_literal l C) v = valid-applies m F (drop_literal l C) v
made-applies m F (fresh v x) h = valid-applies m F (fresh v x) h
made-applies m F (remove_variable v) h = valid-applies m F (remove_variable v) h

pub made-taken : (own : Bool) (m : Limits) (F : PrenexFormula) (s : ProofStep) → MayBeMade false m F s → MayBeTaken own m F s
made-taken true m F s v = v
made-taken false m F s v = made-applies m F s v

fit-not_unfit : (m : Limits) (F : PrenexFormula) (s : ProofStep) (n : ℕ) → Applies m F s → IsUnfit m F s n → ⊥
fit-not_unfit m F (add p C) n h (inl w) = w.1 h.0
fit-not_unfit m F (add p C) n h (inr w) = w.1 h.1
fit-not_unfit m F (delete p C) n h (inl w) = w.1 h.0
fit-not_unfit m F (delete p C) n h (inr w) = w.1 h.1
fit-not_unfit m F (drop_literal l C) n h (inl w) = w.1 h.0
fit-not_unfit m F (drop_literal l C) n h (inr w) = w.1 h.1
fit-not_unfit m F (fresh v x) n h w = w.1 h
fit-not_unfit m F (remove_variable v) n h (inl w) = let e = h.0 in let f = w.1 in cc
fit-not_unfit m F (remove_variable v) n h (inr w) = w.1 h.1

pub taken-or_not : (own : Bool) (m : Limits) (F : PrenexFormula) (s : ProofStep) (n : ℕ) → MayBeTaken own m F s → NotTaken own m F s n → ⊥
taken-or_not true m F s n v w = made-no_cause false m F s n v w
taken-or_not false m F s n v w = fit-not_unfit m F s n v w.applies

-- who judges a step
owner : (js : List Share) (k : ℕ) → AreDealt js → (j : Share) × IsIn j js × (j k ≡ true)
owner js k d = finds js k (let e : shares_of js k ≡ 1 = d k in omega arith)

own-made : (j : Share) (k : ℕ) (m : Limits) (F : PrenexFormula) (s : ProofStep) → j k ≡ true → MayBeTaken (j k) m F s → MayBeMade false m F s
own-made j k m F s e t = subst (λ (own : Bool). MayBeTaken own m F s) e t

-- All say so.
pub shares-refute : (js : List Share) (m : Limits) (k : ℕ) (F : PrenexFormula) (ss : List ProofStep) → AreDealt js →
    ((j : Share) → IsIn j js → RefutesShared j m k F ss) → Refutes false m F ss
shares-refute js m k F [] d h = let o = owner js k d in h o.0 o.1
shares-refute js m k F (s ∷ ss) d h = elim (lost-or F) [
  | inl l ↦ inl l
  | inr n ↦ inr (own n, shares-refute js m (k + 1) (after F s) ss d (λ i x. (rest n i (h i x)).1))
]
  where
    rest : (IsLost F → ⊥) → (i : Share) → RefutesShared i m k F (s ∷ ss) → MayBeTaken (i k) m F s × RefutesShared i m (k + 1) (after F s) ss
    rest n i (inl l) = absurd (n l)
    rest n i (inr r) = r

    own : (IsLost F → ⊥) → MayBeMade false m F s
    own n = let o = owner js k d in own-made o.0 k m F s o.2 (rest n o.0 (h o.0 o.1)).0

pub refutes-shared : (j : Share) (m : Limits) (k : ℕ) (F : PrenexFormula) (ss : List ProofStep) → Refutes false m F ss → RefutesShared j m k F ss
refutes-shared j m k F [] l = l
refutes-shared j m k F (s ∷ ss) (inl l) = inl l
refutes-shared j m k F (s ∷ ss) (inr (v, r)) = inr (made-taken (j k) m F s v, refutes-shared j m (k + 1) (after F s) ss r)

-- Numbers.
pub shared-number : (j : Share) (m : Limits) (k : ℕ) (F : PrenexFormula) (ss : List ProofStep) → RefutesShared j m k F ss → (n : ℕ) × SharedIn j m k F ss n
shared-number j m k F [] l = (0, (l, refl))
shared-number j m k F (s ∷ ss) (inl l) = (0, inl (l, refl))
shared-number j m k F (s ∷ ss) (inr (v, r)) =
    let i = shared-number j m (k + 1) (after F s) ss r in
    elim (lost-or F) [
      | inl l ↦ (0, inl (l, refl))
      | inr n ↦ (cond (j k) (i.0 + 1) i.0, inr (n, v, (i.0, i.1, refl)))
    ]

pub number-shared : (j : Share) (m : Limits) (k : ℕ) (F : PrenexFormula) (ss : List ProofStep) (n : ℕ) → SharedIn j m k F ss n → RefutesShared j m k F ss
number-shared j m k F [] n r = r.0
number-shared j m k F (s ∷ ss) n (inl r) = inl r.0
number-shared j m k F (s ∷ ss) n (inr (a, v, (i, r, e))) = inr (v, number-shared j m (k + 1) (after F s) ss i r)

pub shared-one : (j : Share) (m : Limits) (k : ℕ) (F : PrenexFormula) (ss : List ProofStep) (n i : ℕ) → SharedIn j m k F ss n → SharedIn j m k F ss i → n ≡ i
shared-one j m k F [] n i a b = a.1 ∙ sym b.1
shared-one j m k F (s ∷ ss) n i (inl a) (inl b) = a.1 ∙ sym b.1
shared-one j m k F (s ∷ ss) n i (inl a) (inr b) = absurd (b.0 a.0)
shared-one j m k F (s ∷ ss) n i (inr a) (inl b) = absurd (a.0 b.0)
shared-one j m k F (s ∷ ss) n i (inr (x, v, (p, r, e))) (inr (y, w, (q, t, g))) =
    e ∙ ap (λ (l : ℕ). cond (j k) (l + 1) l) (shared-one j m (k + 1) (after F s) ss p q r t) ∙ sym g

pub shared-not_both : (j : Share) (m : Limits) (k : ℕ) (F : PrenexFormula) (ss : List ProofStep) (at : ℕ) (cause : Option ℕ) → RefutesShared j m k F ss →
    RefusedShared j m k F ss at cause → ⊥
shared-not_both j m k F [] at cause r x = x.0 r
shared-not_both j m k F (s ∷ ss) at cause (inl l) x = x.0 l
shared-not_both j m k F (s ∷ ss) at cause (inr (v, r)) (b, inl (z, (i, c, g))) = taken-or_not (j k) m F s i v c
shared-not_both j m k F (s ∷ ss) at cause (inr (v, r)) (b, inr (w, (l, t, g))) = shared-not_both j m (k + 1) (after F s) ss l cause r t

-- The share that has all steps.
module _ (j : Share) (w : (k : ℕ) → j k ≡ true) where
  pub whole-in : (m : Limits) (k : ℕ) (F : PrenexFormula) (ss : List ProofStep) (n : ℕ) → SharedIn j m k F ss n → RefutedIn false m F ss n
  whole-in m k F [] n r = r
  whole-in m k F (s ∷ ss) n (inl r) = inl r
  whole-in m k F (s ∷ ss) n (inr (u, t, (i, r, e))) =
      let q : n ≡ i + 1 = subst (λ (b : Bool). n ≡ cond b (i + 1) i) (w k) e in
      inr (u, own-made j k m F s (w k) t, (i, whole-in m (k + 1) (after F s) ss i r, omega (arith, q)))

  pub in-whole : (m : Limits) (k : ℕ) (F : PrenexFormula) (ss : List ProofStep) (n : ℕ) → RefutedIn false m F ss n → SharedIn j m k F ss n
  in-whole m k F [] n r = r
  in-whole m k F (s ∷ ss) n (inl r) = inl r
  in-whole m k F (s ∷ ss) n (inr (u, t, (i, r, e))) =
      let q : n ≡ i + 1 = omega (arith, e) in
      inr (u, made-taken (j k) m F s t, (i, in-whole m (k + 1) (after F s) ss i r, subst (λ (b : Bool). n ≡ cond b (i + 1) i) (sym (w k)) q))

  pub whole-refused : (m : Limits) (k : ℕ) (F : PrenexFormula) (ss : List ProofStep) (at : ℕ) (cause : Option ℕ) → RefusedShared j m k F ss at cause →
      RefusedAt false m F ss at cause
  whole-refused m k F [] at cause r = r
  whole-refused m k F (s ∷ ss) at cause (u, inl (z, (n, x, e))) = (u, inl (z, (n, subst (λ (own : Bool). NotTaken own m F s n) (w k) x, e)))
  whole-refused m k F (s ∷ ss) at cause (u, inr (t, (i, r, e))) =
      (u, inr (own-made j k m F s (w k) t, (i, whole-refused m (k + 1) (after F s) ss i cause r, e)))

-- The numbers add up.
counted : (j : Share) (m : Limits) (k : ℕ) (F : PrenexFormula) (ss : List ProofStep) (all n : ℕ) → RefutedIn false m F ss all → SharedIn j m k F ss n →
    n ≡ count j k (take all ss)
counted j m k F [] all n r x = x.1 ∙ none all
  where
    none : (i : ℕ) → 0 ≡ count j k (take i [])
    none zero = refl
    none (suc i) = refl
counted j m k F (s ∷ ss) all n (inl r) (inl x) = x.1 ∙ subst (λ (i : ℕ). 0 ≡ count j k (take i (s ∷ ss))) (sym r.1) refl
counted j m k F (s ∷ ss) all n (inl r) (inr x) = absurd (x.0 r.0)
counted j m k F (s ∷ ss) all n (inr r) (inl x) = absurd (r.0 x.0)
counted j m k F (s ∷ ss) all n (inr (u, v, (p, r, e))) (inr (a, t, (i, x, g))) =
    g ∙ (ap (λ (l : ℕ). cond (j k) (l + 1) l) (counted j m (k + 1) (after F s) ss p i r x) ∙ subst (λ (l : ℕ). count j k (s ∷ take p ss) ≡ count j k (take l (s ∷ ss))) (sym e) refl)

so-many : (m : Limits) (F : PrenexFormula) (ss : List ProofStep) (n : ℕ) → RefutedIn false m F ss n → length (take n ss) ≡ n
so-many m F [] n r = subst (λ (i : ℕ). length (take {A = ProofStep} i []) ≡ i) (sym r.1) refl
so-many m F (s ∷ ss) n (inl r) = subst (λ (i : ℕ). length (take i (s ∷ ss)) ≡ i) (sym r.1) refl
so-many m F (s ∷ ss) n (inr (u, v, (i, r, e))) =
    subst (λ (l : ℕ). length (take l (s ∷ ss)) ≡ l) (sym e) (ap suc (so-many m (after F s) ss i r))

pub all-refute : (js : List Share) (m : Limits) (k : ℕ) (F : PrenexFormula) (ss : List ProofStep) (ns : List ℕ) → AllSharedIn js m k F ss ns →
    (j : Share) → IsIn j js → RefutesShared j m k F ss
all-refute [] m k F ss ns a j i = absurd i
all-refute (h ∷ js) m k F ss [] a j i = absurd a
all-refute (h ∷ js) m k F ss (n ∷ ns) a j (inl e) = subst (λ (x : Share). RefutesShared x m k F ss) (sym e) (number-shared h m k F ss n a.0)
all-refute (h ∷ js) m k F ss (n ∷ ns) a j (inr i) = all-refute js m k F ss ns a.1 j i

all-counted : (js : List Share) (m : Limits) (k : ℕ) (F : PrenexFormula) (ss : List ProofStep) (all : ℕ) (ns : List ℕ) → RefutedIn false m F ss all →
    AllSharedIn js m k F ss ns → sum ns ≡ counts js k (take all ss)
all-counted [] m k F ss all [] r a = refl
all-counted [] m k F ss all (n ∷ ns) r a = absurd a
all-counted (j ∷ js) m k F ss all [] r a = absurd a
all-counted (j ∷ js) m k F ss all (n ∷ ns) r a =
    let c : n ≡ count j k (take all ss) = counted j m k F ss all n r a.0 in
    let d : sum ns ≡ counts js k (take all ss) = all-counted js m k F ss all ns r a.1 in
    let f : sum (n ∷ ns) ≡ n + sum ns = sum_by-cons (λ x. x) n ns in
    omega (arith, c, d, f)

pub numbers-add : (js : List Share) (m : Limits) (F : PrenexFormula) (ss : List ProofStep) (ns : List ℕ) → AreDealt js → AllSharedIn js m 0 F ss ns →
    RefutedIn false m F ss (sum ns)
numbers-add js m F ss ns d a =
    let r = refutes-number false m F ss (shares-refute js m 0 F ss d (all-refute js m 0 F ss ns a)) in
    let e : sum ns ≡ r.0 = all-counted js m 0 F ss r.0 ns r.1 a ∙ (counts-sum js 0 (take r.0 ss) d ∙ so-many m F ss r.0 r.1) in
    subst (λ (n : ℕ). RefutedIn false m F ss n) (sym e) r.1

-- Refusals.
pub bad-told : (js : List Share) (m : Limits) (k : ℕ) (F : PrenexFormula) (ss : List ProofStep) (at : ℕ) (cause : Option ℕ) → AreDealt js →
    RefusedAt false m F ss at cause → (j : Share) × IsIn j js × RefusedShared j m k F ss at cause
bad-told js m k F [] at cause d r = let o = owner js k d in (o.0, o.1, r)
bad-told js m k F (s ∷ ss) at cause d (u, inl (z, (n, x, e))) =
    let o = owner js k d in
    (o.0, o.1, (u, inl (z, (n, subst (λ (own : Bool). NotTaken own m F s n) (sym o.2) x, e))))
bad-told js m k F (s ∷ ss) at cause d (u, inr (v, (i, r, e))) =
    let o = bad-told js m (k + 1) (after F s) ss i cause d r in
    (o.0, o.1, (u, inr (made-taken (o.0 k) m F s v, (i, o.2, e))))

pub none-before : (j : Share) (m : Limits) (k : ℕ) (F : PrenexFormula) (ss : List ProofStep) (at other : ℕ) (cause own : Option ℕ) →
    RefusedAt false m F ss at cause → RefusedShared j m k F ss other own → at ≤ other
none-before j m k F [] at other cause own r x = let z : at ≡ 0 = r.1 in omega (arith, z)
none-before j m k F (s ∷ ss) at other cause own (u, inl (z, r)) x = let q : at ≡ 0 = z in omega (arith, q)
none-before j m k F (s ∷ ss) at other cause own (u, inr (v, (i, r, e))) (b, inl (z, (n, x, g))) =
    absurd (taken-or_not (j k) m F s n (made-taken (j k) m F s v) x)
none-before j m k F (s ∷ ss) at other cause own (u, inr (v, (i, r, e))) (b, inr (t, (l, x, g))) =
    let h : i ≤ l = none-before j m (k + 1) (after F s) ss i l cause own r x in
    omega (arith, h, e, g)

pub end-told : (j : Share) (m : Limits) (k : ℕ) (F : PrenexFormula) (ss : List ProofStep) (at : ℕ) → RefusedAt false m F ss at None →
    RefusedShared j m k F ss at None
end-told j m k F [] at r = r
end-told j m k F (s ∷ ss) at (u, inl (z, (n, x, e))) = absurd (cc)
end-told j m k F (s ∷ ss) at (u, inr (v, (i, r, e))) = (u, inr (made-taken (j k) m F s v, (i, end-told j m (k + 1) (after F s) ss i r, e)))

-- who comes so far from the step of the number k on
abbrev ComesFrom : Share → Limits → ℕ → PrenexFormula → List ProofStep → ℕ → Type 0
ComesFrom j m k F ss at =
    RefutesShared j m k F ss ⊎ ((other : ℕ) × (own : Option ℕ) × RefusedShared j m k F ss other own × (at ≤ other))

comes-on : (j : Share) (m : Limits) (k : ℕ) (F : PrenexFormula) (s : ProofStep) (ss : List ProofStep) (at : ℕ) → (IsLost F → ⊥) →
    ComesFrom j m k F (s ∷ ss) (suc at) → MayBeTaken (j k) m F s × ComesFrom j m (k + 1) (after F s) ss at
comes-on j m k F s ss at u (inl (inl l)) = absurd (u l)
comes-on j m k F s ss at u (inl (inr (t, r))) = (t, inl r)
comes-on j m k F s ss at u (inr (other, own, (b, inl (z, x)), h)) = absurd (omega (arith, z, h))
comes-on j m k F s ss at u (inr (other, own, (b, inr (t, (i, x, g))), h)) = (t, inr (i, own, x, omega (arith, g, h)))

pub right-told : (js : List Share) (m : Limits) (k : ℕ) (F : PrenexFormula) (ss : List ProofStep) (at : ℕ) (cause : Option ℕ) → AreDealt js →
    (j : Share) → IsOwner j (k + at) cause → RefusedShared j m k F ss at cause → ((i : Share) → IsIn i js → ComesFrom i m k F ss at) →
    RefusedAt false m F ss at cause
right-told js m k F [] at cause d j o r c = r
right-told js m k F (s ∷ ss) at cause d j o (u, inl (z, (n, x, e))) c =
    let q : k + at ≡ k = omega (arith, z) in
    let own : j k ≡ true = subst (λ (l : ℕ). j l ≡ true) q (subst (λ (y : Option ℕ). IsOwner j (k + at) y) e o) in
    (u, inl (z, (n, subst (λ (b : Bool). NotTaken b m F s n) own x, e)))
right-told js m k F (s ∷ ss) at cause d j o (u, inr (t, (i, r, e))) c =
    let on : (h : Share) → IsIn h js → MayBeTaken (h k) m F s × ComesFrom h m (k + 1) (after F s) ss i =
    λ h x. comes-on h m k F s ss i u (subst (λ (l : ℕ). ComesFrom h m k F (s ∷ ss) l) e (c h x)) in
    let w = owner js k d in
    let q : k + at ≡ (k + 1) + i = omega (arith, e) in (
      u,
      inr (
        own-made w.0 k m F s w.2 (on w.0 w.1).0,
        (i, right-told js m (k + 1) (after F s) ss i cause d j (subst (λ (l : ℕ). IsOwner j l cause) q o) r (λ h x. (on h x).1), e),
      ),
    )
