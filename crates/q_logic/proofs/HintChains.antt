-- What hints show is implied, and what is implied has hints.
use Rattle.std.proofs.Common.{◌≡◌, ◌≢◌, ℕ, zero, suc, Bool, true, false, List, [], ◌∷◌, ◌⊎◌, ◌↔◌, inl, inr, arith, refl, sym, ap, ◌∙◌, subst, Option, Some, None}
use Rattle.q_logic.specs.Prelude.{Literal, negation, Clause, Matrix, IsIn, Slots, slot, live, Chain, begin, more, Conflicts, negations, Implied, IsTautology, has, IsRefuted, LeavesOne, Follows, Chained}
use Rattle.q_logic.proofs.ImpliedClauses.{negation-negation, same_or_not, implied-tautology}
use Rattle.q_logic.proofs.NumberedClauses.{live-slot, IsIn-has_not}
use Rattle.q_logic.proofs.ClauseLemmas.{has-IsIn}

-- From a chain the hints lead to a conflict.
abbrev Ends : Matrix → List Literal → Type 0
Ends X start = (L : List Literal) × Chain X start L × Conflicts X L

follows-ends : (N : Slots) (start K : List Literal) (hs : List ℕ) → Chain (live N) start K → Follows N K hs → Ends (live N) start
follows-ends N start K [] ch f = elim f [ ]
follows-ends N start K (h ∷ hs) ch (D, e, inl (last, r)) = (K, ch, inr (D, live-slot N h D e, r))
follows-ends N start K (h ∷ hs) ch (D, e, inr (k, one, f)) =
    follows-ends N start (k ∷ K) hs (more k D (live-slot N h D e) one.held one.others ch) f

pub chained-implied : (N : Slots) (S : Clause) (hs : List ℕ) → Chained N S hs → Implied (live N) S
chained-implied N S hs (inl t) = implied-tautology (live N) S t.0
chained-implied N S hs (inr f) = follows-ends N (negations S) (negations S) hs begin f.1

-- The number of a clause.
pub live-number : (N : Slots) (D : Clause) → IsIn D (live N) → (h : ℕ) × (slot N h ≡ Some D)
live-number [] D m = elim m [ ]
live-number (None ∷ N) D m = let r = live-number N D m in (suc r.0, r.1)
live-number (Some C ∷ N) D (inl e) = (zero, ap Some (sym e))
live-number (Some C ∷ N) D (inr m) = let r = live-number N D m in (suc r.0, r.1)

pub held_or_not : (k : Literal) (K : List Literal) → IsIn k K ⊎ (¬ IsIn k K)
held_or_not k K = go (has k K) refl
  where
    go : (b : Bool) → has k K ≡ b → IsIn k K ⊎ (¬ IsIn k K)
    go true e = inl (has-IsIn k K e)
    go false e = inr (IsIn-has_not k K e)

negations-IsIn : (S : Clause) (k : Literal) → IsIn k (negations S) → IsIn (negation k) S
negations-IsIn [] k m = elim m [ ]
negations-IsIn (j ∷ S) k (inl e) = inl (ap negation e ∙ negation-negation j)
negations-IsIn (j ∷ S) k (inr m) = inr (negations-IsIn S k m)

tautology_or_not : (S : Clause) → IsTautology S ⊎ (¬ IsTautology S)
tautology_or_not [] = inr (λ t. elim t.1 [ ])
tautology_or_not (j ∷ S) = elim (held_or_not (negation j) S) [
  | inl m ↦ inl (j, inl refl, inr m)
  | inr n ↦ elim (tautology_or_not S) [
    | inl t ↦ inl (t.0, inr t.1, inr t.2)
    | inr u ↦ inr (λ t. neither n u t)
  ]
]
  where
    neither : ¬ IsIn (negation j) S → ¬ IsTautology S → ¬ IsTautology (j ∷ S)
    neither n u (k, inl e, inl f) = differs k (e ∙ sym f)
      where
        differs : (k : Literal) → k ≡ negation k → ⊥
        differs k e = flips k.negative (ap (λ l. l.negative) e)
          where
            flips : (b : Bool) → b ≡ Rattle.std.proofs.Common.not b → ⊥
            flips true e = cc
            flips false e = cc
    neither n u (k, inl e, inr m) = n (subst (λ y. IsIn (negation y) S) e m)
    neither n u (k, inr m, inl f) = n (subst (λ y. IsIn y S) (sym (negation-negation k) ∙ ap negation f) m)
    neither n u (k, inr m, inr o) = u (k, m, o)

abbrev IsConsistent : List Literal → Type 0
IsConsistent K = (k : Literal) → IsIn k K → IsIn (negation k) K → ⊥

-- Hints that go on from the chain's literals are hints from its start, with others in front.
pub record GoesOn (N : Slots) (start K : List Literal) : Type 0 where
  pub consistent : IsConsistent K
  pub hints : (hs : List ℕ) → Follows N K hs → (gs : List ℕ) × Follows N start gs

goes_on : (N : Slots) (start K : List Literal) → IsConsistent start → Chain (live N) start K →
    ((gs : List ℕ) × Follows N start gs) ⊎ GoesOn N start K
goes_on N start K c begin = inr (record { consistent = c; hints = λ hs f. (hs, f) })
goes_on N start K c (more {K = L} k D inX inD rest ch) =
    elim (goes_on N start L c ch) [
      | inl done ↦ inl done
      | inr g ↦ further g (live-number N D inX) (held_or_not (negation k) L)
    ]
  where
    refuted : IsIn (negation k) L → IsRefuted L D
    refuted m j i = elim (same_or_not j k) [
      | inl e ↦ subst (λ y. IsIn (negation y) L) (sym e) m
      | inr n ↦ rest j i n
    ]

    stays : IsConsistent L → ¬ IsIn (negation k) L → IsConsistent (k ∷ L)
    stays c n j (inl e) (inl f) = flips j.negative (ap (λ l. l.negative) (e ∙ sym f))
      where
        flips : (b : Bool) → b ≡ Rattle.std.proofs.Common.not b → ⊥
        flips true e = cc
        flips false e = cc
    stays c n j (inl e) (inr m) = n (subst (λ y. IsIn (negation y) L) e m)
    stays c n j (inr m) (inl f) = n (subst (λ y. IsIn y L) (sym (negation-negation j) ∙ ap negation f) m)
    stays c n j (inr m) (inr o) = c j m o

    further : GoesOn N start L → ((h : ℕ) × (slot N h ≡ Some D)) → IsIn (negation k) L ⊎ (¬ IsIn (negation k) L) →
        ((gs : List ℕ) × Follows N start gs) ⊎ GoesOn N start (k ∷ L)
    further g h (inl m) = inl (g.hints (h.0 ∷ []) (D, h.1, inl (refl, refuted m)))
    further g h (inr n) = inr (record {
      consistent = stays g.consistent n;
      hints = λ hs f. g.hints (h.0 ∷ hs) (D, h.1, inr (k, record { held = inD; left = n; others = rest }, f));
    })

pub implied-chained : (N : Slots) (S : Clause) → Implied (live N) S → (hs : List ℕ) × Chained N S hs
implied-chained N S (K, ch, conflict) =
    elim (tautology_or_not S) [
      | inl t ↦ ([], inl (t, refl))
      | inr n ↦ let r = followed n (goes_on N (negations S) K (consistent n) ch) conflict in (r.0, inr (n, r.1))
    ]
  where
    consistent : ¬ IsTautology S → IsConsistent (negations S)
    consistent n k a b = n (negation k, negations-IsIn S k a, negations-IsIn S (negation k) b)

    followed : ¬ IsTautology S → ((gs : List ℕ) × Follows N (negations S) gs) ⊎ GoesOn N (negations S) K → Conflicts (live N) K →
        (gs : List ℕ) × Follows N (negations S) gs
    followed n (inl done) c = done
    followed n (inr g) (inl (k, a, b)) = absurd (g.consistent k a b)
    followed n (inr g) (inr (D, inX, r)) =
        let h = live-number N D inX in g.hints (h.0 ∷ []) (D, h.1, inl (refl, r))

-- Only which literals are known counts.
pub follows-same : (N : Slots) (K L : List Literal) (hs : List ℕ) → ((k : Literal) → IsIn k K → IsIn k L) →
    ((k : Literal) → IsIn k L → IsIn k K) → Follows N K hs → Follows N L hs
follows-same N K L [] a b f = f
follows-same N K L (h ∷ hs) a b (D, e, inl (last, r)) = (D, e, inl (last, λ j m. a (negation j) (r j m)))
follows-same N K L (h ∷ hs) a b (D, e, inr (k, one, f)) = (
  D,
  e,
  inr (
    k,
    record {
      held = one.held;
      left = λ m. one.left (b (negation k) m);
      others = λ j m n. a (negation j) (one.others j m n);
    },
    follows-same N (k ∷ K) (k ∷ L) hs
        (λ j m. elim m [ inl e ↦ inl e | inr n ↦ inr (a j n) ])
        (λ j m. elim m [ inl e ↦ inl e | inr n ↦ inr (b j n) ]) f,
  ),
)

-- What one hint decides.
module _ (N : Slots) (K : List Literal) (h : ℕ) (hs : List ℕ) (D : Clause) (e : slot N h ≡ Some D) where
  same : (E : Clause) → slot N h ≡ Some E → E ≡ D
  same E f = cc

  pub follows-last : IsRefuted K D → Follows N K (h ∷ hs) ↔ (hs ≡ [])
  follows-last r = (to_last, λ q. (D, e, inl (q, r)))
    where
      to_last : Follows N K (h ∷ hs) → hs ≡ []
      to_last (E, f, inl (last, s)) = last
      to_last (E, f, inr (k, one, rest)) = absurd (one.left (r k (subst (λ (C : Clause). IsIn k C) (same E f) one.held)))

  pub follows-one : (k : Literal) → LeavesOne K D k → Follows N K (h ∷ hs) ↔ Follows N (k ∷ K) hs
  follows-one k one = (to_rest, λ f. (D, e, inr (k, one, f)))
    where
      to_rest : Follows N K (h ∷ hs) → Follows N (k ∷ K) hs
      to_rest (E, f, inl (last, s)) = absurd (one.left (s k (subst (λ (C : Clause). IsIn k C) (sym (same E f)) one.held)))
      to_rest (E, f, inr (j, other, rest)) =
          elim (same_or_not k j) [
            | inl q ↦ subst (λ y. Follows N (y ∷ K) hs) (sym q) rest
            | inr n ↦ absurd (one.left (other.others k (subst (λ (C : Clause). IsIn k C) (sym (same E f)) one.held) n))
          ]

  pub follows-open : (j k : Literal) → IsIn j D → IsIn k D → j ≢ k → ¬ IsIn (negation j) K → ¬ IsIn (negation k) K → ¬ Follows N K (h ∷ hs)
  follows-open j k a b n m o (E, f, inl (last, s)) = m (s j (subst (λ (C : Clause). IsIn j C) (sym (same E f)) a))
  follows-open j k a b n m o (E, f, inr (i, other, rest)) =
      elim (same_or_not j i) [
        | inl q ↦ o (other.others k (subst (λ (C : Clause). IsIn k C) (sym (same E f)) b) (λ r. n (q ∙ sym r)))
        | inr p ↦ m (other.others j (subst (λ (C : Clause). IsIn j C) (sym (same E f)) a) p)
      ]

pub follows-none : (N : Slots) (K : List Literal) (h : ℕ) (hs : List ℕ) → ((D : Clause) → ¬ (slot N h ≡ Some D)) → ¬ Follows N K (h ∷ hs)
follows-none N K h hs n f = n f.0 f.1
