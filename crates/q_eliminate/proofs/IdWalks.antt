-- Walks along ids.
use Rattle.std.proofs.Common.{◌≡◌, ◌+◌, ◌<◌, ◌≤◌, ℕ, zero, suc, Bool, true, false, cond, List, [], ◌∷◌, length, drop, get_or, Option, None, Some, inl, inr, arith, refl, sym, ap, ◌∙◌, subst, add-one}
use Rattle.std.specs.List.{AllByRecursion}
use Rattle.q_logic.specs.Prelude.{Literal, literal_eq, Clause, Matrix, IsIn, without, Slots, slot, put_first, clauses_at}
use Rattle.q_logic.proofs.Common.{literal_eq-sound, literal_eq-itself}
use Rattle.q_eliminate.specs.Sides.{AreLive}

pub id-in : (ids : List ℕ) (i : ℕ) → i < length ids → IsIn (get_or ids i 0) ids
id-in [] i h = absurd (omega arith)
id-in (c ∷ ids) zero h = inl refl
id-in (c ∷ ids) (suc i) h = inr (id-in ids i (omega arith))

-- the clauses from a place on
pub at-next : (N : Slots) (ids : List ℕ) (i : ℕ) (C : Clause) → i < length ids → slot N (get_or ids i 0) ≡ Some C → clauses_at N (drop i ids) ≡ C ∷ clauses_at N (drop (i + 1) ids)
at-next N ids i C h e = go ids i h e ∙ ap (λ (n : ℕ). C ∷ clauses_at N (drop n ids)) (sym (add-one i))
  where
    go : (ids : List ℕ) (i : ℕ) → i < length ids → slot N (get_or ids i 0) ≡ Some C → clauses_at N (drop i ids) ≡ C ∷ clauses_at N (drop (suc i) ids)
    go [] i h e = absurd (omega arith)
    go (c ∷ ids) zero h e = ap (λ (o : Option Clause). put_first o (clauses_at N ids)) e
    go (c ∷ ids) (suc i) h e = go ids i (omega arith) e

pub at-end : (N : Slots) (ids : List ℕ) (i : ℕ) → length ids ≤ i → clauses_at N (drop i ids) ≡ []
at-end N [] zero h = refl
at-end N [] (suc i) h = refl
at-end N (c ∷ ids) zero h = absurd (omega arith)
at-end N (c ∷ ids) (suc i) h = at-end N ids i (omega arith)

-- a clause of an id is among them
pub at-member : (N : Slots) (ids : List ℕ) (c : ℕ) (C : Clause) → IsIn c ids → slot N c ≡ Some C → IsIn C (clauses_at N ids)
at-member N [] c C m e = absurd m
at-member N (d ∷ ids) c C (inl q) e = subst (λ (o : Option Clause). IsIn C (put_first o (clauses_at N ids))) (sym (ap (slot N) (sym q) ∙ e)) (inl refl)
at-member N (d ∷ ids) c C (inr m) e = later (slot N d) (at-member N ids c C m e)
  where
    later : (o : Option Clause) → IsIn C (clauses_at N ids) → IsIn C (put_first o (clauses_at N ids))
    later None i = i
    later (Some D) i = inr i

pub live-at : (N : Slots) (ids : List ℕ) (i : ℕ) → AreLive N ids → i < length ids → (C : Clause) × (slot N (get_or ids i 0) ≡ Some C)
live-at N ids i live h = live (get_or ids i 0) (id-in ids i h)

-- what holds of all clauses, told from a place on
pub all-more : (R : Clause → Type 0) (N : Slots) (ids : List ℕ) (i : ℕ) (C : Clause) → i < length ids → slot N (get_or ids i 0) ≡ Some C → R C → (AllByRecursion R (clauses_at N (drop i ids)) → AllByRecursion R (clauses_at N ids)) → AllByRecursion R (clauses_at N (drop (i + 1) ids)) → AllByRecursion R (clauses_at N ids)
all-more R N ids i C h e r f a = f (subst (AllByRecursion R) (sym (at-next N ids i C h e)) (r, a))

pub all-done : (R : Clause → Type 0) (N : Slots) (ids : List ℕ) (i : ℕ) → length ids ≤ i → (AllByRecursion R (clauses_at N (drop i ids)) → AllByRecursion R (clauses_at N ids)) → AllByRecursion R (clauses_at N ids)
all-done R N ids i h f = f (subst (AllByRecursion R) (sym (at-end N ids i h)) tt)

pub all-member : (R : Clause → Type 0) (X : Matrix) (C : Clause) → AllByRecursion R X → IsIn C X → R C
all-member R [] C a m = absurd m
all-member R (D ∷ X) C a (inl e) = subst R (sym e) a.0
all-member R (D ∷ X) C a (inr m) = all-member R X C a.1 m

pub all-members : (R : Clause → Type 0) (X : Matrix) → ((C : Clause) → IsIn C X → R C) → AllByRecursion R X
all-members R [] h = tt
all-members R (D ∷ X) h = (h D (inl refl), all-members R X (λ C m. h C (inr m)))

pub all-at : (R : Clause → Type 0) (N : Slots) (ids : List ℕ) (i : ℕ) (C : Clause) → i < length ids → slot N (get_or ids i 0) ≡ Some C → AllByRecursion R (clauses_at N ids) → R C
all-at R N ids i C h e a = all-member R (clauses_at N ids) C a (at-member N ids (get_or ids i 0) C (id-in ids i h) e)

-- the literals from a place on
module _ {X : Type 0} where
  pub next-item : (C : List X) (i : ℕ) (k : X) → i < length C → k ≡ get_or C i k → drop i C ≡ k ∷ drop (i + 1) C
  next-item C i k h e = go C i h e ∙ ap (λ (n : ℕ). k ∷ drop n C) (sym (add-one i))
    where
      go : (C : List X) (i : ℕ) → i < length C → k ≡ get_or C i k → drop i C ≡ k ∷ drop (suc i) C
      go [] i h e = absurd (omega arith)
      go (y ∷ C) zero h e = ap (λ (z : X). z ∷ C) (sym e)
      go (y ∷ C) (suc i) h e = go C i (omega arith) e

-- the literals from a place on, but one
pub but-skipped : (C : Clause) (i : ℕ) (k out : Literal) → i < length C → k ≡ get_or C i k → k ≡ out → without out (drop i C) ≡ without out (drop (i + 1) C)
but-skipped C i k out h e q =
    let t : literal_eq k out ≡ true = subst (λ (z : Literal). literal_eq k z ≡ true) q (literal_eq-itself k) in
    ap (without out) (next-item C i k h e) ∙ ap (λ (b : Bool). cond b (without out (drop (i + 1) C)) (k ∷ without out (drop (i + 1) C))) t

pub but-taken : (C : Clause) (i : ℕ) (k out : Literal) → i < length C → k ≡ get_or C i k → (k ≡ out → ⊥) → without out (drop i C) ≡ k ∷ without out (drop (i + 1) C)
but-taken C i k out h e n = ap (without out) (next-item C i k h e) ∙ go (literal_eq k out) refl
  where
    go : (b : Bool) → literal_eq k out ≡ b → cond b (without out (drop (i + 1) C)) (k ∷ without out (drop (i + 1) C)) ≡ k ∷ without out (drop (i + 1) C)
    go true t = absurd (n (literal_eq-sound k out t))
    go false t = refl
