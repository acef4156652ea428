-- Numbered clauses as collections, and the clauses with and without a literal.
use Rattle.std.proofs.Common.{◌≡◌, ◌≢◌, ℕ, zero, suc, Bool, true, false, cond, [], ◌∷◌, ◌++◌, ◌⊎◌, inl, inr, arith, refl, sym, ap, subst, Option, Some, None, ◌<◌, length}
use Rattle.q_logic.specs.Prelude.{Literal, literal_eq, Clause, Matrix, IsIn, without, has, with_literal, without_literal, each_without, Slots, slot, live, others, put_first, set_slot, numbered}
use Rattle.q_logic.proofs.JustifiedRuns.{SameClauses}
use Rattle.q_logic.proofs.ClauseLemmas.{literal_eq-itself, has-IsIn, IsIn-has}
use Rattle.q_logic.proofs.JustifiedRuns.{alike-refl, alike-trans, alike-sym, alike-cons, alike-swap, IsIn-alike}
use Rattle.q_logic.proofs.ChangeRuns.{mapped, alike-turned}

pub slot-alike : (N : Slots) (c : ℕ) (C : Clause) → slot N c ≡ Some C → SameClauses (live N) (C ∷ others c N)
slot-alike [] c C h = grind arith
slot-alike (o ∷ N) zero C h = subst (λ p. SameClauses (put_first p (live N)) (C ∷ live N)) (sym h) (alike-refl (C ∷ live N))
slot-alike (None ∷ N) (suc c) C h = slot-alike N c C h
slot-alike (Some D ∷ N) (suc c) C h = alike-trans (D ∷ live N) (D ∷ C ∷ others c N) (C ∷ D ∷ others c N) (alike-cons D (live N) (C ∷ others c N) (slot-alike N c C h)) (alike-swap D C (others c N))

pub live-slot : (N : Slots) (c : ℕ) (C : Clause) → slot N c ≡ Some C → IsIn C (live N)
live-slot N c C h = IsIn-alike (C ∷ others c N) (live N) (alike-sym (live N) (C ∷ others c N) (slot-alike N c C h)) C (inl refl)

IsIn-put_first : (o : Option Clause) (X : Matrix) (C : Clause) → IsIn C X → IsIn C (put_first o X)
IsIn-put_first None X C m = m
IsIn-put_first (Some D) X C m = inr m

pub others-slot : (N : Slots) (c d : ℕ) (C : Clause) → c ≢ d → slot N c ≡ Some C → IsIn C (others d N)
others-slot [] c d C n h = grind arith
others-slot (o ∷ N) zero zero C n h = absurd (n refl)
others-slot (o ∷ N) zero (suc d) C n h = subst (λ p. IsIn C (put_first p (others d N))) (sym h) (inl refl)
others-slot (o ∷ N) (suc c) zero C n h = live-slot N c C h
others-slot (o ∷ N) (suc c) (suc d) C n h = IsIn-put_first o (others d N) C (others-slot N c d C (λ e. n (ap suc e)) h)

-- All clauses but one are among all clauses.
pub others-live : (N : Slots) (c : ℕ) (D : Clause) → IsIn D (others c N) → IsIn D (live N)
others-live [] c D m = m
others-live (None ∷ N) zero D m = m
others-live (Some C ∷ N) zero D m = inr m
others-live (None ∷ N) (suc c) D m = others-live N c D m
others-live (Some C ∷ N) (suc c) D (inl e) = inl e
others-live (Some C ∷ N) (suc c) D (inr m) = inr (others-live N c D m)

-- Another clause at a number, or none.
pub slot-set_other : (c d : ℕ) (o : Option Clause) (N : Slots) → d ≢ c → slot (set_slot c o N) d ≡ slot N d
slot-set_other c d o [] n = refl
slot-set_other zero zero o (p ∷ N) n = absurd (n refl)
slot-set_other zero (suc d) o (p ∷ N) n = refl
slot-set_other (suc c) zero o (p ∷ N) n = refl
slot-set_other (suc c) (suc d) o (p ∷ N) n = slot-set_other c d o N (λ e. n (ap suc e))

pub slot-set_none : (c : ℕ) (N : Slots) → slot (set_slot c None N) c ≡ None
slot-set_none c [] = refl
slot-set_none zero (o ∷ N) = refl
slot-set_none (suc c) (o ∷ N) = slot-set_none c N

pub IsIn-has_not : (l : Literal) (D : Clause) → has l D ≡ false → IsIn l D → ⊥
IsIn-has_not l D h m = let z : has l D ≡ true = IsIn-has l D m in grind arith

pub IsIn-with : (l : Literal) (X : Matrix) (D : Clause) → IsIn D (with_literal l X) → IsIn D X × IsIn l D
IsIn-with l [] D m = elim m [ ]
IsIn-with l (E ∷ X) D m = go (has l E) refl m (IsIn-with l X D)
  where
    go : (b : Bool) → has l E ≡ b → IsIn D (cond b (E ∷ with_literal l X) (with_literal l X)) → (IsIn D (with_literal l X) → IsIn D X × IsIn l D) → IsIn D (E ∷ X) × IsIn l D
    go true q (inl e) ih = (inl e, subst (IsIn l) (sym e) (has-IsIn l E q))
    go true q (inr n) ih = (inr (ih n).0, (ih n).1)
    go false q n ih = (inr (ih n).0, (ih n).1)

pub IsIn-without_literal : (l : Literal) (X : Matrix) (D : Clause) → IsIn D (without_literal l X) → IsIn D X × (IsIn l D → ⊥)
IsIn-without_literal l [] D m = elim m [ ]
IsIn-without_literal l (E ∷ X) D m = go (has l E) refl m (IsIn-without_literal l X D)
  where
    go : (b : Bool) → has l E ≡ b → IsIn D (cond b (without_literal l X) (E ∷ without_literal l X)) → (IsIn D (without_literal l X) → IsIn D X × (IsIn l D → ⊥)) → IsIn D (E ∷ X) × (IsIn l D → ⊥)
    go false q (inl e) ih = (inl e, λ i. IsIn-has_not l E q (subst (IsIn l) e i))
    go false q (inr n) ih = (inr (ih n).0, (ih n).1)
    go true q n ih = (inr (ih n).0, (ih n).1)

pub IsIn-in_with : (l : Literal) (X : Matrix) (D : Clause) → IsIn D X → IsIn l D → IsIn D (with_literal l X)
IsIn-in_with l [] D m i = elim m [ ]
IsIn-in_with l (E ∷ X) D m i = go (has l E) refl m (λ n. IsIn-in_with l X D n i)
  where
    go : (b : Bool) → has l E ≡ b → (D ≡ E) ⊎ IsIn D X → (IsIn D X → IsIn D (with_literal l X)) → IsIn D (cond b (E ∷ with_literal l X) (with_literal l X))
    go true q (inl e) ih = inl e
    go true q (inr n) ih = inr (ih n)
    go false q (inl e) ih = absurd (IsIn-has_not l E q (subst (IsIn l) e i))
    go false q (inr n) ih = ih n

pub with-alike : (l : Literal) (X : Matrix) → SameClauses X (with_literal l X ++ without_literal l X)
with-alike l [] = alike-refl []
with-alike l (E ∷ X) = go (has l E) (with-alike l X)
  where
    go : (b : Bool) → SameClauses X (with_literal l X ++ without_literal l X) → SameClauses (E ∷ X) (cond b (E ∷ with_literal l X) (with_literal l X) ++ cond b (without_literal l X) (E ∷ without_literal l X))
    go true ih = alike-cons E X (with_literal l X ++ without_literal l X) ih
    go false ih = alike-trans (E ∷ X) (E ∷ (with_literal l X ++ without_literal l X)) (with_literal l X ++ (E ∷ without_literal l X)) (alike-cons E X (with_literal l X ++ without_literal l X) ih) (alike-sym (with_literal l X ++ (E ∷ without_literal l X)) (E ∷ (with_literal l X ++ without_literal l X)) (alike-turned E (with_literal l X) (without_literal l X)))

pub without-same : (l : Literal) (D : Clause) → has l D ≡ false → without l D ≡ D
without-same l [] h = refl
without-same l (k ∷ D) h = let i : without l D ≡ D = without-same l D (grind arith) in let n : literal_eq k l ≡ false = grind arith in rw (n, i) refl

-- Leaving l out of each clause changes those with l alone.
pub each_without-alike : (l : Literal) (X : Matrix) → SameClauses (mapped (without l) (with_literal l X) ++ without_literal l X) (each_without l X)
each_without-alike l [] = alike-refl []
each_without-alike l (E ∷ X) = go (has l E) refl (each_without-alike l X)
  where
    go : (b : Bool) → has l E ≡ b → SameClauses (mapped (without l) (with_literal l X) ++ without_literal l X) (each_without l X) → SameClauses (mapped (without l) (cond b (E ∷ with_literal l X) (with_literal l X)) ++ cond b (without_literal l X) (E ∷ without_literal l X)) (without l E ∷ each_without l X)
    go true q ih = alike-cons (without l E) (mapped (without l) (with_literal l X) ++ without_literal l X) (each_without l X) ih
    go false q ih = subst (λ D. SameClauses (mapped (without l) (with_literal l X) ++ (E ∷ without_literal l X)) (D ∷ each_without l X)) (sym (without-same l E q))
        (alike-trans (mapped (without l) (with_literal l X) ++ (E ∷ without_literal l X)) (E ∷ (mapped (without l) (with_literal l X) ++ without_literal l X)) (E ∷ each_without l X)
        (alike-turned E (mapped (without l) (with_literal l X)) (without_literal l X))
        (alike-cons E (mapped (without l) (with_literal l X) ++ without_literal l X) (each_without l X) ih))

pub IsIn-each_without : (l : Literal) (X : Matrix) (D : Clause) → IsIn D (mapped (without l) X) → (E : Clause) × IsIn E X × (D ≡ without l E)
IsIn-each_without l [] D m = elim m [ ]
IsIn-each_without l (E ∷ X) D (inl e) = (E, inl refl, e)
IsIn-each_without l (E ∷ X) D (inr m) = let r : (E : Clause) × IsIn E X × (D ≡ without l E) = IsIn-each_without l X D m in (r.0, inr r.1, r.2)

pub without_literal-slot : (l : Literal) (N : Slots) (c : ℕ) (C : Clause) → has l C ≡ true → slot N c ≡ Some C → without_literal l (live N) ≡ without_literal l (others c N)
without_literal-slot l [] c C q h = grind arith
without_literal-slot l (o ∷ N) zero C q h = subst (λ p. without_literal l (put_first p (live N)) ≡ without_literal l (live N)) (sym h) (rw q refl)
without_literal-slot l (None ∷ N) (suc c) C q h = without_literal-slot l N c C q h
without_literal-slot l (Some D ∷ N) (suc c) C q h = ap (λ X. cond (has l D) X (D ∷ X)) (without_literal-slot l N c C q h)

pub without_literal-swap : (j l : Literal) (X : Matrix) → without_literal j (without_literal l X) ≡ without_literal l (without_literal j X)
without_literal-swap j l [] = refl
without_literal-swap j l (D ∷ X) = go (has j D) refl (has l D) refl (without_literal-swap j l X)
  where
    go : (a : Bool) → has j D ≡ a → (b : Bool) → has l D ≡ b → without_literal j (without_literal l X) ≡ without_literal l (without_literal j X)
        → without_literal j (cond b (without_literal l X) (D ∷ without_literal l X)) ≡ without_literal l (cond a (without_literal j X) (D ∷ without_literal j X))
    go true p true q ih = ih
    go true p false q ih = rw p ih
    go false p true q ih = rw q ih
    go false p false q ih = rw (p, q) (ap (λ Y. D ∷ Y) ih)

pub length-set_slot : (c : ℕ) (o : Option Clause) (N : Slots) → length (set_slot c o N) ≡ length N
length-set_slot c o [] = refl
length-set_slot zero o (p ∷ N) = refl
length-set_slot (suc c) o (p ∷ N) = ap suc (length-set_slot c o N)

pub slot-below : (N : Slots) (c : ℕ) (C : Clause) → slot N c ≡ Some C → c < length N
slot-below [] c C h = grind arith
slot-below (o ∷ N) zero C h = omega arith
slot-below (o ∷ N) (suc c) C h = let i : c < length N = slot-below N c C h in omega arith

pub live-gone : (N : Slots) (n : ℕ) → live (set_slot n None N) ≡ others n N
live-gone [] n = refl
live-gone (o ∷ N) zero = refl
live-gone (o ∷ N) (suc n) = ap (put_first o) (live-gone N n)

pub live-numbered : (X : Matrix) → live (numbered X) ≡ X
live-numbered [] = refl
live-numbered (C ∷ X) = ap (λ (Y : Matrix). C ∷ Y) (live-numbered X)
