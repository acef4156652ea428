-- What one turn of a loop leaves of the change that is still to come, and what is left at the end.
use Rattle.std.proofs.Common.{◌≡◌, ◌≤◌, ◌+◌, ℕ, zero, suc, Bool, true, false, cond, [], ◌∷◌, ◌⊎◌, inl, inr, arith, refl, sym, ap, ◌∙◌, subst, Option, Some, None, length, true≢false}
use Rattle.q_logic.specs.Prelude.{Literal, negation, literal_eq, Clause, Matrix, IsIn, without, Implied, has, with_literal, without_literal, each_without, OccursIn, Slots, slot, set_slot, live, others, put_first, size_of}
use Rattle.q_logic.proofs.Common.{literal_eq-sound, literal_eq-negation, without-same, has-IsIn, IsIn-has, live-slot, IsIn-without, without-IsIn, has_none, implied-hidden, implied-subsumed, folded, folded-set, IsIn-alike, live-gone}
use Rattle.q_logic.proofs.ClauseLoops.{has_not-without}
use Rattle.q_logic.proofs.HintedRuns.{live-changed}

-- A literal goes from one clause.
each_without-folded : (l : Literal) (X : Matrix) → each_without l X ≡ folded (λ D Y. without l D ∷ Y) X
each_without-folded l [] = refl
each_without-folded l (D ∷ X) = ap (λ (Y : Matrix). without l D ∷ Y) (each_without-folded l X)

pub turn-shorter : (l : Literal) (N : Slots) (c : ℕ) (C : Clause) → slot N c ≡ Some C → each_without l (live (set_slot c (Some (without l C)) N)) ≡ each_without l (live N)
turn-shorter l N c C s = each_without-folded l (live (set_slot c (Some (without l C)) N)) ∙ (folded-set (λ D Y. without l D ∷ Y) N c C (Some (without l C)) s (λ X. ap (λ (D : Clause). D ∷ X) (without-same l (without l C) (has_not-without l C))) ∙ sym (each_without-folded l (live N)))

-- Where no clause holds the literal.
pub each_without-none : (l : Literal) (X : Matrix) → (OccursIn l X → ⊥) → each_without l X ≡ X
each_without-none l [] h = refl
each_without-none l (D ∷ X) h = ap (λ (E : Clause). E ∷ each_without l X) (without-same l D (has_none l D (λ m. h (D, inl refl, m)))) ∙ ap (λ (Y : Matrix). D ∷ Y) (each_without-none l X (λ (E, i, m). h (E, inr i, m)))

pub without_literal-none : (l : Literal) (X : Matrix) → (OccursIn l X → ⊥) → without_literal l X ≡ X
without_literal-none l [] h = refl
without_literal-none l (D ∷ X) h = let n : has l D ≡ false = has_none l D (λ m. h (D, inl refl, m)) in rw n (ap (λ (Y : Matrix). D ∷ Y) (without_literal-none l X (λ (E, i, m). h (E, inr i, m))))

-- The negation of a literal goes first, or the clauses with the literal.
has-kept : (l : Literal) (C : Clause) → has l (without (negation l) C) ≡ has l C
has-kept l C = go (has l C) refl
  where
    go : (b : Bool) → has l C ≡ b → has l (without (negation l) C) ≡ b
    go true q = IsIn-has l (without (negation l) C) (IsIn-without (negation l) C l (has-IsIn l C q) (literal_eq-negation l))
    go false q = has_none l (without (negation l) C) (λ i. true≢false (sym (IsIn-has l C (without-IsIn (negation l) C l i)) ∙ q))

pub without-swap : (l : Literal) (X : Matrix) → without_literal l (each_without (negation l) X) ≡ each_without (negation l) (without_literal l X)
without-swap l [] = refl
without-swap l (D ∷ X) = rw (has-kept l D) (go (has l D) (without-swap l X))
  where
    go : (b : Bool) → without_literal l (each_without (negation l) X) ≡ each_without (negation l) (without_literal l X) → cond b (without_literal l (each_without (negation l) X)) (without (negation l) D ∷ without_literal l (each_without (negation l) X)) ≡ each_without (negation l) (cond b (without_literal l X) (D ∷ without_literal l X))
    go true i = i
    go false i = ap (λ (Y : Matrix). without (negation l) D ∷ Y) i

-- Neither leaves the literal's negation.
pub each_without-gone : (l : Literal) (X : Matrix) → OccursIn l (each_without l X) → ⊥
each_without-gone l [] (D, m, i) = m
each_without-gone l (E ∷ X) (D, inl e, i) = true≢false (sym (IsIn-has l (without l E) (subst (λ (x : Clause). IsIn l x) e i)) ∙ has_not-without l E)
each_without-gone l (E ∷ X) (D, inr m, i) = each_without-gone l X (D, m, i)

-- The clauses after a turn.
pub gone-in : (N : Slots) (c : ℕ) (D : Clause) → IsIn D (live (set_slot c None N)) → IsIn D (live N)
gone-in [] c D m = m
gone-in (None ∷ N) zero D m = m
gone-in (Some C ∷ N) zero D m = inr m
gone-in (None ∷ N) (suc c) D m = gone-in N c D m
gone-in (Some C ∷ N) (suc c) D (inl e) = inl e
gone-in (Some C ∷ N) (suc c) D (inr m) = inr (gone-in N c D m)

pub shorter-in : (l k : Literal) (N : Slots) (c : ℕ) (C : Clause) → slot N c ≡ Some C → OccursIn k (live (set_slot c (Some (without l C)) N)) → OccursIn k (live N)
shorter-in l k N c C e (D, m, i) = elim (IsIn-alike (live (set_slot c (Some (without l C)) N)) (without l C ∷ others c N) (live-changed N c C (without l C) e) D m) [
  | inl f ↦ (C, live-slot N c C e, without-IsIn l C k (subst (λ (x : Clause). IsIn k x) f i))
  | inr o ↦ (D, gone-in N c D (subst (λ (X : Matrix). IsIn D X) (sym (live-gone N c)) o), i)
]

-- The literals and clauses with a literal after it has left one.
pub with-shorter : (l : Literal) (N : Slots) (c : ℕ) (C : Clause) → slot N c ≡ Some C → has l C ≡ true → size_of (with_literal l (live (set_slot c (Some (without l C)) N))) + (length C + 1) ≡ size_of (with_literal l (live N))
with-shorter l [] c C e h = absurd (cc)
with-shorter l (o ∷ N) zero C e h = subst (λ (p : Option Clause). size_of (with_literal l (without l C ∷ live N)) + (length C + 1) ≡ size_of (with_literal l (put_first p (live N)))) (sym e) (rw (h, has_not-without l C) (omega arith))
with-shorter l (None ∷ N) (suc c) C e h = with-shorter l N c C e h
with-shorter l (Some D ∷ N) (suc c) C e h = go (has l D) (with-shorter l N c C e h)
  where
    M : Matrix
    M = live (set_slot c (Some (without l C)) N)

    go : (b : Bool) → size_of (with_literal l M) + (length C + 1) ≡ size_of (with_literal l (live N)) → size_of (cond b (D ∷ with_literal l M) (with_literal l M)) + (length C + 1) ≡ size_of (cond b (D ∷ with_literal l (live N)) (with_literal l (live N)))
    go true i = omega arith
    go false i = i

pub with-less : (l : Literal) (X : Matrix) → size_of (with_literal l X) ≤ size_of X
with-less l [] = omega arith
with-less l (D ∷ X) = go (has l D) (with-less l X)
  where
    go : (b : Bool) → size_of (with_literal l X) ≤ size_of X → size_of (cond b (D ∷ with_literal l X) (with_literal l X)) ≤ length D + 1 + size_of X
    go true i = omega arith
    go false i = omega arith

-- Beside a unit clause the negation of its literal may leave any clause.
pub unit-shorter : (X : Matrix) (l : Literal) (C : Clause) → IsIn (l ∷ []) X → IsIn C X → Implied X (without (negation l) C)
unit-shorter X l C u i = implied-hidden X (l ∷ []) (without (negation l) C) l u (inl refl) (λ j n d. elim n [ inl e ↦ absurd (d e) | inr x ↦ absurd x ])
    (implied-subsumed X C (negation l ∷ without (negation l) C) i (λ k j. go k j (literal_eq k (negation l)) refl))
  where
    go : (k : Literal) → IsIn k C → (b : Bool) → literal_eq k (negation l) ≡ b → (k ≡ negation l) ⊎ IsIn k (without (negation l) C)
    go k j true e = inl (literal_eq-sound k (negation l) e)
    go k j false e = inr (IsIn-without (negation l) C k j e)
