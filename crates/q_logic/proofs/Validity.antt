-- Valid steps under larger limits, and the causes of steps that are not valid.
use Rattle.std.proofs.Common.{◌≡◌, ℕ, zero, suc, ◌*◌, ◌<◌, ◌≤◌, Bool, true, false, List, [], ◌∷◌, length, ◌⊎◌, inl, inr, arith, refl, not-suc-le-zero}
use Rattle.q_logic.specs.declared.limits.Limits.{Limits}
use Rattle.q_logic.specs.Prelude.{Matrix, PrenexFormula, is_bound, AreWithin, ValidSteps}
use Rattle.q_logic.specs.Steps.{ProofStep, add, delete, drop_literal, fresh, remove_variable, KeepsLimits, Valid, IsWrong, Cause, after, literals_in}

KeepsLimits-larger : (m n : Limits) (X : Matrix) → AreWithin m n → KeepsLimits m X → KeepsLimits n X
KeepsLimits-larger m n X w h =
    record {
      clauses = larger (length X) m.clauses n.clauses w.clauses h.clauses;
      lits = larger (literals_in X) m.lits n.lits w.lits h.lits;
    }
  where
    larger : (k a b : ℕ) → a ≤ b → k ≤ 4 * a → k ≤ 4 * b
    larger k a b g h = omega arith

pub Valid-larger : (m n : Limits) (F : PrenexFormula) (s : ProofStep) → AreWithin m n → Valid m F s →
    Valid n F s
Valid-larger m n F (add p C) w v = (v.0, v.1, KeepsLimits-larger m n (C ∷ F.matrix) w v.2)
Valid-larger m n F (delete p C) w v = v
Valid-larger m n F (drop_literal l C) w v = v
Valid-larger m n F (fresh v x) w h =
    record {
      absent = h.absent;
      positive = h.positive;
      within = higher v m.vars n.vars w.vars h.within;
      behind = h.behind;
    }
  where
    higher : (k a b : ℕ) → a ≤ b → k ≤ a → k ≤ b
    higher k a b g h = omega arith
Valid-larger m n F (remove_variable v) w h = h

pub ValidSteps-larger : (m n : Limits) (F : PrenexFormula) (ss : List ProofStep) (E : PrenexFormula) →
    AreWithin m n → ValidSteps m F ss E → ValidSteps n F ss E
ValidSteps-larger m n F [] E w h = h
ValidSteps-larger m n F (s ∷ ss) E w (v, r) =
    (Valid-larger m n F s w v, ValidSteps-larger m n (after F s) ss E w r)

-- Nothing is wrong with a valid step.
pub Valid-not_wrong : (m : Limits) (F : PrenexFormula) (s : ProofStep) (n : ℕ) → Valid m F s →
    IsWrong m F s n → ⊥
Valid-not_wrong m F (add p C) n v (inl (e, w)) = w v.0
Valid-not_wrong m F (add p C) n v (inr (inl (e, w))) = w v.1
Valid-not_wrong m F (add p C) n v (inr (inr (e, w))) = w v.2
Valid-not_wrong m F (delete p C) n v (inl (e, w)) = w v.0
Valid-not_wrong m F (delete p C) n v (inr (inl (e, w))) = w v.1
Valid-not_wrong m F (delete p C) n v (inr (inr (e, w))) = w v.2
Valid-not_wrong m F (drop_literal l C) n v (inl (e, w)) = w v.0
Valid-not_wrong m F (drop_literal l C) n v (inr (inl (e, w))) = w v.1
Valid-not_wrong m F (drop_literal l C) n v (inr (inr (e, w))) = w v.2
Valid-not_wrong m F (fresh v x) n h (e, w) = w h
Valid-not_wrong m F (remove_variable v) n h (inl (e, w)) =
    let z : is_bound F.prefix v ≡ true = h.0 in grind arith
Valid-not_wrong m F (remove_variable v) n h (inr (e, w)) = w h.1

pub Valid-no_cause : (m : Limits) (F : PrenexFormula) (s : ProofStep) (n : ℕ) → Valid m F s →
    Cause m F s n → ⊥
Valid-no_cause m F s n v c = Valid-not_wrong m F s n v c.applies

-- The least number for which something holds.
pub least-one : (W : ℕ → Type 0) (i j : ℕ) → W i → ((k : ℕ) → k < i → ¬ W k) → W j → ((k : ℕ) → k < j → ¬ W k) →
    i ≡ j
least-one W i j a f b g = go (order i j)
  where
    order : (i j : ℕ) → (i < j) ⊎ ((i ≡ j) ⊎ (j < i))
    order zero zero = inr (inl refl)
    order zero (suc j) = inl (omega arith)
    order (suc i) zero = inr (inr (omega arith))
    order (suc i) (suc j) =
        elim (order i j) [
          | inl h ↦ inl (omega arith)
          | inr (inl e) ↦ inr (inl (omega arith))
          | inr (inr h) ↦ inr (inr (omega arith))
        ]

    go : (i < j) ⊎ ((i ≡ j) ⊎ (j < i)) → i ≡ j
    go (inl h) = absurd (g i h a)
    go (inr (inl e)) = e
    go (inr (inr h)) = absurd (f j h b)

-- Where there is no least one, there is none.
pub no_least-none : (W : ℕ → Type 0) → ((n : ℕ) → W n → ((k : ℕ) → k < n → ¬ W k) → ⊥) → (n k : ℕ) → k < n → ¬ W k
no_least-none W none zero k h w = absurd (not-suc-le-zero h)
no_least-none W none (suc n) k h w = none k w (λ j g. no_least-none W none n j (omega arith))

-- There is one cause at most.
pub Cause-one : (m : Limits) (F : PrenexFormula) (s : ProofStep) (i j : ℕ) → Cause m F s i → Cause m F s j →
    i ≡ j
Cause-one m F s i j c d = least-one (IsWrong m F s) i j c.applies c.least d.applies d.least

-- Where there is no cause, nothing is wrong.
no_cause-right : (m : Limits) (F : PrenexFormula) (s : ProofStep) → ((n : ℕ) → ¬ Cause m F s n) → (n : ℕ) →
    ¬ IsWrong m F s n
no_cause-right m F s none n = no_least-none (IsWrong m F s) (λ i w l. none i (record { applies = w; least = l })) (suc n) n (omega arith)

right-valid : (m : Limits) (F : PrenexFormula) (s : ProofStep) → ((n : ℕ) → ¬ IsWrong m F s n) →
    ¬ (¬ Valid m F s)
right-valid m F (add p C) r n =
    r 2 (inl (refl, λ a. r 4 (inr (inl (refl, λ b. r 8 (inr (inr (refl, λ c. n (a, b, c)))))))))
right-valid m F (delete p C) r n =
    r 2 (inl (refl, λ a. r 3 (inr (inl (refl, λ b. r 4 (inr (inr (refl, λ c. n (a, b, c)))))))))
right-valid m F (drop_literal l C) r n =
    r 2 (inl (refl, λ a. r 3 (inr (inl (refl, λ b. r 5 (inr (inr (refl, λ c. n (a, b, c)))))))))
right-valid m F (fresh v x) r n = r 6 (refl, n)
right-valid m F (remove_variable v) r n = go (is_bound F.prefix v) refl
  where
    go : (b : Bool) → is_bound F.prefix v ≡ b → ⊥
    go true e = r 7 (inr (refl, λ a. n (e, a)))
    go false e = r 2 (inl (refl, e))

-- A step that is not valid has a cause.
pub not_valid-cause : (m : Limits) (F : PrenexFormula) (s : ProofStep) → ¬ Valid m F s →
    ¬ ((n : ℕ) → ¬ Cause m F s n)
not_valid-cause m F s v none = right-valid m F s (no_cause-right m F s none) v
