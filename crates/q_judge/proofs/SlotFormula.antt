-- What stays true of a formula in slots when a clause or a variable comes or goes: it is a formula, and its
-- clauses and literals are counted.
use Rattle.std.specs.List.{AllByRecursion}
use Rattle.std.proofs.Common.{cond, Bool, [], ◌≡◌, ◌+◌, ◌-◌, ℕ, ◌∷◌, None, Some, inl, inr, arith, subst, set, length, true, false}
use Rattle.q_logic.specs.Prelude.{Literal, IsBelow, literal_eq, Clause, Matrix, Prefix, IsIn, Slots, without, is_bound, is_existential, Closed, Within, IsAbsent, fresh, remove_variable, insert_after, removed_from}
use Rattle.q_logic.proofs.Common.{IsIn-alike, without-shorter, after-formula, without-IsIn}
use Rattle.q_prop.specs.Slots.{filled, Holds, IsPut}
use Rattle.q_judge.specs.Tried.{IsCounted}
use Rattle.q_judge.proofs.SlotCollections.{held-in, put-same, put-sizes, left-in, left-sizes}
use Rattle.q_judge.proofs.TriedSteps.{of, drop-sizes}

closed-put : (P : Prefix) (s t : Slots) (n : ℕ) (C : Clause) → Closed P (filled s) → Within P C → IsPut s n C t → Closed P (filled t)
closed-put P s t n C closed w p D m = elim (IsIn-alike (filled t) (C ∷ filled s) (put-same s t n C p) D m) [
  | inl e ↦ (λ k i. w k (subst (λ (E : Clause). IsIn k E) e i))
  | inr r ↦ closed D r
]

pub counted-put : (P : Prefix) (s t : Slots) (n : ℕ) (C : Clause) (clauses lits : ℕ) → IsCounted (of P (filled s)) clauses lits → Within P C → IsPut s n C t → IsCounted (of P (filled t)) (clauses + 1) (lits + length C)
counted-put P s t n C clauses lits i w p =
    let z = put-sizes s t n C p in
    record {
      formula = record { distinct = i.formula.distinct; closed = closed-put P s t n C i.formula.closed w p };
      clauses_are = omega (arith, z.0, i.clauses_are);
      lits_are = omega (arith, z.1, i.lits_are);
    }

pub counted-left : (P : Prefix) (s : Slots) (n : ℕ) (C : Clause) (clauses lits : ℕ) → IsCounted (of P (filled s)) clauses lits → Holds s n C → IsCounted (of P (filled (set s n None))) (clauses - 1) (lits - length C)
counted-left P s n C clauses lits i h =
    let z = left-sizes s n C h in
    record {
      formula = record { distinct = i.formula.distinct; closed = λ D m. i.formula.closed D (left-in s (Some n) D m) };
      clauses_are = omega (arith, z.0, i.clauses_are);
      lits_are = omega (arith, z.1, i.lits_are);
    }

-- a clause of the formula, and so a part of it, is over the prefix
pub within-left : (P : Prefix) (s : Slots) (n : ℕ) (l : Literal) (C : Clause) → Closed P (filled s) → Holds s n C → Within P (without l C)
within-left P s n l C closed h k m = closed C (held-in s n C h) k (without-IsIn l C k m)

pub counted-shrunk : (P : Prefix) (s t : Slots) (n k : ℕ) (l : Literal) (C : Clause) (clauses lits : ℕ) → IsCounted (of P (filled s)) clauses lits → Holds s n C → IsPut s k (without l C) t → IsCounted (of P (filled (set t n None))) clauses (lits - (length C - length (without l C)))
counted-shrunk P s t n k l C clauses lits i h p =
    let z = drop-sizes s t n k l C h p in
    let y = without-shorter l C in
    let w = within-left P s n l C i.formula.closed h in
    record {
      formula = record {
        distinct = i.formula.distinct;
        closed = λ D m. closed-put P s t k (without l C) i.formula.closed w p D (left-in t (Some n) D m);
      };
      clauses_are = omega (arith, z.0, i.clauses_are);
      lits_are = omega (arith, z.1, y, i.lits_are);
    }

pub counted-inserted : (P : Prefix) (X : Matrix) (w v clauses lits : ℕ) → is_bound P v ≡ false → is_existential P w ≡ true → IsCounted (of P X) clauses lits → IsCounted (of (insert_after w v P) X) clauses lits
counted-inserted P X w v clauses lits a e i = record {
  formula = after-formula (of P X) (fresh v w) i.formula (a, e);
  clauses_are = i.clauses_are;
  lits_are = i.lits_are;
}

pub counted-removed : (P : Prefix) (X : Matrix) (v clauses lits : ℕ) → is_bound P v ≡ true → IsAbsent X v → IsCounted (of P X) clauses lits → IsCounted (of (removed_from v P) X) clauses lits
counted-removed P X v clauses lits b a i = record {
  formula = after-formula (of P X) (remove_variable v) i.formula (b, a);
  clauses_are = i.clauses_are;
  lits_are = i.lits_are;
}

all-without : (l j : Literal) (C : Clause) → AllByRecursion (IsBelow j) C → AllByRecursion (IsBelow j) (without l C)
all-without l j [] a = a
all-without l j (k ∷ C) a = go (literal_eq k l) (all-without l j C a.1)
  where
    go : (b : Bool) → AllByRecursion (IsBelow j) (without l C) → AllByRecursion (IsBelow j) (cond b (without l C) (k ∷ without l C))
    go true i = i
    go false i = (a.0, i)
