-- What a search has seen.
use Rattle.std.proofs.Common.{◌≡◌, ◌≤◌, ◌<◌, ℕ, true, [], ◌∷◌, Option, None, refl, inl, inr, arith}
use Rattle.std.specs.Option.{is_some}
use Rattle.std.proofs.lemmas.Bool.{cases_lt}
use Rattle.q_logic.specs.declared.rule_bounds.Bounds.{Bounds}
use Rattle.q_logic.specs.Prelude.{greatest, IsProper, place, Fits}
use Rattle.q_logic.proofs.Common.{is_bound-greatest, none_or_some}
use Rattle.q_kernel.specs.Prelude.{Seen, slots, formula_in, IsLive}
use Rattle.q_kernel.proofs.TextCosts.{proper-var}
use Rattle.q_kernel.proofs.VariableCounts.{greatest-bound}
use Rattle.q_reduce.specs.declared.target.Target.{Target}
use Rattle.q_reduce.specs.declared.target.Target.TheVariants.{Tautology, Unit, Cut, Pure}
use Rattle.q_reduce.specs.Targets.{target_of}
use Rattle.q_rule.proofs.RuleSearch.{IsPassed, found-more, found-none}
use Rattle.q_rule.specs.Searching.{IsFound, IsAt}
use Rattle.q_reduce.specs.Searches.{IsOfClause, IsOfVariable, IsBetween}

pub greatest-small : (k : Seen) → IsProper (formula_in k) → greatest k.prefix < 2147483648
greatest-small k h = elim (none_or_some (greatest k.prefix)) [
  | inl e ↦ omega arith
  | inr m ↦ (proper-var (formula_in k) (greatest k.prefix) h (greatest-bound k.prefix m)).1
]

-- The clause of an id, by which no target was found.
pub record IsTried (k : Seen) (c : ℕ) : Type 0 where
  pub none : IsFound target_of k (IsOfClause c) None

pub tried-behind : (k : Seen) (start : ℕ) → greatest k.prefix < start → ((c : ℕ) → (start ≤ c) × IsLive (slots k) c → IsTried k c) → IsFound target_of k (λ t. start ≤ place (target_of t)) None
tried-behind k start g h = found-none target_of k (λ t. start ≤ place (target_of t)) none
  where
    none : (t : Target) → start ≤ place (target_of t) → (B : Bounds) → Fits B k.prefix (slots k) (target_of t) → ⊥
    none (Tautology c) l B f = (h c (l, record { there = (f.0, f.1) })).none.none refl (Tautology c) refl B f
    none (Unit c) l B f = (h c (l, record { there = (f.0 ∷ [], f.1) })).none.none refl (Unit c) refl B f
    none (Cut c j) l B f = (h c (l, record { there = (f.0, f.1) })).none.none refl (Cut c j) refl B f
    none (Pure j) l B f = let m : j.var ≤ greatest k.prefix = is_bound-greatest k.prefix j.var f.0 in omega arith

pub passed-between : (k : Seen) (from end at' : ℕ) → end ≤ at' → IsPassed target_of k from at' → IsFound target_of k (IsBetween from end) None
passed-between k from end at' l d = found-none target_of k (IsBetween from end) (λ t q B f. d.none t q.order (let h = q.before in omega arith) B f)

-- Nothing before a number, and what is found behind it.
pub found-behind : (k : Seen) (from end start : ℕ) (o : Option Target) → from ≤ start → ((n : ℕ) → from ≤ n → end ≤ n → start ≤ n) → IsFound target_of k (IsBetween from end) None → IsFound target_of k (λ t. start ≤ place (target_of t)) o → IsFound target_of k (λ t. from ≤ place (target_of t)) o
found-behind k from end start o up least a b = record {
  some = λ t e. let r = b.some t e in ((let h = r.0 in omega arith), r.1);
  none = λ e t l B f. elim (cases_lt (place (target_of t)) end) [
    | inl low ↦ a.none refl t (record { order = l; before = low }) B f
    | inr high ↦ b.none e t (least (place (target_of t)) l high) B f
  ];
}

-- At one place there is a clause and a variable.
pub found-at : (k : Seen) (p : ℕ) (o : Option Target) → IsFound target_of k (IsOfClause p) None → IsFound target_of k (IsOfVariable p) o → IsFound target_of k (IsAt target_of p) o
found-at k p o a b = record {
  some = λ t e. let r = b.some t e in (variable t r.0, r.1);
  none = λ e t q B f. neither e t q B f;
}
  where
    variable : (t : Target) → IsOfVariable p t → IsAt target_of p t
    variable (Tautology c) q = absurd q
    variable (Unit c) q = absurd q
    variable (Cut c l) q = absurd q
    variable (Pure l) q = q

    neither : o ≡ None → (t : Target) → IsAt target_of p t → (B : Bounds) → Fits B k.prefix (slots k) (target_of t) → ⊥
    neither e (Tautology c) q B f = a.none refl (Tautology c) q B f
    neither e (Unit c) q B f = a.none refl (Unit c) q B f
    neither e (Cut c l) q B f = a.none refl (Cut c l) q B f
    neither e (Pure l) q B f = b.none e (Pure l) q B f

pub of-clause-place : (p : ℕ) (t : Target) → IsOfClause p t → IsAt target_of p t
of-clause-place p (Tautology c) q = q
of-clause-place p (Unit c) q = q
of-clause-place p (Cut c l) q = q
of-clause-place p (Pure l) q = absurd q

pub found-clause : (k : Seen) (p : ℕ) (o : Option Target) → is_some o ≡ true → IsFound target_of k (IsOfClause p) o → IsFound target_of k (IsAt target_of p) o
found-clause k p o s a = found-more target_of k (IsOfClause p) (IsAt target_of p) o s (of-clause-place p) a
