-- What holds of each target, whatever the rule: a record that a file of `RuleLaws` fills for each rule.
use Rattle.std.proofs.Common.{◌≡◌, ◌≢◌, ◌↔◌, ◌≤◌, ◌+◌, ℕ, true, false, [], ap, ◌∙◌, sym, subst, arith, Option, Some}
use Rattle.q_logic.specs.declared.rule_bounds.Bounds.{Bounds}
use Rattle.q_logic.specs.Prelude.{Literal, Clause, Matrix, Prefix, IsIn, PrenexFormula, Distinct, IsFormula, standard, IsInLimits, measure_of, Slots, slot, live, others, formula_of, Target, cover, Fits, Applicable, change, shortened}
use Rattle.q_logic.specs.Deciding.{fits}
use Rattle.q_logic.proofs.NumberedClauses.{live-slot}
use Rattle.q_logic.proofs.Ways.{ShortWay}
use Rattle.q_logic.proofs.InOrder.{AreInOrder}
use Rattle.q_logic.proofs.JoinedDecided.{AllOrdered}
pub mod Tautology
pub mod Unit
pub mod Cut
pub mod Pure
pub mod Subsumed
pub mod Strengthen
pub mod Merge
pub mod Blocked
pub mod BlockedForall
pub mod Cover
pub mod Eliminate
pub mod ExpandUniversal

-- All clauses are empty.
abbrev pub OnlyEmpty : Slots → Type 0
OnlyEmpty N = (C : Clause) → IsIn C (live N) → C ≡ []

-- No clause stands beside another one.
abbrev pub NoOthers : Slots → Type 0
NoOthers N = (c : ℕ) (C D : Clause) → slot N c ≡ Some C → IsIn D (others c N) → ⊥

-- The same clauses under two numberings: what stands at a number in M stands at one in N, beside the same others.
pub record Renumbering (M N : Slots) : Type 0 where
  pub number : ℕ → ℕ
  pub same : live M ≡ live N
  pub there : (c : ℕ) (C : Clause) → slot M c ≡ Some C → slot N (number c) ≡ Some C
  pub beside : (c : ℕ) (C : Clause) → slot M c ≡ Some C → others c M ≡ others (number c) N
  pub apart : (c d : ℕ) (C D : Clause) → slot M c ≡ Some C → slot M d ≡ Some D → c ≢ d → number c ≢ number d

-- A target that fits under one numbering, under the other.
pub record Renumbered (B : Bounds) (P : Prefix) (M N : Slots) (number : ℕ → ℕ) (t : Target) : Type 0 where
  pub target : Target
  pub fits : Fits B P N target
  pub changed : change P M t ≡ change P N target
  pub kept : ((c : ℕ) → number c ≡ c) → target ≡ t

pub record Laws (t : Target) : Type 0 where
  -- a run leads to the change, and adds at most three times the limits
  pub run : (B : Bounds) (P : Prefix) (N : Slots) → IsFormula (formula_of P (live N)) → IsInLimits standard (formula_of P (live N)) → Applicable B P N t → ShortWay (formula_of P (live N)) (change P N t)
  -- no variable is bound twice
  pub distinct : (P : Prefix) (N : Slots) → Distinct P → Distinct (change P N t).prefix
  -- the measure falls
  pub falls : (B : Bounds) (P : Prefix) (N : Slots) → Fits B P N t → measure_of B (change P N t) + 1 ≤ measure_of B (formula_of P (live N))
  -- clauses stay in literal order
  pub order : (P : Prefix) (N : Slots) → AreInOrder (live N) → AreInOrder (change P N t).matrix
  -- the numbers of the clauses do not matter
  pub renumbered : (B : Bounds) (P : Prefix) (M N : Slots) (r : Renumbering M N) → Fits B P M t → Renumbered B P M N r.number t
  -- over no variables, at most one empty clause is left alone
  pub nothing : (B : Bounds) (N : Slots) → OnlyEmpty N → NoOthers N → Fits B [] N t → ⊥
  -- the plain program decides the condition (of Cover it is not known)
  pub decided : (B : Bounds) (P : Prefix) (N : Slots) → ((c : ℕ) → t ≢ cover c) → AllOrdered (live N) → (fits B P N t ≡ true) ↔ Fits B P N t

-- What several rules say of these.
pub empty-none : (N : Slots) (c : ℕ) (C : Clause) (k : Literal) → OnlyEmpty N → slot N c ≡ Some C → IsIn k C → ⊥
empty-none N c C k o e m = elim (subst (IsIn k) (o C (live-slot N c C e)) m) [ ]

pub false_true : false ≡ true → ⊥
false_true e = grind arith

pub shortened-elsewhere : (P : Prefix) (M N : Slots) (r : Renumbering M N) (l : Literal) (c : ℕ) (C : Clause) → slot M c ≡ Some C → formula_of P (shortened l (slot M c) (others c M)) ≡ formula_of P (shortened l (slot N (r.number c)) (others (r.number c) N))
shortened-elsewhere P M N r l c C e =
    ap (λ (o : Option Clause). formula_of P (shortened l o (others c M))) (e ∙ sym (r.there c C e)) ∙
    ap (λ (X : Matrix). formula_of P (shortened l (slot N (r.number c)) X)) (r.beside c C e)
