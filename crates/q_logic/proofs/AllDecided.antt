-- The plain programs decide where each target but Cover applies.
use Rattle.std.proofs.Common.{◌≡◌, ◌≢◌, ◌↔◌, ℕ, true, ◌&&◌, length}
use Rattle.std.proofs.lemmas.Bool.{and_from}
use Rattle.q_logic.specs.declared.rule_bounds.Bounds.{Bounds}
use Rattle.q_logic.specs.declared.limits.Limits.{Limits}
use Rattle.q_logic.specs.Prelude.{IsBelow, Clause, Prefix, IsIn, PrenexFormula, ArePairs, literals_in, standard, Slots, live, Target, cover, Applicable, change}
use Rattle.q_logic.specs.Sets.{at_most}
use Rattle.q_logic.specs.InLimits.{IsInLimits, is_in_limits, greatest}
use Rattle.q_logic.specs.Deciding.{fits, applicable}
use Rattle.q_logic.proofs.LiteralOrder.{pairs-ordered}
use Rattle.q_logic.proofs.Decided.{and-parts, at_most-is, is-at_most}
use Rattle.q_logic.proofs.LawsOf.{laws_of}

decided-in_limits : (m : Limits) (F : PrenexFormula) → (is_in_limits m F ≡ true) ↔ IsInLimits m F
decided-in_limits m F = (
  (λ h.
      let a : (at_most (greatest F.prefix) m.vars ≡ true) × ((at_most (length F.matrix) m.clauses && at_most (literals_in F.matrix) m.lits) ≡ true) = and-parts (at_most (greatest F.prefix) m.vars) (at_most (length F.matrix) m.clauses && at_most (literals_in F.matrix) m.lits) h in
      let b : (at_most (length F.matrix) m.clauses ≡ true) × (at_most (literals_in F.matrix) m.lits ≡ true) = and-parts (at_most (length F.matrix) m.clauses) (at_most (literals_in F.matrix) m.lits) a.1 in
      record { vars = at_most-is (greatest F.prefix) m.vars a.0; clauses = at_most-is (length F.matrix) m.clauses b.0; lits = at_most-is (literals_in F.matrix) m.lits b.1 }),
  λ h. and_from (at_most (greatest F.prefix) m.vars) (at_most (length F.matrix) m.clauses && at_most (literals_in F.matrix) m.lits) (is-at_most (greatest F.prefix) m.vars h.vars)
      (and_from (at_most (length F.matrix) m.clauses) (at_most (literals_in F.matrix) m.lits) (is-at_most (length F.matrix) m.clauses h.clauses) (is-at_most (literals_in F.matrix) m.lits h.lits)),
)

pub decided : (B : Bounds) (P : Prefix) (N : Slots) (t : Target) → ((D : Clause) → IsIn D (live N) → ArePairs IsBelow D) → ((c : ℕ) → t ≢ cover c) → (applicable B P N t ≡ true) ↔ Applicable B P N t
decided B P N t o n = (
  (λ h. let a : (fits B P N t ≡ true) × (is_in_limits standard (change P N t) ≡ true) = and-parts (fits B P N t) (is_in_limits standard (change P N t)) h in
      record { fits = ((laws_of t).decided B P N n (λ D m. pairs-ordered D (o D m))).0 a.0; in_limits = (decided-in_limits standard (change P N t)).0 a.1 }),
  λ h. and_from (fits B P N t) (is_in_limits standard (change P N t)) (((laws_of t).decided B P N n (λ D m. pairs-ordered D (o D m))).1 h.fits) ((decided-in_limits standard (change P N t)).1 h.in_limits),
)
