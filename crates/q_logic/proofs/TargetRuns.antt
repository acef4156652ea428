-- Each applicable target is a run to its result, and lowers the measure.
use Rattle.std.proofs.Common.{◌≤◌, ℕ, ◌+◌, List, ◌++◌, arith, ◌*◌}
use Rattle.q_logic.specs.declared.rule_bounds.Bounds.{Bounds}
use Rattle.q_logic.specs.Prelude.{Prefix, PrenexFormula, Distinct, IsFormula, Run, standard, IsInLimits, ProofStep, formula_of, Slots, live, Target, measure_of, swept, Fits, Applicable, change, result_of}
use Rattle.q_logic.proofs.JustifiedRuns.{reaches-append}
use Rattle.q_logic.proofs.SweepRun.{sweep_steps, reaches-sweep, sweep-modest}
use Rattle.q_logic.proofs.Heights.{modest-append, way-run}
use Rattle.q_logic.proofs.Ways.{ShortWay}
use Rattle.q_logic.proofs.Measures.{measure-sweep}
use Rattle.q_logic.proofs.LawsOf.{laws_of}

swept-way : (F G : PrenexFormula) → Distinct G.prefix → ShortWay F G → ShortWay F (swept G)
swept-way F G d (ss, r, m) = (
  ss ++ sweep_steps G,
  reaches-append F ss (sweep_steps G) G (swept G) r (reaches-sweep G.prefix G.matrix d),
  modest-append (3 * standard.clauses) (3 * standard.lits) 0 0 ss (sweep_steps G) m (sweep-modest G),
)

pub target-way : (B : Bounds) (P : Prefix) (N : Slots) (t : Target) → IsFormula (formula_of P (live N)) → IsInLimits standard (formula_of P (live N)) → Applicable B P N t → ShortWay (formula_of P (live N)) (result_of P N t)
target-way B P N t f l h = swept-way (formula_of P (live N)) (change P N t) ((laws_of t).distinct P N f.distinct) ((laws_of t).run B P N f l h)

-- The headline: from a formula within the limits, a run leads to the result of each applicable target.
pub target-run : (B : Bounds) (P : Prefix) (N : Slots) (t : Target) → IsFormula (formula_of P (live N)) → IsInLimits standard (formula_of P (live N)) → Applicable B P N t → (ss : List ProofStep) × Run (formula_of P (live N)) ss (result_of P N t)
target-run B P N t f l h = way-run (formula_of P (live N)) (result_of P N t) f l.clauses l.lits (target-way B P N t f l h)

pub target-falls : (B : Bounds) (P : Prefix) (N : Slots) (t : Target) → Fits B P N t → measure_of B (result_of P N t) + 1 ≤ measure_of B (formula_of P (live N))
target-falls B P N t h = both (measure_of B (swept (change P N t))) (measure_of B (change P N t)) (measure_of B (formula_of P (live N))) (measure-sweep B (change P N t)) ((laws_of t).falls B P N h)
  where
    both : (x y z : ℕ) → x ≤ y → y + 1 ≤ z → x + 1 ≤ z
    both x y z s f = omega arith
