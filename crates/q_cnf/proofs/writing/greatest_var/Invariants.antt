use Rattle.std.proofs.Common.{◌≡◌, ◌≤◌, ◌<◌, ◌^◌, max, drop, take}
use Rattle.std.specs.List.{AllByRecursion}
use Rattle.q_dimacs.specs.Building.{greatest_in}
use Rattle.q_cnf.proofs.writing.greatest_var.Given as goal

abbrev pub invariant-loop-lit : goal.invariant-loop-lit
invariant-loop-lit l = record {
  value : max l.greatest (greatest_in (drop l.lit-index l.clause)) ≡ greatest_in l.clause;
  variables : AllByRecursion (λ k. (1 ≤ k.var) × (k.var < 2 ^ 31)) (take l.lit-index l.clause);
}
