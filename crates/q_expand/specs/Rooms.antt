-- Room for an expansion.
use Rattle.std.specs.Prelude.{◌≤◌, ◌+◌, ◌*◌, ℕ, length}
use Rattle.q_logic.specs.Prelude.{size_of, greatest, Clause, live}
use Rattle.q_kernel.specs.Prelude.{Seen, slots}
use Rattle.q_expand.specs.Dependents.{Walked, tally}

-- the literals and clauses of a walk
abbrev pub weight_of : Seen → Walked → ℕ
weight_of k r = tally (λ (C : Clause). length C + 1) (slots k) r.met

-- enough is spare for the expansion of the dependents, and for the sweep after it
pub record HasRoom (k : Seen) (r : Walked) : Type 0 where
  pub words : 6 * length r.vars + 2 * weight_of k r ≤ k.arena.spare_words
  pub ids : 2 * (length r.vars + length r.met) ≤ k.arena.spare_ids
  pub vars : length r.vars ≤ k.spare_vars
  pub greatest : greatest k.prefix + length r.vars ≤ k.greatest
  pub bytes : 16 * (19 * length r.vars + 18 * size_of (live (slots k)) + length k.prefix) ≤ k.spare_bytes
