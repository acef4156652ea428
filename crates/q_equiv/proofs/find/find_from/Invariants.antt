use Rattle.std.proofs.Common.{◌≤◌, ◌<◌}
use Rattle.q_logic.specs.declared.rule_bounds.Bounds.{Bounds}
use Rattle.q_logic.specs.Prelude.{live, place, Fits}
use Rattle.q_kernel.specs.Prelude.{slots}
use Rattle.q_equiv.specs.declared.target.Target.{Target}
use Rattle.q_equiv.specs.Targets.{target_of}
use Rattle.q_equiv.specs.Walks.{NeverRise}
use Rattle.q_equiv.proofs.find.find_from.Given as goal

abbrev pub invariant-loop-var : goal.invariant-loop-var
invariant-loop-var l = record {
  falling : NeverRise l.walks.levels (live (slots l.kernel));
  none : (t : Target) → l.from ≤ place (target_of t) → place (target_of t) < l.var → (B : Bounds) → Fits B l.kernel.prefix (slots l.kernel) (target_of t) → ⊥;
}
