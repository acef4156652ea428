use Rattle.std.proofs.Common.{ℕ, Contains}
use Rattle.q_kernel.specs.Lists.{Has}
use Rattle.q_expand.specs.Dependents.{AreDependents, IsLarger, IsWithin}
use Rattle.q_expand.proofs.dependents.Dependents.visit.Given as goal

abbrev pub invariant-loop-c : goal.invariant-loop-c
invariant-loop-c l = record {
  met : (d : ℕ) → Contains l.yielded d → Has l.self.met d;
  dependents : AreDependents l.kernel l.u.var l.self;
  within : IsWithin l.room l.self;
  larger : IsLarger l.fn.self l.self;
}
