use Rattle.std.proofs.Common.{◌≡◌, take, slice_get}
use Rattle.q_expand.proofs.MarkedVariables.{marked_vars}
use Rattle.q_expand.proofs.ordering.read_order.Given as goal

abbrev pub invariant-loop : goal.invariant-loop
invariant-loop l = record {
  read : l.order.items ≡ marked_vars l.dependents.vars (take l.counter l.kernel.prefix);
  next : l.at ≡ slice_get l.kernel.prefix l.counter;
}
