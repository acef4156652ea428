use Rattle.std.proofs.Common.{◌≡◌, ◌++◌, ◌-◌, length}
use Rattle.q_judge.specs.Scopes.{bounds_from}
use Rattle.q_judge.proofs.scope.Scope.bounds.Given as goal

abbrev pub invariant-loop : goal.invariant-loop
invariant-loop l = l.bounds.items ++ bounds_from l.self-inside.bindings.items l.at (length l.self-inside.bindings.items - l.counter) ≡ bounds_from l.self-inside.bindings.items l.self-inside.first (length l.self-inside.bindings.items)
