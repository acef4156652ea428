use Rattle.std.proofs.Common.{None}
use Rattle.q_judge.specs.Scopes.{first_or}
use Rattle.q_judge.proofs.PrefixRemoval.{scoped-bounds, scoped-view}
use Rattle.q_judge.proofs.scope.Scope.start.Goals as goal

pub invariant_of-result : goal.invariant_of-result
invariant_of-result c =
    let s = c.in_ok-bindings.field-0 in
    let P = c.args.prefix.now in
    rw c.first_of-first.ensures (scoped-view P (first_or P None) s.bindings.items s.counts.items c.in_ok-bindings.ensures.scoped)

pub returns : goal.returns
returns c =
    let s = c.in_ok-bindings.field-0 in
    let P = c.args.prefix.now in
    rw c.first_of-first.ensures (scoped-bounds P (first_or P None) s.bindings.items s.counts.items c.in_ok-bindings.ensures.scoped)
