use Rattle.std.proofs.Common.{refl}
use Rattle.std.proofs.Common.{length}
use Rattle.q_judge.specs.Scopes.{bounds_from}
use Rattle.q_judge.proofs.PrefixFacts.{scoped-outer}
use Rattle.q_judge.proofs.scope.Scope.outer_or_same.Goals as goal

pub returns : goal.returns
returns c =
    let i = c.self.inside in
    let a = rw (← c.self.view_is) at c.requires.first in
    let b = rw (← c.self.view_is) at c.requires.second in
    let law = scoped-outer (bounds_from i.bindings.items i.first (length i.bindings.items)) i.first i.bindings.items i.counts.items c.self.invariant c.args.a c.args.v a b in
    rw (← c.self.view_is) (rw (law, c.rank_of.ensures, c.rank_of-2.ensures) refl)
