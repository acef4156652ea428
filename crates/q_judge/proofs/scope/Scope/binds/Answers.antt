use Rattle.std.proofs.Common.{◌∙◌, ap}
use Rattle.std.specs.Option.{is_some}
use Rattle.std.proofs.Common.{length}
use Rattle.q_judge.specs.Scopes.{bounds_from}
use Rattle.q_judge.proofs.PrefixFacts.{scoped-binds}
use Rattle.q_judge.proofs.scope.Scope.binds.Goals as goal

pub returns : goal.returns
returns c =
    let i = c.self.inside in
    let e = c.binding_of.ensures in
    rw (← c.self.view_is) (c.is_some.ensures ∙ ap is_some e ∙ scoped-binds (bounds_from i.bindings.items i.first (length i.bindings.items)) i.first i.bindings.items i.counts.items c.self.invariant c.args.var)
