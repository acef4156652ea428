use Rattle.std.proofs.Common.{◌∙◌, sym}
use Rattle.std.proofs.Common.{length}
use Rattle.q_judge.specs.Scopes.{bounds_from}
use Rattle.q_judge.proofs.PrefixFacts.{binding-existential, no_binding-existential}
use Rattle.q_judge.proofs.scope.Scope.is_existential.Goals as goal

pub returns-in-Some : goal.returns-in-Some
returns-in-Some c =
    let i = c.self.inside in
    let e = sym c.binding_of.ensures ∙ c.in-Some.is in
    rw (← c.self.view_is) (c.is_exists.ensures ∙ sym (binding-existential (bounds_from i.bindings.items i.first (length i.bindings.items)) i.first i.bindings.items i.counts.items c.self.invariant c.args.var c.in-Some.binding e))

pub returns-in-None : goal.returns-in-None
returns-in-None c =
    let i = c.self.inside in
    let e = sym c.binding_of.ensures ∙ c.in-None.is in
    rw (← c.self.view_is) (sym (no_binding-existential (bounds_from i.bindings.items i.first (length i.bindings.items)) i.first i.bindings.items i.counts.items c.self.invariant c.args.var e))
