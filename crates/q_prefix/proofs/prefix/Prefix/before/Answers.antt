use Rattle.std.proofs.Common.{◌≡◌, sym, ◌∙◌, ap, subst, true, Some}
use Rattle.std.proofs.lemmas.Option.{same_Some}
use Rattle.q_logic.specs.declared.formulas.Bound.{Bound}
use Rattle.q_logic.specs.Prelude.{is_bound}
use Rattle.q_arena.specs.Prelude.{list_at, preceding}
use Rattle.q_prefix.specs.Order.{FlatPrefix}
use Rattle.q_prefix.proofs.ListedBounds.{has-bound, bound-has}
use Rattle.q_prefix.proofs.PrecedingVariables.{before-some, before-none, before-has}
use Rattle.q_prefix.proofs.VariableWalks.{bound-is}
use Rattle.q_prefix.proofs.prefix.Prefix.before.Goals as goal

pub prev-requires : goal.prev-requires
prev-requires c =
    let marks = c.self.inside.marks.items in
    let vars = list_at c.self.inside.order 0 in
    (0, has-bound marks vars c.args.var (subst (λ (p : FlatPrefix). is_bound p.bounds c.args.var ≡ true) (sym c.self.view_is) c.requires))

pub bound-requires : goal.bound-requires
bound-requires c =
    let marks = c.self.inside.marks.items in
    let vars = list_at c.self.inside.order 0 in
    let there = has-bound marks vars c.args.var (subst (λ (p : FlatPrefix). is_bound p.bounds c.args.var ≡ true) (sym c.self.view_is) c.requires) in
    rw (← c.self.view_is) (bound-has marks vars c.in_ok-before.before (before-has vars c.args.var c.in_ok-before.before (sym (c.prev.ensures 0 there) ∙ c.in_ok-before.was)))

pub returns-clause-value : goal.returns-clause-value
returns-clause-value c =
    let marks = c.self.inside.marks.items in
    let vars = list_at c.self.inside.order 0 in
    let there = has-bound marks vars c.args.var (subst (λ (p : FlatPrefix). is_bound p.bounds c.args.var ≡ true) (sym c.self.view_is) c.requires) in
    let before : preceding c.args.var vars ≡ Some c.in_ok-before.before = sym (c.prev.ensures 0 there) ∙ c.in_ok-before.was in
    let q = rw (← c.self.view_is) at c.bound.ensures.quant in
    let b = bound-is marks vars c.in_ok-before.before c.bound.result (before-has vars c.args.var c.in_ok-before.before before) c.bound.ensures.var q in
    rw (← c.self.view_is) (ap (λ (x : Bound). Some x) b ∙ sym (before-some marks vars c.args.var c.in_ok-before.before before))

pub returns-clause-there : goal.returns-clause-there
returns-clause-there c b e =
    let marks = c.self.inside.marks.items in
    let vars = list_at c.self.inside.order 0 in
    let there = has-bound marks vars c.args.var (subst (λ (p : FlatPrefix). is_bound p.bounds c.args.var ≡ true) (sym c.self.view_is) c.requires) in
    let before : preceding c.args.var vars ≡ Some c.in_ok-before.before = sym (c.prev.ensures 0 there) ∙ c.in_ok-before.was in
    let q = c.bound.ensures.var in
    let same = same_Some c.bound.result b e in
    rw (← c.self.view_is) (rw (← same, q) (bound-has marks vars c.in_ok-before.before (before-has vars c.args.var c.in_ok-before.before before)))

pub returns-in_err-before-clause-value : goal.returns-in_err-before-clause-value
returns-in_err-before-clause-value c =
    let marks = c.self.inside.marks.items in
    let vars = list_at c.self.inside.order 0 in
    let there = has-bound marks vars c.args.var (subst (λ (p : FlatPrefix). is_bound p.bounds c.args.var ≡ true) (sym c.self.view_is) c.requires) in
    rw (← c.self.view_is) (c.from_residual.ensures ∙ sym (before-none marks vars c.args.var (sym (c.prev.ensures 0 there) ∙ c.in_err-before.was)))
