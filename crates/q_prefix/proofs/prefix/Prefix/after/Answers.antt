use Rattle.std.proofs.Common.{◌≡◌, sym, ◌∙◌, ap, subst, true, Some}
use Rattle.q_logic.specs.declared.formulas.Bound.{Bound}
use Rattle.q_logic.specs.Prelude.{is_bound}
use Rattle.q_arena.specs.Prelude.{list_at, following}
use Rattle.q_prefix.specs.Order.{FlatPrefix}
use Rattle.q_prefix.proofs.ListedBounds.{has-bound, bound-has, after-none, after-some}
use Rattle.q_prefix.proofs.VariableWalks.{bound-is}
use Rattle.q_arena.proofs.ListNeighbours.{following-has}
use Rattle.q_prefix.proofs.prefix.Prefix.after.Goals as goal

pub next-requires : goal.next-requires
next-requires c =
    let marks = c.self.inside.marks.items in
    let vars = list_at c.self.inside.order 0 in
    (0, has-bound marks vars c.args.var (subst (λ (p : FlatPrefix). is_bound p.bounds c.args.var ≡ true) (sym c.self.view_is) c.requires))

pub bound-requires : goal.bound-requires
bound-requires c =
    let marks = c.self.inside.marks.items in
    let vars = list_at c.self.inside.order 0 in
    let there = has-bound marks vars c.args.var (subst (λ (p : FlatPrefix). is_bound p.bounds c.args.var ≡ true) (sym c.self.view_is) c.requires) in
    rw (← c.self.view_is) (bound-has marks vars c.in_ok-next.next (following-has c.args.var c.in_ok-next.next vars (sym (c.next.ensures 0 there) ∙ c.in_ok-next.was)))

pub returns : goal.returns
returns c =
    let marks = c.self.inside.marks.items in
    let vars = list_at c.self.inside.order 0 in
    let there = has-bound marks vars c.args.var (subst (λ (p : FlatPrefix). is_bound p.bounds c.args.var ≡ true) (sym c.self.view_is) c.requires) in
    let next : following c.args.var vars ≡ Some c.in_ok-next.next = sym (c.next.ensures 0 there) ∙ c.in_ok-next.was in
    let q = rw (← c.self.view_is) at c.bound.ensures.quant in
    let b = bound-is marks vars c.in_ok-next.next c.bound.result (following-has c.args.var c.in_ok-next.next vars next) c.bound.ensures.var q in
    rw (← c.self.view_is) (ap (λ (x : Bound). Some x) b ∙ sym (after-some marks vars c.args.var c.in_ok-next.next next))

pub returns-in_err-next : goal.returns-in_err-next
returns-in_err-next c =
    let marks = c.self.inside.marks.items in
    let vars = list_at c.self.inside.order 0 in
    let there = has-bound marks vars c.args.var (subst (λ (p : FlatPrefix). is_bound p.bounds c.args.var ≡ true) (sym c.self.view_is) c.requires) in
    rw (← c.self.view_is) (c.from_residual.ensures ∙ sym (after-none marks vars c.args.var (sym (c.next.ensures 0 there) ∙ c.in_err-next.was)))
