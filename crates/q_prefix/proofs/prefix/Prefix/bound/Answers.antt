use Rattle.std.proofs.Common.{◌≡◌, sym, ◌∙◌, ap, subst, arith, true, Some}
use Rattle.q_logic.specs.Prelude.{is_bound}
use Rattle.q_arena.specs.Prelude.{list_at}
use Rattle.q_prefix.specs.declared.marks.Mark.{Mark}
use Rattle.q_prefix.specs.Order.{FlatPrefix}
use Rattle.q_prefix.proofs.ListedBounds.{has-bound, quant-has}
use Rattle.q_prefix.proofs.PrefixChanges.{mark-below}
use Rattle.q_prefix.proofs.prefix.Prefix.bound.Goals as goal

pub overflow_cast-result : goal.overflow_cast-result
overflow_cast-result c =
    let marks = c.self.inside.marks.items in
    let vars = list_at c.self.inside.order 0 in
    let there = has-bound marks vars c.args.var (subst (λ (p : FlatPrefix). is_bound p.bounds c.args.var ≡ true) (sym c.self.view_is) c.requires) in
    omega (arith, mark-below marks c.args.var (c.self.invariant.bound c.args.var there), c.self.invariant.few)

pub returns-clause-quant : goal.returns-clause-quant
returns-clause-quant c =
    let marks = c.self.inside.marks.items in
    let vars = list_at c.self.inside.order 0 in
    let there = has-bound marks vars c.args.var (subst (λ (p : FlatPrefix). is_bound p.bounds c.args.var ≡ true) (sym c.self.view_is) c.requires) in
    rw (← c.self.view_is) (quant-has marks vars c.args.var there ∙ ap (λ (m : Mark). Some m.quant) (sym c.mark_of.ensures))
