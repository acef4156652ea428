use Rattle.std.proofs.Common.{◌≡◌, sym, ◌∙◌, ap, slice_get, Some}
use Rattle.q_logic.specs.declared.formulas.Bound.{Bound}
use Rattle.q_arena.specs.Prelude.{list_at}
use Rattle.q_arena.proofs.ListNeighbours.{get-has}
use Rattle.q_prefix.proofs.ListedBounds.{bound-has, first-none, first-some}
use Rattle.q_prefix.proofs.VariableWalks.{bound-is}
use Rattle.q_prefix.proofs.prefix.Prefix.first.Goals as goal

pub bound-requires : goal.bound-requires
bound-requires c =
    let marks = c.self.inside.marks.items in
    let vars = list_at c.self.inside.order 0 in
    rw (← c.self.view_is) (bound-has marks vars c.in_ok-var.var (get-has vars 0 c.in_ok-var.var (sym c.first.ensures ∙ c.in_ok-var.was)))

pub returns : goal.returns
returns c =
    let marks = c.self.inside.marks.items in
    let vars = list_at c.self.inside.order 0 in
    let first : slice_get vars 0 ≡ Some c.in_ok-var.var = sym c.first.ensures ∙ c.in_ok-var.was in
    let q = rw (← c.self.view_is) at c.bound.ensures.quant in
    let b = bound-is marks vars c.in_ok-var.var c.bound.result (get-has vars 0 c.in_ok-var.var first) c.bound.ensures.var q in
    rw (← c.self.view_is) (ap (λ (x : Bound). Some x) b ∙ sym (first-some marks vars c.in_ok-var.var first))

pub returns-in_err-var : goal.returns-in_err-var
returns-in_err-var c =
    let marks = c.self.inside.marks.items in
    let vars = list_at c.self.inside.order 0 in
    rw (← c.self.view_is) (c.from_residual.ensures ∙ sym (first-none marks vars (sym c.first.ensures ∙ c.in_err-var.was)))
