use Rattle.std.proofs.Common.{◌≡◌, sym, ◌∙◌, slice_get, Some}
use Rattle.q_arena.specs.Prelude.{list_at}
use Rattle.q_prefix.proofs.VariableWalks.{get-next, get-none}
use Rattle.q_arena.proofs.ListNeighbours.{get-has}
use Rattle.q_prefix.proofs.prefix.next_of.Goals as goal

pub returns : goal.returns
returns c = λ i e.
    let vars = list_at c.args.order.now 0 in
    let at' : slice_get vars i ≡ Some c.in_ok-var.var = sym e ∙ c.in_ok-var.was in
    c.next.ensures 0 (get-has vars i c.in_ok-var.var at') ∙ get-next vars i c.in_ok-var.var (c.distinct.ensures.apart 0) at'

pub returns-in_err-var : goal.returns-in_err-var
returns-in_err-var c = λ i e. c.from_residual.ensures ∙ sym (get-none (list_at c.args.order.now 0) i (sym e ∙ c.in_err-var.was))
