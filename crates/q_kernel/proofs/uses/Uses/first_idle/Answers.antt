use Rattle.std.proofs.Common.{◌<◌, sym, ◌∙◌, subst, arith, ℕ}
use Rattle.std.proofs.lemmas.Option.{same_Some}
use Rattle.q_arena.specs.Prelude.{Has, list_at}
use Rattle.q_arena.proofs.ListNeighbours.{get-has}
use Rattle.q_kernel.proofs.uses.Uses.first_idle.Goals as goal

pub overflow_cast-result : goal.overflow_cast-result
overflow_cast-result c =
    let there : Has (list_at c.self.inside.rings 0) c.in_ok-var.var = get-has (list_at c.self.inside.rings 0) 0 c.in_ok-var.var (sym c.first.ensures ∙ c.in_ok-var.was) in
    let small : c.in_ok-var.var < 4294967296 = c.self.invariant.small 0 c.in_ok-var.var there in
    omega arith

pub returns-clause-there : goal.returns-clause-there
returns-clause-there c = λ v e.
    let there : Has (list_at c.self.inside.rings 0) c.in_ok-var.var = get-has (list_at c.self.inside.rings 0) 0 c.in_ok-var.var (sym c.first.ensures ∙ c.in_ok-var.was) in
    rw (← c.self.view_is) (subst (λ (k : ℕ). Has (list_at c.self.inside.rings 0) k) (same_Some c.in_ok-var.var v e) there)
