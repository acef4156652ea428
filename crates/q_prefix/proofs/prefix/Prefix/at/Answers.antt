use Rattle.std.proofs.Common.{◌≡◌, ◌<◌, sym, ◌∙◌, ap, arith, ℕ, length, slice_get, Some}
use Rattle.q_logic.specs.declared.formulas.Bound.{Bound}
use Rattle.q_arena.specs.Prelude.{list_at}
use Rattle.q_prefix.specs.Order.{bounds_of}
use Rattle.q_prefix.proofs.ListedBounds.{bound-has}
use Rattle.q_prefix.proofs.VariableWalks.{get-bounds, get-within, bound-is}
use Rattle.q_arena.proofs.ListNeighbours.{get-has}
use Rattle.q_prefix.proofs.prefix.Prefix.at.Goals as goal

pub next_of-at-requires : goal.next_of-at-requires
next_of-at-requires c = λ v e. get-has (list_at c.self.inside.order 0) c.loop.counter v (sym c.loop.invariant ∙ e)

pub bound-requires : goal.bound-requires
bound-requires c =
    let marks = c.self.inside.marks.items in
    let vars = list_at c.self.inside.order 0 in
    let end : c.args.place ≡ c.loop.counter = omega (arith, c.loop-test.false, c.loop.auto.counter-end) in
    let here : slice_get vars c.args.place ≡ Some c.in-Some.var = ap (λ (k : ℕ). slice_get vars k) end ∙ sym c.loop.invariant ∙ c.in-Some.is in
    rw (← c.self.view_is) (bound-has marks vars c.in-Some.var (get-has vars c.args.place c.in-Some.var here))

pub returns-in-Some : goal.returns-in-Some
returns-in-Some c =
    let marks = c.self.inside.marks.items in
    let vars = list_at c.self.inside.order 0 in
    let end : c.args.place ≡ c.loop.counter = omega (arith, c.loop-test.false, c.loop.auto.counter-end) in
    let here : slice_get vars c.args.place ≡ Some c.in-Some.var = ap (λ (k : ℕ). slice_get vars k) end ∙ sym c.loop.invariant ∙ c.in-Some.is in
    let q = rw (← c.self.view_is) at c.bound.ensures.quant in
    let b = bound-is marks vars c.in-Some.var c.bound.result (get-has vars c.args.place c.in-Some.var here) c.bound.ensures.var q in
    rw (← c.self.view_is) (get-bounds marks vars c.args.place c.in-Some.var here ∙ ap (λ (x : Bound). Some x) (sym b))

pub returns-in-None : goal.returns-in-None
returns-in-None c =
    let marks = c.self.inside.marks.items in
    let vars = list_at c.self.inside.order 0 in
    let end : c.args.place ≡ c.loop.counter = omega (arith, c.loop-test.false, c.loop.auto.counter-end) in
    let within : c.args.place < length (bounds_of marks vars) = rw (← c.self.view_is) at c.requires in
    absurd (get-within marks vars c.args.place within (ap (λ (k : ℕ). slice_get vars k) end ∙ sym c.loop.invariant ∙ c.in-None.is))
