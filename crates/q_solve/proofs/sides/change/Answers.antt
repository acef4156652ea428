use Rattle.std.proofs.Common.{List, ℕ, sym, subst}
use Rattle.q_solve.specs.Counting.{CanShift, IsShifted}
use Rattle.q_solve.proofs.ValueChanges.{can-first, can-second, both-changed}
use Rattle.q_solve.proofs.sides.change.Goals as goal

pub shift-requires : goal.shift-requires
shift-requires c =
    subst (λ (r : List ℕ). CanShift c.args.counts.now r c.args.from.positive c.args.to.positive) (sym c.row.ensures)
    (can-first c.args.sides.now c.args.counts.now c.args.place c.args.from c.args.to c.requires)

pub shift-requires-2 : goal.shift-requires-2
shift-requires-2 c =
    subst (λ (r : List ℕ). CanShift c.shift.new.self r c.args.from.negative c.args.to.negative) (sym c.row-2.ensures)
    (can-second c.args.sides.now c.args.counts.now c.args.place c.args.from c.args.to c.requires c.shift.new.self
    (subst (λ (r : List ℕ). IsShifted c.args.counts.now c.shift.new.self r c.args.from.positive c.args.to.positive) c.row.ensures c.shift.ensures))

pub returns : goal.returns
returns c t =
    both-changed c.args.sides.now c.args.counts.now c.args.place c.args.from c.args.to t c.shift.new.self
    (subst (λ (r : List ℕ). IsShifted c.args.counts.now c.shift.new.self r c.args.from.positive c.args.to.positive) c.row.ensures c.shift.ensures)
    c.shift-2.new.self
    (subst (λ (r : List ℕ). IsShifted c.shift.new.self c.shift-2.new.self r c.args.from.negative c.args.to.negative) c.row-2.ensures c.shift-2.ensures)
