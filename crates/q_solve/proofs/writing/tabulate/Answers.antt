use Rattle.std.proofs.Common.{◌-◌, drop, get_or, refl}
use Rattle.q_logic.specs.declared.formulas.Quant.TheVariants.{Exists}
use Rattle.q_logic.specs.declared.formulas.Bound.{Bound}
use Rattle.q_solve.proofs.CircuitTable.{entering-more}
use Rattle.q_solve.proofs.writing.tabulate.Goals as goal

pub loop-depth-preserved : goal.loop-depth-preserved
loop-depth-preserved c =
    let none : Bound = record { quant = Exists; var = 0 } in
    entering-more c.args.prefix.now c.args.row.now (drop c.loop-depth.at c.args.row.now) (drop c.take-taken.result.next c.args.row.now) c.loop-depth.depth (c.loop-depth.depth - 1) c.take-taken.result.lit
    (get_or c.args.prefix.now (c.loop-depth.depth - 1) none) none c.loop-depth.table.items c.enter.new.table.items
    c.requires.distinct c.loop-depth.invariant c.loop-depth-test.true refl c.take-taken.ensures refl c.in_ok-enter.ensures
