use Rattle.std.proofs.Common.{get_or}
use Rattle.std.proofs.lemmas.List.{take_more}
use Rattle.q_logic.specs.declared.formulas.Bound.{Bound}
use Rattle.q_logic.specs.declared.formulas.Quant.TheVariants.{Exists}
use Rattle.q_logic.proofs.Common.{distinct-at}
use Rattle.q_resolve.proofs.Scanned.{placed-more}
use Rattle.q_resolve.proofs.seats.seats_of.Goals as goal

pub loop-i-preserved : goal.loop-i-preserved
loop-i-preserved c =
    let P = c.args.prefix.now in
    let none : Bound = record { quant = Exists; var = 0 } in
    placed-more P c.loop-i.i (get_or P c.loop-i.i none) c.loop-i.seats.items c.put.new.row.items c.requires c.loop-i-test.true (take_more P c.loop-i.i none c.loop-i-test.true)
    (distinct-at P c.loop-i.i none c.requires c.loop-i-test.true) c.loop-i.invariant c.in_ok-put.ensures.ok
