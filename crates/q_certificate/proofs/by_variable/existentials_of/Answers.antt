use Rattle.q_certificate.proofs.VariableTables.{existentials-exists, existentials-forall}
use Rattle.q_certificate.proofs.by_variable.existentials_of.Goals.{in-Forall, in-Exists+in_ok-put-in-Exists}
use Rattle.q_certificate.proofs.by_variable.existentials_of.Goals as goal

pub loop-bound-preserved : goal.loop-bound-preserved
loop-bound-preserved c = elim c.match-bound.branch [
  | in-Forall w ↦ rw (w.table-is) (existentials-forall c.args.prefix.now c.loop-bound.bound-index c.loop-bound.table.items c.requires c.loop-bound-test.true w.in-Forall.is c.loop-bound.invariant)
  | in-Exists+in_ok-put-in-Exists w ↦ rw (w.table-is) (existentials-exists c.args.prefix.now c.loop-bound.bound-index c.loop-bound.table.items w.put.new.row.items c.requires c.loop-bound-test.true w.in-Exists.is c.loop-bound.invariant w.in_ok-put-in-Exists.ensures.ok)
]
