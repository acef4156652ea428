use Rattle.q_herbrand.proofs.ChosenCircuits.{chosen-forall, chosen-exists}
use Rattle.q_herbrand.proofs.carrying.choose.Goals.{in-Forall, in-Exists+in_ok-put-in-Exists}
use Rattle.q_herbrand.proofs.carrying.choose.Goals as goal

pub loop-bound-preserved : goal.loop-bound-preserved
loop-bound-preserved c = elim c.match-bound.branch [
  | in-Forall w ↦
      rw (w.row-is) (chosen-forall c.args.turned.now c.loop-bound.bound-index c.args.draft.now c.args.settled.now
      c.loop-bound.row.items c.requires.distinct c.loop-bound-test.true w.in-Forall.is c.loop-bound.invariant)
  | in-Exists+in_ok-put-in-Exists w ↦
      rw (w.row-is) (chosen-exists c.args.turned.now c.loop-bound.bound-index c.args.draft.now c.args.settled.now
      c.loop-bound.row.items w.put.new.row.items w.settled_literal-lit.result c.requires.distinct
      c.loop-bound-test.true w.in-Exists.is c.loop-bound.invariant w.settled_literal-lit.ensures
      w.in_ok-put-in-Exists.ensures.ok)
]
