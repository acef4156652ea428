use Rattle.std.proofs.Common.{◌≡◌, ◌+◌, ◌++◌, ◌∷◌, [], take, sym, subst, ◌∙◌, List}
use Rattle.q_logic.specs.Reversals.{Reversal}
use Rattle.q_herbrand.specs.Entries.{entry_of}
use Rattle.q_herbrand.specs.Inputs.{AreFreshAdded}
use Rattle.q_herbrand.proofs.InputEntries.{take-mapped, fresh-other, fresh-more}
use Rattle.q_herbrand.proofs.inputs.add_fresh.Goals.{in-Some+in_ok-add-in-Some, in-None}
use Rattle.q_herbrand.proofs.inputs.add_fresh.Goals as goal

pub loop-at-preserved : goal.loop-at-preserved
loop-at-preserved c =
    let e : take (c.loop-at.at + 1) c.args.reversals.now ≡ take c.loop-at.at c.args.reversals.now ++ entry_of
    c.index-entries-at.result ∷ [] = take-mapped entry_of c.as_slice-entries.result.now c.args.reversals.now
    c.loop-at.at c.index-entries-at.result c.as_slice-entries.ensures c.loop-at-test.true
    c.index-entries-at.is in
    subst (λ (rs : List Reversal). AreFreshAdded c.args.aig.now c.match-fresh_of.aig c.args.inputs.now.items
    c.match-fresh_of.inputs.items rs) (sym e) (elim c.match-fresh_of.branch [
      | in-Some+in_ok-add-in-Some w ↦
          rw (w.aig-is, w.inputs-is) (fresh-more c.args.aig.now c.loop-at.aig w.add.new.aig c.args.inputs.now.items
          c.loop-at.inputs.items w.add.new.inputs.items (take c.loop-at.at c.args.reversals.now)
          (entry_of c.index-entries-at.result) w.in-Some.var (sym c.fresh_of.ensures
          ∙ w.in-Some.is) c.loop-at.invariant w.in_ok-add-in-Some.ensures)
      | in-None w ↦
          rw (w.aig-is, w.inputs-is) (fresh-other c.args.aig.now c.loop-at.aig c.args.inputs.now.items
          c.loop-at.inputs.items (take c.loop-at.at c.args.reversals.now) (entry_of c.index-entries-at.result)
          (sym c.fresh_of.ensures ∙ w.in-None.is) c.loop-at.invariant)
    ])
