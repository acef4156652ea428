use Rattle.std.proofs.Common.{◌≡◌, ◌+◌, ◌++◌, ◌∷◌, [], get_or, take, sym, subst, ◌∙◌}
use Rattle.std.proofs.lemmas.List.{take_more}
use Rattle.q_logic.specs.Prelude.{Prefix}
use Rattle.q_certificate.proofs.PrefixInputs.{no_bound}
use Rattle.q_herbrand.specs.Inputs.{AreOpened}
use Rattle.q_herbrand.proofs.InputEntries.{opened-other, opened-more}
use Rattle.q_herbrand.proofs.inputs.open.Goals.{then-existential+in_ok-add, else-existential}
use Rattle.q_herbrand.proofs.inputs.open.Goals as goal

pub loop-bound-preserved : goal.loop-bound-preserved
loop-bound-preserved c =
    let e : take (c.loop-bound.bound-index + 1) c.args.prefix.now ≡ take c.loop-bound.bound-index
    c.args.prefix.now ++ get_or c.args.prefix.now c.loop-bound.bound-index no_bound ∷ [] =
    take_more c.args.prefix.now c.loop-bound.bound-index no_bound c.loop-bound-test.true in
    subst (λ (P : Prefix). AreOpened c.if-existential.aig c.if-existential.inputs.items P []) (sym e)
    (elim c.if-existential.branch [
      | then-existential+in_ok-add w ↦
          rw (w.aig-is, w.inputs-is) (opened-more c.loop-bound.aig w.add.new.aig c.loop-bound.inputs.items
          w.add.new.inputs.items (take c.loop-bound.bound-index c.args.prefix.now)
          (get_or c.args.prefix.now c.loop-bound.bound-index no_bound) w.in_ok-add.ensures
          c.loop-bound.invariant)
      | else-existential w ↦
          rw (w.aig-is, w.inputs-is) (opened-other c.loop-bound.aig c.loop-bound.inputs.items
          (take c.loop-bound.bound-index c.args.prefix.now)
          (get_or c.args.prefix.now c.loop-bound.bound-index no_bound) (sym c.existential.ensures
          ∙ w.if-existential.false) c.loop-bound.invariant)
    ])
