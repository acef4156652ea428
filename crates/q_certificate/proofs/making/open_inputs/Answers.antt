use Rattle.std.proofs.Common.{◌≡◌, ◌+◌, ◌++◌, ◌∷◌, [], get_or, take, sym, subst}
use Rattle.std.proofs.lemmas.List.{take_more}
use Rattle.q_logic.specs.Prelude.{Prefix}
use Rattle.q_certificate.specs.Made.{IsOpened}
use Rattle.q_certificate.proofs.PrefixInputs.{no_bound, input-new, opened-exists, opened-forall}
use Rattle.q_certificate.proofs.making.open_inputs.Goals.{in-Forall+in_ok-lit-in-Forall+in_ok-put-in-Forall, in-Exists}
use Rattle.q_certificate.proofs.making.open_inputs.Goals as goal

pub input-requires : goal.input-requires
input-requires c = input-new c.loop-bound.aig c.loop-bound.inputs.items c.args.prefix.now c.loop-bound.bound-index c.requires.distinct c.loop-bound-test.true c.loop-bound.invariant

pub loop-bound-preserved : goal.loop-bound-preserved
loop-bound-preserved c =
    let e : take (c.loop-bound.bound-index + 1) c.args.prefix.now ≡ take c.loop-bound.bound-index c.args.prefix.now ++ get_or c.args.prefix.now c.loop-bound.bound-index no_bound ∷ [] = take_more c.args.prefix.now c.loop-bound.bound-index no_bound c.loop-bound-test.true in
    subst (λ (P : Prefix). IsOpened c.match-bound.aig c.match-bound.inputs.items P) (sym e) (elim c.match-bound.branch [
      | in-Forall+in_ok-lit-in-Forall+in_ok-put-in-Forall w ↦
          rw (w.aig-is, w.inputs-is) (opened-forall c.loop-bound.aig w.input.new.self c.loop-bound.inputs.items w.put.new.row.items (take c.loop-bound.bound-index c.args.prefix.now) (get_or c.args.prefix.now c.loop-bound.bound-index no_bound) w.in_ok-lit-in-Forall.lit w.in-Forall.is c.loop-bound.invariant w.in_ok-lit-in-Forall.ensures.inputs w.in_ok-lit-in-Forall.ensures.gates w.in_ok-lit-in-Forall.ensures.kept w.in_ok-lit-in-Forall.ensures.there w.in_ok-lit-in-Forall.ensures.tree w.in_ok-put-in-Forall.ensures.ok)
      | in-Exists w ↦
          rw (w.aig-is, w.inputs-is) (opened-exists c.loop-bound.aig c.loop-bound.inputs.items (take c.loop-bound.bound-index c.args.prefix.now) (get_or c.args.prefix.now c.loop-bound.bound-index no_bound) w.in-Exists.is c.loop-bound.invariant)
    ])
