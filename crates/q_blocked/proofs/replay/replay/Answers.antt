use Rattle.std.proofs.Common.{◌∙◌, Bool, true, false, refl, subst}
use Rattle.q_blocked.specs.Growths.{HasReplayed}
use Rattle.q_blocked.proofs.replay.replay.Goals as goal

pub loop-step-init : goal.loop-step-init
loop-step-init c = record { growing = c.requires.growing; worked = refl; apart = c.requires.apart }

pub loop-step-preserved : goal.loop-step-preserved
loop-step-preserved c =
    let h : HasReplayed c.args.kernel.now c.args.c c.loop-step.growth c.redo.new.growth false = subst (λ (b : Bool). HasReplayed c.args.kernel.now c.args.c c.loop-step.growth c.redo.new.growth b) c.if-branch.false c.in_ok-redo.ensures.replayed in
    record { growing = h.0; worked = h.1 ∙ c.loop-step.invariant.worked; apart = c.redo.ensures.apart }

pub returns-then-branch-clause-replayed : goal.returns-then-branch-clause-replayed
returns-then-branch-clause-replayed c =
    let h : HasReplayed c.args.kernel.now c.args.c c.loop-step.growth c.redo.new.growth true = subst (λ (b : Bool). HasReplayed c.args.kernel.now c.args.c c.loop-step.growth c.redo.new.growth b) c.if-branch.true c.in_ok-redo.ensures.replayed in
    h
