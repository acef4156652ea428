use Rattle.q_guides.proofs.covering.Covering.fill.Goals as goal

pub loop-turn-init : goal.loop-turn-init
loop-turn-init g c = c.forget.ensures c.args.kernel.now
