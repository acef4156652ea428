use Rattle.q_guides.proofs.covering.Covering.hand_out.Goals as goal

pub covers-requires : goal.covers-requires
covers-requires g c = c.suggest.ensures c.args.kernel.now (c.forget.ensures c.args.kernel.now)
