use Rattle.std.proofs.Common.{Bool, true, sym, subst, true≢false}
use Rattle.q_logic.proofs.Common.{test-false}
use Rattle.q_blocked.specs.Growths.{HasDecided}
use Rattle.q_blocked.proofs.DecidedPlan.{planned}
use Rattle.q_blocked.proofs.cover.fits_cover.Goals as goal

pub returns-then-not-live-clause-fits : goal.returns-then-not-live-clause-fits
returns-then-not-live-clause-fits c B = (
  (λ t. absurd (true≢false (sym t))),
  (λ f. absurd (test-false c.live.result c.live.ensures c.if-not-live.true (f.0, f.1))),
)

pub returns-in_ok-write-clause-plan : goal.returns-in_ok-write-clause-plan
returns-in_ok-write-clause-plan c t =
    let k = c.args.kernel.now in
    let g = c.decide.new.search.growth in
    let d : HasDecided k c.args.c g true = subst (λ (b : Bool). HasDecided k c.args.c g b) t c.in_ok-yes.ensures.decided in
    planned k c.args.c g c.write.new.self.plan c.sound.ensures d c.in_ok-write.ensures.lits c.in_ok-write.ensures.stages c.in_ok-write.ensures.last
