use Rattle.std.proofs.Common.{◌∙◌, sym}
use Rattle.q_blocked.proofs.CoverPass.{turned-ended, turned-gives_none}
use Rattle.q_blocked.proofs.WatchedSets.{turned-alone, turned-on}
use Rattle.q_blocked.proofs.cover.covers.Goals as goal

pub returns-then-is_ended-clause-decided : goal.returns-then-is_ended-clause-decided
returns-then-is_ended-clause-decided c = turned-ended c.args.kernel.now c.args.c c.round.new.search.growth c.in_ok-progress.progress (sym c.is_ended.ensures ∙ c.if-is_ended.true)
    (turned-alone c.args.kernel.now c.args.c c.round.new.search.watches c.round.new.search.growth c.in_ok-progress.progress c.in_ok-progress.ensures.turned)

pub returns-then-not-is_grown-clause-decided : goal.returns-then-not-is_grown-clause-decided
returns-then-not-is_grown-clause-decided c = turned-gives_none c.args.kernel.now c.args.c c.round.new.search.growth c.in_ok-progress.progress (sym c.is_ended.ensures ∙ c.if-is_ended.false) (sym c.is_grown.ensures ∙ c.if-not-is_grown.true)
    (turned-alone c.args.kernel.now c.args.c c.round.new.search.watches c.round.new.search.growth c.in_ok-progress.progress c.in_ok-progress.ensures.turned)

pub loop-round-preserved : goal.loop-round-preserved
loop-round-preserved c =
    let t = turned-on c.args.kernel.now c.args.c c.round.new.search.watches c.round.new.search.growth c.in_ok-progress.progress (sym c.is_grown.ensures ∙ c.if-not-is_grown.false) c.in_ok-progress.ensures.turned in
    record { growing = t.0; units = c.round.ensures.units; watches = c.round.ensures.watches; apart = c.round.ensures.apart; followed = t.1 }
