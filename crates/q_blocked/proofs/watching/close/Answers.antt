use Rattle.std.proofs.Common.{◌∙◌, sym}
use Rattle.std.proofs.lemmas.Result.{IfOk-weaker}
use Rattle.q_watch.proofs.MovedWatches.{right-same}
use Rattle.q_blocked.specs.Growths.{HasClosed}
use Rattle.q_blocked.specs.Following.{HasClosedQuiet, HasClosedFollowed}
use Rattle.q_blocked.proofs.WatchedSets.{closed-followed, closed-alone}
use Rattle.q_blocked.proofs.watching.close.Goals as goal

pub close_by_watches-requires-clause-right : goal.close_by_watches-requires-clause-right
close_by_watches-requires-clause-right c = c.requires.right (sym c.are_ready.ensures ∙ c.if-are_ready.true)

pub close_by_watches-requires-clause-quiet : goal.close_by_watches-requires-clause-quiet
close_by_watches-requires-clause-quiet c = c.requires.followed (sym c.are_ready.ensures ∙ c.if-are_ready.true)

pub returns-then-are_ready-clause-closed : goal.returns-then-are_ready-clause-closed
returns-then-are_ready-clause-closed c =
    let k = c.args.kernel.now in
    let w = c.close_by_watches.new.watches in
    let new = c.close_by_watches.new.growth in
    IfOk-weaker c.close_by_watches.result (HasClosedQuiet k c.args.c w new) (HasClosedFollowed k c.args.c w new) (λ b h. closed-followed k c.args.c w new b h) c.close_by_watches.ensures.closed

pub returns-then-are_ready-clause-right : goal.returns-then-are_ready-clause-right
returns-then-are_ready-clause-right c e = c.close_by_watches.ensures.right

pub returns-clause-closed : goal.returns-clause-closed
returns-clause-closed c =
    let k = c.args.kernel.now in
    let w = c.close_by_lists.new.watches in
    let new = c.close_by_lists.new.growth in
    IfOk-weaker c.close_by_lists.result (HasClosed k c.args.c new) (HasClosedFollowed k c.args.c w new) (λ b h. closed-alone k c.args.c w new b (c.close_by_lists.ensures.same.ready ∙ (sym c.are_ready.ensures ∙ c.if-are_ready.false)) h) c.close_by_lists.ensures.closed

pub returns-clause-right : goal.returns-clause-right
returns-clause-right c = right-same c.args.kernel.now c.args.watches.now c.close_by_lists.new.watches c.close_by_lists.ensures.same c.requires.right
