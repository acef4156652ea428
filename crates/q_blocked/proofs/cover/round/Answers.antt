use Rattle.std.proofs.Common.{◌≡◌, ◌∙◌, Bool, false, sym, subst}
use Rattle.q_logic.specs.Prelude.{IsIn}
use Rattle.q_blocked.specs.Growths.{HasLooked}
use Rattle.q_blocked.specs.Following.{HasClosedFollowed}
use Rattle.q_blocked.specs.declared.progress.Progress.TheVariants.{Unchanged}
use Rattle.q_blocked.proofs.CoverPass.{looked-gives_none, looked-ended, looked-grown, units-turned, used-longer}
use Rattle.q_blocked.proofs.WatchedSets.{turned-followed, followed-longer}
use Rattle.q_blocked.proofs.cover.round.Goals as goal

pub returns-clause-turned : goal.returns-clause-turned
returns-clause-turned c =
    let k = c.args.kernel.now in
    let old = c.close.new.growth in
    let now = c.pass.new.growth in
    let w = c.close.new.watches in
    let h : HasClosedFollowed k c.args.c w old false = subst (λ (b : Bool). HasClosedFollowed k c.args.c w old b) c.if-branch.false c.in_ok-close.ensures.closed in
    let l : HasLooked k c.args.c (λ l. IsIn l old.set) old now Unchanged = looked-gives_none k c.args.c (λ l. IsIn l old.set) old now c.in_ok-progress.progress (sym c.is_ended.ensures ∙ c.if-is_ended.false) (sym c.is_grown.ensures ∙ c.if-is_grown.false) c.in_ok-progress.ensures.looked in
    turned-followed k c.args.c w old c.use_units.new.growth c.in_ok-last.last h.0.2.walked h.2 (λ q. used-longer k c.args.c old now c.use_units.new.growth c.in_ok-last.last l.1 l.2 q c.in_ok-last.ensures)
    (units-turned k c.args.c old now c.use_units.new.growth c.in_ok-last.last h.1 l c.in_ok-last.ensures)

pub returns-then-is_ended-clause-turned : goal.returns-then-is_ended-clause-turned
returns-then-is_ended-clause-turned c =
    let old = c.close.new.growth in
    looked-ended c.args.kernel.now c.args.c (λ l. IsIn l old.set) old c.pass.new.growth c.in_ok-progress.progress (sym c.is_ended.ensures ∙ c.if-is_ended.true) c.in_ok-progress.ensures.looked

pub returns-then-is_grown-clause-turned : goal.returns-then-is_grown-clause-turned
returns-then-is_grown-clause-turned c =
    let k = c.args.kernel.now in
    let old = c.close.new.growth in
    let w = c.close.new.watches in
    let h : HasClosedFollowed k c.args.c w old false = subst (λ (b : Bool). HasClosedFollowed k c.args.c w old b) c.if-branch.false c.in_ok-close.ensures.closed in
    let l = looked-grown k c.args.c (λ l. IsIn l old.set) old c.pass.new.growth c.in_ok-progress.progress (sym c.is_grown.ensures ∙ c.if-is_grown.true) c.in_ok-progress.ensures.looked in
    (l.0, followed-longer k w c.args.c old c.pass.new.growth h.0.2.walked l.1 h.2)
