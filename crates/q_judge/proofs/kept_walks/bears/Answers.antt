use Rattle.std.proofs.Common.{sym, ◌∙◌, true≢false}
use Rattle.q_logic.proofs.Common.{universal-is_bound}
use Rattle.q_judge.proofs.kept_walks.bears.Goals as goal

pub returns-then-not-is_universal : goal.returns-then-not-is_universal
returns-then-not-is_universal c t s k m i =
    let e = rw c.var.ensures.value at (sym c.is_universal.ensures ∙ c.if-not-is_universal.true) in
    absurd (true≢false (sym s ∙ e))

pub returns-then-lacks_all : goal.returns-then-lacks_all
returns-then-lacks_all c t s k m i = absurd (c.lacks_all.ensures c.if-lacks_all.true k m i)

pub is_worked_off-requires-clause-bound : goal.is_worked_off-requires-clause-bound
is_worked_off-requires-clause-bound c =
    universal-is_bound c.args.scope.now c.args.u.var (rw c.var.ensures.value at (sym c.is_universal.ensures ∙ c.if-not-is_universal.false))

pub returns : goal.returns
returns c t s k m i = c.is_worked_off.ensures t
