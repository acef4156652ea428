use Rattle.std.proofs.Common.{refl}
use Rattle.q_kernel.specs.Prelude.{slots}
use Rattle.q_blocked.specs.Walks.{IsBeside}
use Rattle.q_blocked.proofs.SetGrowth.{spread-none, spread-hinted}
use Rattle.q_blocked.proofs.hidden.take_hidden.Goals as goal

pub gives_none-requires : goal.gives_none-requires
gives_none-requires c = c.requires.2.consistent

pub returns-then-branch : goal.returns-then-branch
returns-then-branch c =
    let k = c.args.kernel.now in
    let old = c.args.growth.now in
    spread-none k c.args.c (IsBeside (slots k) c.args.c c.args.d) old (record old { hints = c.gives_none.new.hints }) refl refl refl refl c.requires (c.in_ok-gives_none.ensures c.if-branch.true)

pub hidden_by-requires : goal.hidden_by-requires
hidden_by-requires c = c.requires.2.consistent

pub returns-in_default : goal.returns-in_default
returns-in_default c =
    let k = c.args.kernel.now in
    let old = c.args.growth.now in
    spread-none k c.args.c (IsBeside (slots k) c.args.c c.args.d) old (record old { hints = c.gives_none.new.hints }) refl refl refl refl c.requires (c.in_default.ensures.none refl)

pub give-requires-clause-gives : goal.give-requires-clause-gives
give-requires-clause-gives c = c.in-Some.ensures.some c.in-Some.new refl

pub returns : goal.returns
returns c =
    let k = c.args.kernel.now in
    let old = c.args.growth.now in
    spread-hinted k c.args.c (IsBeside (slots k) c.args.c c.args.d) old (record old { hints = c.gives_none.new.hints }) c.give.new.growth c.in_ok-ended.ended refl refl refl refl c.in_ok-ended.ensures
