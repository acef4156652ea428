use Rattle.std.proofs.Common.{ℕ, Bool, true, false, refl}
use Rattle.q_logic.specs.Prelude.{Clause}
use Rattle.q_kernel.specs.Prelude.{Seen, slots}
use Rattle.q_blocked.specs.declared.growth.Growth.{Growth}
use Rattle.q_blocked.specs.Walks.{IsBeside}
use Rattle.q_blocked.specs.Growths.{HasSpread, HasReplayed}
use Rattle.q_blocked.proofs.replay.redo_hidden.Goals as goal

pub hidden_by-requires : goal.hidden_by-requires
hidden_by-requires c = c.requires.2.consistent

pub give-requires-clause-gives : goal.give-requires-clause-gives
give-requires-clause-gives c = c.in-Some.ensures.some c.in-Some.new refl

replayed : (k : Seen) (c : ℕ) (Q : Clause → Type 0) (old new : Growth) (ended : Bool) → HasSpread k c Q old new ended → HasReplayed k c old new ended
replayed k c Q old new true h = h
replayed k c Q old new false h = (h.0, h.1.worked)

pub returns : goal.returns
returns c =
    let k = c.args.kernel.now in
    replayed k c.args.c (IsBeside (slots k) c.args.c c.args.d) c.args.growth.now c.give.new.growth c.in_ok-ended.ended c.in_ok-ended.ensures
