use Rattle.std.proofs.Common.{refl, arith}
use Rattle.q_logic.specs.declared.formulas.Bound.{Bound}
use Rattle.q_logic.specs.declared.formulas.Quant.TheVariants.{Exists}
use Rattle.q_kernel.proofs.PrefixWalks.{idle-absent, idle-more, item-bound}
use Rattle.q_kernel.proofs.parts.idle_uses.Goals as goal

none : Bound
none = record { quant = Exists; var = 0 }

pub insert-requires-clause-absent : goal.insert-requires-clause-absent
insert-requires-clause-absent c = idle-absent c.loop-bound.uses c.args.bounds.now c.loop-bound.bound-index (record { quant = Exists; var = 0 }) _ c.requires.distinct c.loop-bound-test.true refl c.loop-bound.invariant.idle

pub insert-requires-clause-room : goal.insert-requires-clause-room
insert-requires-clause-room c =
    let d : Bound = record { quant = Exists; var = 0 } in
    let b = item-bound c.args.bounds.now c.loop-bound.bound-index d _ c.loop-bound-test.true refl in
    omega (arith, c.requires.within _ b, c.loop-bound.invariant.room)

pub loop-bound-preserved : goal.loop-bound-preserved
loop-bound-preserved c =
    let d : Bound = record { quant = Exists; var = 0 } in
    record {
      idle = idle-more c.loop-bound.uses c.insert.new.self c.args.bounds.now c.loop-bound.bound-index d _ c.loop-bound-test.true refl c.loop-bound.invariant.idle c.insert.ensures.idle c.insert.ensures.existentials c.insert.ensures.universals;
      room = omega (arith, c.insert.ensures.room, c.loop-bound.invariant.room);
    }
