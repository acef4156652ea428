use Rattle.std.proofs.Common.{length, arith}
use Rattle.q_kernel.specs.Prelude.{slots}
use Rattle.q_kernel.proofs.SlotLists.{live_in-length}
use Rattle.q_equiv.proofs.MergeRoom.{count-enough, weigh-enough, room-made, same-total}
use Rattle.q_equiv.proofs.room.reserve.Goals as goal

pub reserve-requires-2 : goal.reserve-requires-2
reserve-requires-2 c =
    let n = live_in-length (slots c.args.kernel.now) in
    omega arith

pub returns-clause-room : goal.returns-clause-room
returns-clause-room c =
    let k = c.args.kernel.now in
    let new = c.reserve-2.new.self in
    let e = c.in_ok-reserve-2.ensures in
    let a = weigh-enough k c.args.gone in
    let b = count-enough k c.args.gone c.sound.ensures in
    let p = rw c.prefix.ensures at c.len.ensures in
    let d = rw c.negated.ensures at c.count-2.ensures.held in
    room-made k new c.args.gone.var e.view (omega (arith, a, c.in_ok-words.ensures, e.words)) (omega (arith, b, c.count.ensures.held, d, e.ids)) (omega (arith, p, c.size.ensures, e.bytes))

pub returns-clause-buffer : goal.returns-clause-buffer
returns-clause-buffer c =
    let k = c.args.kernel.now in
    let new = c.reserve-2.new.self in
    let a = weigh-enough k c.args.gone in
    let s = same-total length c.args.gone.var k new c.in_ok-reserve-2.ensures.view in
    omega (arith, a, c.in_ok-words.ensures, c.in_ok-reserve.ensures.ok)
