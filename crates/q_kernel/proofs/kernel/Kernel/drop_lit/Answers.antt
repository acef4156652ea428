use Rattle.std.proofs.Common.{refl}
use Rattle.q_kernel.proofs.KernelSizes.{slot-live, clause_at-slot}
use Rattle.q_kernel.proofs.KernelSteps.{may-drop-there, dropped-held, is-dropped}
use Rattle.q_kernel.proofs.kernel.Kernel.drop_lit.Goals as goal

pub lits-requires : goal.lits-requires
lits-requires c =
    let m = rw (← c.self.view_is) at c.requires in
    (m.clause, clause_at-slot c.self.inside.arena c.args.id m.clause m.there)

pub append-requires-clause-room : goal.append-requires-clause-room
append-requires-clause-room c =
    let m = rw (← c.self.view_is) at c.requires in
    let s = may-drop-there _ c.args.id c.args.lit c.lits.result.now m (slot-live c.self.inside.arena c.args.id c.lits.result.now c.lits.ensures.clause) in
    s.bytes

pub shorten-requires : goal.shorten-requires
shorten-requires c =
    let m = rw (← c.self.view_is) at c.requires in
    let e = slot-live c.self.inside.arena c.args.id c.lits.result.now c.lits.ensures.clause in
    let s = may-drop-there _ c.args.id c.args.lit c.lits.result.now m e in
    (c.lits.result.now, e, dropped-held _ c.args.id c.args.lit c.lits.result.now s)

pub returns : goal.returns
returns c =
    let m = rw (← c.self.view_is) at c.requires in
    let e = slot-live c.self.inside.arena c.args.id c.lits.result.now c.lits.ensures.clause in
    let s = may-drop-there _ c.args.id c.args.lit c.lits.result.now m e in
    rw (← c.self.view_is) (is-dropped _ _ c.shorten.new.self c.args.id c.args.lit c.lits.result.now c.self.invariant.proper (dropped-held _ c.args.id c.args.lit c.lits.result.now s) s.valid e
    (record { prefix = refl; arena = refl; vars = refl; greatest = refl; text = c.append.ensures.text; bytes = c.append.ensures.spare }) c.shorten.ensures)
