use Rattle.std.proofs.Common.{refl}
use Rattle.q_logic.specs.Prelude.{Clause}
use Rattle.q_kernel.proofs.KernelSizes.{slot-live, clause_at-slot}
use Rattle.q_kernel.proofs.KernelSteps.{may-delete-there, is-deleted, may-delete-first}
use Rattle.q_kernel.proofs.kernel.Kernel.delete.Goals as goal

pub lits-requires : goal.lits-requires
lits-requires c =
    let m = rw (← c.self.view_is) at c.requires in
    (m.clause, clause_at-slot c.self.inside.arena c.args.id m.clause m.there)

pub append-requires-clause-room : goal.append-requires-clause-room
append-requires-clause-room c =
    let m = rw (← c.self.view_is) at c.requires in
    let s = may-delete-there _ c.args.id (λ (D : Clause). c.args.first) c.lits.result.now m (slot-live c.self.inside.arena c.args.id c.lits.result.now c.lits.ensures.clause) in
    s.bytes

pub returns : goal.returns
returns c =
    let m = rw (← c.self.view_is) at c.requires in
    let e = slot-live c.self.inside.arena c.args.id c.lits.result.now c.lits.ensures.clause in
    let s = may-delete-there _ c.args.id (λ (D : Clause). c.args.first) c.lits.result.now m e in
    let f = may-delete-first _ c.args.id (λ (D : Clause). c.args.first) c.lits.result.now m e in
    rw (← c.self.view_is) (is-deleted _ _ c.take_out.new.self c.args.id (λ (D : Clause). c.args.first) c.lits.result.now c.self.invariant.proper f s.valid e
    (record { prefix = refl; arena = refl; vars = refl; greatest = refl; text = c.append.ensures.text; bytes = c.append.ensures.spare }) c.take_out.ensures)
