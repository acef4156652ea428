use Rattle.q_logic.specs.Prelude.{first_of}
use Rattle.q_log.proofs.WritableRuns.{first-of}
use Rattle.q_kernel.proofs.KernelSizes.{slot-live, clause_at-slot}
use Rattle.q_kernel.proofs.KernelSteps.{may-delete-there, deleted-as}
use Rattle.q_kernel.proofs.kernel.Kernel.delete_implied.Goals as goal

pub lits-requires : goal.lits-requires
lits-requires c =
    let m = rw (← c.self.view_is) at c.requires in
    (m.clause, clause_at-slot c.self.inside.arena c.args.id m.clause m.there)

pub delete-requires : goal.delete-requires
delete-requires c =
    let C = c.lits.result.now in
    let m = rw (← c.self.view_is) at c.requires in
    let e = slot-live c.self.inside.arena c.args.id C c.lits.ensures.clause in
    let s = may-delete-there _ c.args.id first_of C m e in
    rw (← c.self.view_is) (record { clause = C; there = e; first = rw c.first_of-first.ensures (first-of C); step = rw c.first_of-first.ensures s })

pub returns : goal.returns
returns c =
    let C = c.lits.result.now in
    let e = slot-live c.self.inside.arena c.args.id C c.lits.ensures.clause in
    let d = rw (← c.self.view_is) at c.delete.ensures in
    rw (← c.self.view_is) (deleted-as _ c.delete.new.self c.args.id c.first_of-first.result first_of C e c.first_of-first.ensures d)
