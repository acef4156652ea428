use Rattle.std.proofs.Common.{refl, ◌∙◌}
use Rattle.q_kernel.proofs.SlotLists.{slot-get}
use Rattle.q_kernel.proofs.KernelSteps.{is-added}
use Rattle.q_kernel.proofs.kernel.Kernel.add.Goals as goal

pub returns : goal.returns
returns c =
    let k = c.self.inside in
    let m = rw (← c.self.view_is) at c.requires in
    rw (← c.self.view_is) (is-added _ _ c.put_at.new.self c.args.first c.args.lits.now c.free_id-id.result c.self.invariant.proper m (slot-get k.arena.clauses c.free_id-id.result ∙ c.free_id-id.ensures.free.free)
    (record { prefix = refl; arena = refl; vars = refl; greatest = refl; text = c.append.ensures.text; bytes = c.append.ensures.spare }) c.put_at.ensures)
