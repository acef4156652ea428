use Rattle.std.proofs.Common.{ℕ, true}
use Rattle.q_kernel.proofs.ListUpdates.{linked-each}
use Rattle.q_kernel.proofs.links.unlink.Goals as goal

pub unlink-requires-clause-linked : goal.unlink-requires-clause-linked
unlink-requires-clause-linked c = linked-each c.args.occ.now c.args.arena.now c.args.id c.requires.linked

pub returns-clause-linked : goal.returns-clause-linked
returns-clause-linked c = c.unlink.ensures.exact (λ (i : ℕ). true) c.requires.linked
