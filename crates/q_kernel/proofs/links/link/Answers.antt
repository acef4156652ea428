use Rattle.std.proofs.Common.{ℕ, true, false}
use Rattle.q_occ.specs.Places.{with_linked}
use Rattle.q_kernel.proofs.ListUpdates.{but-unlinked, reserved-within, linked-again}
use Rattle.q_kernel.proofs.links.link.Goals as goal

pub link-requires-clause-unlinked : goal.link-requires-clause-unlinked
link-requires-clause-unlinked c = but-unlinked c.args.occ.now c.args.arena.now c.args.id c.apart.ensures.apart c.requires.linked

pub link-requires-clause-reserved : goal.link-requires-clause-reserved
link-requires-clause-reserved c = reserved-within c.args.occ.now c.args.arena.now c.args.id c.apart.ensures.within c.requires.places c.requires.lists

pub returns-clause-linked : goal.returns-clause-linked
returns-clause-linked c = linked-again c.link.new.self c.args.arena.now c.args.id (c.link.ensures.exact (with_linked c.args.id false (λ (i : ℕ). true)) c.requires.linked)
