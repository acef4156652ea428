use Rattle.std.proofs.Common.{subst, sym}
use Rattle.q_arena.specs.Prelude.{Has}
use Rattle.q_occ.specs.Places.{places_of}
use Rattle.q_kernel.specs.Kernels.{Seen}
use Rattle.q_kernel.proofs.joining.note_beside.Goals as goal

pub owner-id-requires : goal.owner-id-requires
owner-id-requires c = (c.args.lit, subst (λ (k : Seen). Has (places_of k.lists c.args.lit) c.in-Some.place) (sym c.loop.invariant.same) (c.loop.invariant.listed c.in-Some.place c.in-Some.is))
