use Rattle.std.proofs.Common.{refl}
use Rattle.q_reduce.proofs.lists.clause_with.Goals as goal

pub owner-id-requires : goal.owner-id-requires
owner-id-requires c = (c.args.l, c.in_ok-place.ensures.there c.in_ok-place.place refl)

pub owner-requires : goal.owner-requires
owner-requires c = (c.args.l, c.in-Some.ensures.there c.args.l c.in-Some.other (c.in_ok-place.ensures.there c.in_ok-place.place refl) refl)
