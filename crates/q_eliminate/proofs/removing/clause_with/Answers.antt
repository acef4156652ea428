use Rattle.std.proofs.Common.{refl}
use Rattle.q_eliminate.proofs.removing.clause_with.Goals as goal

pub owner-requires : goal.owner-requires
owner-requires c = (c.args.lit, c.in_ok-place.ensures.there c.in_ok-place.place refl)
