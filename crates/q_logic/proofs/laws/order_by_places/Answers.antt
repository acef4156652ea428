use Rattle.q_logic.proofs.PrefixPlaces.{outer_or_same-places, places-outer_or_same}
use Rattle.q_logic.proofs.laws.order_by_places.Goals as goal

pub returns : goal.returns
returns c P a v m n = (outer_or_same-places P a v, places-outer_or_same P a v m n)
