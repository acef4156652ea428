use Rattle.std.proofs.Common.{ℕ, List, length, subst, OnOk}
use Rattle.q_blocked.specs.Growths.{HasPlaces}
use Rattle.q_blocked.proofs.growth.Growth.begin.Goals as goal

pub returns-clause-asked : goal.returns-clause-asked
returns-clause-asked c = subst (λ (xs : List ℕ). OnOk c.add_places.result (HasPlaces xs 0 (length c.args.clause.now) c.add_places.new.places.items)) c.clear-2.ensures.items c.add_places.ensures
