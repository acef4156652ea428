use Rattle.q_reduce.specs.Regions.{key_of}
use Rattle.q_reduce.proofs.RegionSeparation.{found-member}
use Rattle.q_reduce.proofs.regions.Regions.has_noted.Goals as goal

pub returns : goal.returns
returns c =
    let keys = c.self.inside.keys.items in
    let found = rw (c.deref.ensures.value, c.key_of.ensures) at c.binary_search.ensures.position in
    rw (← c.self.view_is, c.is_ok.ensures.value) (found-member keys (key_of c.args.lit c.args.region) c.binary_search.result c.self.invariant.2 found)
