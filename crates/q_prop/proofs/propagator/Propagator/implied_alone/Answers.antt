use Rattle.q_prop.proofs.RootRemoval.{apart_alone}
use Rattle.q_prop.proofs.propagator.Propagator.implied_alone.Goals as goal

pub implied_beside-requires : goal.implied_beside-requires
implied_beside-requires c =
    let q = c.requires in
    (q.0, q.1, apart_alone _ q.0 c.args.lit q.2)
