use Rattle.std.proofs.Common.{◌<◌, length, arith}
use Rattle.q_logic.proofs.Common.{item-in}
use Rattle.q_blocked.proofs.nothing_hidden.shows_none.Goals as goal

pub returns : goal.returns
returns c e =
    let D = c.args.clause.now in
    let i : c.args.places.first < length D = omega arith in
    let j : c.args.places.second < length D = omega arith in
    c.are_quiet.ensures e D (item-in D c.args.places.first c.index-clause-places.result i c.index-clause-places.is)
    (item-in D c.args.places.second c.index-clause-places-2.result j c.index-clause-places-2.is)
