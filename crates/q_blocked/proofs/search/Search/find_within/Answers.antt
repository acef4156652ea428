use Rattle.q_blocked.proofs.BlockedResults.{fits-applies}
use Rattle.q_blocked.proofs.BlockedSearch.{finds-within}
use Rattle.q_blocked.proofs.search.Search.find_within.Goals as goal

pub returns-clause-finds : goal.returns-clause-finds
returns-clause-finds c =
    let B = c.args.bounds.now in
    let k = c.args.kernel.now in
    finds-within B k c.args.from c.args.upto c.find_between.result (λ t f. fits-applies B k t c.requires.ready.limits (f B)) c.find_between.ensures.found
