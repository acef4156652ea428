use Rattle.q_judge.proofs.EvidentPivots.{met-clash, met-found}
use Rattle.q_judge.proofs.evident.is_met.Goals as goal

pub returns-then-clashes : goal.returns-then-clashes
returns-then-clashes c t =
    let clash = rw c.scope.ensures at (c.clashes.ensures c.if-clashes.true) in
    met-clash c.args.view.now.prefix c.args.view.now.slots c.args.at c.args.m c.args.base.now c.in-Some.other.now c.in-Some.ensures.0 clash

pub returns : goal.returns
returns c t =
    let found = rw (c.deref.ensures.value, c.in_ok-load_resolvent.ensures, c.scope-2.ensures) at (c.finds.ensures t) in
    met-found c.args.view.now.prefix c.args.view.now.slots c.args.at c.args.m c.args.base.now c.in-Some.other.now c.in-Some.ensures.0 found
