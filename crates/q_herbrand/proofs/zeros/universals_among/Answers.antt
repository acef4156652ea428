use Rattle.std.proofs.Common.{get_or}
use Rattle.std.proofs.lemmas.List.{take_more}
use Rattle.q_certificate.proofs.PrefixInputs.{no_bound}
use Rattle.q_herbrand.proofs.ZeroCircuits.{in-next}
use Rattle.q_herbrand.proofs.zeros.universals_among.Goals as goal

pub loop-at-preserved : goal.loop-at-preserved
loop-at-preserved c =
    in-next c.args.scope.now c.args.prefix.now c.loop-at.at (get_or c.args.prefix.now c.loop-at.at no_bound) c.loop-at.made.items
    c.put.new.made.items (take_more c.args.prefix.now c.loop-at.at no_bound c.loop-at-test.true) c.loop-at.invariant c.in_ok-put.ensures
