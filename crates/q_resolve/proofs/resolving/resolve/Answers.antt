use Rattle.std.proofs.Common.{subst}
use Rattle.q_logic.specs.Prelude.{Literal, without}
use Rattle.q_resolve.specs.Reduced.{IsJoined}
use Rattle.q_resolve.proofs.Joined.{resolved}
use Rattle.q_resolve.proofs.resolving.resolve.Goals as goal

pub returns : goal.returns
returns c =
    resolved c.args.first.now c.args.second.now c.args.pivot c.clear.new.self c.join_without.new.row c.join_without-2.new.row c.clear.ensures c.in_ok-join_without.ensures
    (subst (λ (k : Literal). IsJoined c.join_without.new.row (without k c.args.second.now) c.join_without-2.new.row) c.negated.ensures c.in_ok-join_without-2.ensures)
