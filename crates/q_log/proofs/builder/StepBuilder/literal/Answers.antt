use Rattle.std.proofs.Common.{◌≡◌, true}
use Rattle.q_log.specs.Grammar.{has_room}
use Rattle.q_log.proofs.PlainVariables.{plain-push}
use Rattle.q_log.proofs.builder.StepBuilder.literal.Goals as goal

pub invariant_of-self-2 : goal.invariant_of-self-2
invariant_of-self-2 c =
    let room : has_room c.args.begun.kind c.args.self.now.lits c.args.lit.negative ≡ true = cc in
    record {
      plain = rw c.in_ok-push.ensures.ok (plain-push c.args.begun.kind c.args.self.now.lits c.args.lit c.requires room);
    }
