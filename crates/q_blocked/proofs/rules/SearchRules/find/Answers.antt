use Rattle.q_rule.proofs.RuleAnswers.{finds}
use Rattle.q_blocked.specs.Targets.{target_of}
use Rattle.q_blocked.proofs.BlockedResults.{fits-applies}
use Rattle.q_blocked.proofs.rules.SearchRules.find.Goals as goal

pub returns-clause-finds : goal.returns-clause-finds
returns-clause-finds c =
    let B = c.args.bounds.now in
    let k = c.args.kernel.now in
    finds target_of B k c.args.from c.find_from.result (λ t f. fits-applies B k t c.requires.ready.limits (f B)) c.find_from.ensures
