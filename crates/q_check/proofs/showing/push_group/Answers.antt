use Rattle.std.proofs.Common.{◌∙◌, ap}
use Rattle.std.proofs.lemmas.Result.{on_ok_weaker}
use Rattle.q_check.specs.Annotations.{with_hints}
use Rattle.q_check.proofs.PushedHints.{group-hinted, pushed-some}
use Rattle.q_check.proofs.showing.push_group.Goals as goal

pub push_hints-requires : goal.push_hints-requires
push_hints-requires c = rw c.in_ok-begin_group.ensures.ok (pushed-some c.args.proof.now.groups _)

pub returns : goal.returns
returns c =
    on_ok_weaker c.push_hints.result
    (λ e. e ∙ ap (with_hints c.args.hints.now) c.in_ok-begin_group.ensures.ok ∙ group-hinted c.args.target c.args.hints.now c.args.proof.now)
    c.push_hints.ensures
