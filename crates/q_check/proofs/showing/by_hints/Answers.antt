use Rattle.std.proofs.Common.{◌∙◌, ap}
use Rattle.q_check.specs.Annotations.{with_hints}
use Rattle.q_check.proofs.PushedHints.{implied-hinted}
use Rattle.q_check.proofs.showing.by_hints.Goals as goal

pub push_hints-requires : goal.push_hints-requires
push_hints-requires c = rw c.new-proof.ensures (λ e. cc)

pub returns : goal.returns
returns c =
    c.in_ok-push_hints.ensures ∙ ap (with_hints c.args.hints.now) c.new-proof.ensures ∙ implied-hinted c.args.number c.args.hints.now
