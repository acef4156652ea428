use Rattle.std.proofs.Common.{◌++◌, ◌∙◌, ap, pos}
use Rattle.std.proofs.lemmas.Result.{on_ok_weaker}
use Rattle.q_text.specs.Numbers.{number_text}
use Rattle.q_hinted.specs.Texts.{plain_text}
use Rattle.q_hinted.proofs.NumberTexts.{group-text}
use Rattle.q_hinted.proofs.text.put_group.Goals as goal

pub returns-clause-ok : goal.returns-clause-ok
returns-clause-ok c =
    on_ok_weaker c.put_plain-2.result
    (λ e. e ∙ (ap (λ x. x ++ number_text (pos 0)) (c.in_ok-put_all.ensures.ok ∙ ap (λ x. x ++ plain_text c.args.hints.now) c.in_ok-put_plain.ensures.ok)
    ∙ group-text c.args.text.now.items c.args.target c.args.hints.now))
    c.put_plain-2.ensures.ok
