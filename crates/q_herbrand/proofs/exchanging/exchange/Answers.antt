use Rattle.std.proofs.Common.{◌≡◌, ◌+◌, ◌++◌, ◌∷◌, [], get_or, take, sym, ap, ◌∙◌}
use Rattle.std.proofs.lemmas.List.{take_more}
use Rattle.q_logic.specs.declared.formulas.Bound.{Bound}
use Rattle.q_logic.specs.Prelude.{Prefix}
use Rattle.q_logic.specs.Exchanging.{exchanged}
use Rattle.q_certificate.proofs.PrefixInputs.{no_bound}
use Rattle.q_herbrand.proofs.RowSteps.{exchanged-last}
use Rattle.q_herbrand.proofs.exchanging.exchange.Goals as goal

pub loop-at-preserved : goal.loop-at-preserved
loop-at-preserved c =
    let e : take (c.loop-at.at + 1) c.args.prefix.now ≡ take c.loop-at.at c.args.prefix.now ++ get_or
    c.args.prefix.now c.loop-at.at no_bound ∷ [] =
    take_more c.args.prefix.now c.loop-at.at no_bound c.loop-at-test.true in
    c.in_ok-push.ensures.items ∙ ap (λ (Q : Prefix). Q ++ c.exchange_one-bound.result ∷ []) c.loop-at.invariant ∙
    ap (λ (b : Bound). exchanged (take c.loop-at.at c.args.prefix.now) ++ b ∷ []) c.exchange_one-bound.ensures ∙
    sym (ap exchanged e ∙ exchanged-last (take c.loop-at.at c.args.prefix.now)
    (get_or c.args.prefix.now c.loop-at.at no_bound))
