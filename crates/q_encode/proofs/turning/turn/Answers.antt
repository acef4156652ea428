use Rattle.std.proofs.Common.{◌≡◌, ◌+◌, ◌++◌, ◌∷◌, [], get_or, take, sym, ap, ◌∙◌}
use Rattle.std.proofs.lemmas.List.{take_more}
use Rattle.q_logic.specs.declared.formulas.Bound.{Bound}
use Rattle.q_logic.specs.Prelude.{Prefix}
use Rattle.q_encode.specs.Sides.{turned}
use Rattle.q_encode.proofs.TurnedPrefix.{no_bound, turned-last}
use Rattle.q_encode.proofs.turning.turn.Goals as goal

pub loop-at-preserved : goal.loop-at-preserved
loop-at-preserved c =
    let e : take (c.loop-at.at + 1) c.args.prefix.now ≡ take c.loop-at.at c.args.prefix.now ++ get_or c.args.prefix.now c.loop-at.at no_bound ∷ [] =
    take_more c.args.prefix.now c.loop-at.at no_bound c.loop-at-test.true in
    c.in_ok-push.ensures.items ∙ ap (λ (Q : Prefix). Q ++ c.turn_bound-bound.result ∷ []) c.loop-at.invariant ∙
    ap (λ (b : Bound). turned c.args.side (take c.loop-at.at c.args.prefix.now) ++ b ∷ []) c.turn_bound-bound.ensures ∙
    sym (ap (turned c.args.side) e ∙ turned-last c.args.side (take c.loop-at.at c.args.prefix.now) (get_or c.args.prefix.now c.loop-at.at no_bound))
