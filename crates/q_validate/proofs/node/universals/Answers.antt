use Rattle.std.proofs.Common.{◌++◌, [], ◌∷◌, ap, sym, ◌∙◌, take, get_or}
use Rattle.std.proofs.lemmas.List.{take_more}
use Rattle.q_logic.specs.Prelude.{Prefix}
use Rattle.q_logic.specs.declared.formulas.Quant.TheVariants.{Forall}
use Rattle.q_logic.specs.Branches.{as_prefix}
use Rattle.q_validate.proofs.KnownValues.{as_prefix-push}
use Rattle.q_validate.proofs.node.universals.Goals as goal

pub loop-name-preserved : goal.loop-name-preserved
loop-name-preserved c =
    let us = c.args.names.now in
    let i = c.loop-name.name-index in
    c.in_ok-push.ensures.items
    ∙ ap (λ (P : Prefix). P ++ record { quant = Forall; var = get_or us i 0 } ∷ []) c.loop-name.invariant
    ∙ sym (as_prefix-push (take i us) (get_or us i 0))
    ∙ ap as_prefix (sym (take_more us i 0 c.loop-name-test.true))
