use Rattle.std.proofs.Common.{◌∙◌, ap}
use Rattle.q_rule.specs.Quants.{is_some_forall}
use Rattle.q_rule.proofs.Quantifiers.{universal-told}
use Rattle.q_rule.proofs.variables.is_universal.Goals as goal

pub returns : goal.returns
returns c =
    let told = universal-told c.args.kernel.now.prefix c.args.var in
    let quant = rw c.prefix.ensures at c.quant.ensures in
    c.says_forall.ensures ∙ ap is_some_forall quant ∙ told
