use Rattle.std.proofs.Common.{◌∙◌, ap}
use Rattle.q_rule.specs.Quants.{is_some_exists}
use Rattle.q_rule.proofs.Quantifiers.{existential-told}
use Rattle.q_rule.proofs.variables.is_existential.Goals as goal

pub returns : goal.returns
returns c =
    let told = existential-told c.args.kernel.now.prefix c.args.var in
    let quant = rw c.prefix.ensures at c.quant.ensures in
    c.says_exists.ensures ∙ ap is_some_exists quant ∙ told
