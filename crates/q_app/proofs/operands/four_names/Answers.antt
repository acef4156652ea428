use Rattle.std.proofs.Common.{◌∙◌, ap}
use Rattle.q_app.specs.Operands.{fourth}
use Rattle.q_app.proofs.CommandWords.{fourth-none}
use Rattle.q_app.proofs.operands.four_names.Goals as goal

pub returns-in-Some-clause-names : goal.returns-in-Some-clause-names
returns-in-Some-clause-names c = c.fourth_of.ensures.names ∙ ap fourth c.in-Some.ensures.names

pub returns-in-None-clause-names : goal.returns-in-None-clause-names
returns-in-None-clause-names c = fourth-none ∙ ap fourth c.in-None.ensures.names
