use Rattle.std.proofs.Common.{◌∙◌, sym}
use Rattle.std.proofs.lemmas.Result.{IfOk-weaker}
use Rattle.q_judge.proofs.evident.is_evident.Goals as goal

pub returns : goal.returns
returns c = IfOk-weaker c.resolves_evidently.result _ _ (λ yes h t. record {
  existential_pivot = rw (c.scope.ensures, c.var.ensures.value) at (sym c.is_existential.ensures ∙ c.if-not-is_existential.false);
  in_clause = c.requires.held;
  implied = rw c.negated.ensures at (h t);
}) c.resolves_evidently.ensures
