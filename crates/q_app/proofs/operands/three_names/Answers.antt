use Rattle.std.proofs.Common.{◌∙◌, sym, ap, Some, List, ℕ, arith, drop}
use Rattle.q_command.specs.Names.{three}
use Rattle.q_app.specs.Operands.{three_names, texts}
use Rattle.q_app.proofs.CommandWords.{texts-length, three_words, few_names, same_names, other_names, rest_of, differ}
use Rattle.q_app.proofs.operands.three_names.Goals as goal

pub returns-then-operands-lt3-clause-names : goal.returns-then-operands-lt3-clause-names
returns-then-operands-lt3-clause-names c =
    few_names (texts c.args.operands.now) (omega (arith, c.if-operands-lt3.true, texts-length c.args.operands.now))

pub returns-then-not-are_different-clause-names : goal.returns-then-not-are_different-clause-names
returns-then-not-are_different-clause-names c =
    let words = three_words c.args.operands.now c.index-operands-0.result c.index-operands-1.result c.index-operands-2.result c.as_str-input.result.now c.as_str-output.result.now c.as_str-log.result.now c.if-operands-lt3.false c.index-operands-0.is c.index-operands-1.is c.index-operands-2.is c.as_str-input.ensures.value c.as_str-output.ensures.value c.as_str-log.ensures.value in
    same_names c.as_str-input.result.now c.as_str-output.result.now c.as_str-log.result.now (texts (drop 3 c.args.operands.now)) (sym c.are_different.ensures ∙ c.if-not-are_different.true) ∙ ap three_names (sym words)

pub returns-clause-names : goal.returns-clause-names
returns-clause-names c =
    let words = three_words c.args.operands.now c.index-operands-0.result c.index-operands-1.result c.index-operands-2.result c.as_str-input.result.now c.as_str-output.result.now c.as_str-log.result.now c.if-operands-lt3.false c.index-operands-0.is c.index-operands-1.is c.index-operands-2.is c.as_str-input.ensures.value c.as_str-output.ensures.value c.as_str-log.ensures.value in
    ap (λ (r : List (List ℕ)). Some (three c.as_str-input.result.now c.as_str-output.result.now c.as_str-log.result.now, r)) (rest_of c.args.operands.now 3)
    ∙ (other_names c.as_str-input.result.now c.as_str-output.result.now c.as_str-log.result.now (texts (drop 3 c.args.operands.now)) (sym c.are_different.ensures ∙ c.if-not-are_different.false) ∙ ap three_names (sym words))

pub returns-clause-apart : goal.returns-clause-apart
returns-clause-apart c =
    differ c.as_str-input.result.now c.as_str-output.result.now c.as_str-log.result.now (sym c.are_different.ensures ∙ c.if-not-are_different.false)
