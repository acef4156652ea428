use Rattle.std.proofs.Common.{◌∙◌, sym, ap, arith, drop, Some, List, ℕ}
use Rattle.q_command.specs.Names.{three_of}
use Rattle.q_app.specs.Operands.{fourth, texts}
use Rattle.q_app.proofs.CommandWords.{texts-length, one_word, fourth-few, fourth-same, fourth-other, differ-four, rest_of}
use Rattle.q_app.proofs.operands.fourth_of.Goals as goal

pub returns-then-rest-eq0-clause-names : goal.returns-then-rest-eq0-clause-names
returns-then-rest-eq0-clause-names c =
    fourth-few (three_of c.args.names) (texts c.args.rest.now) (omega (arith, c.if-rest-eq0.true, texts-length c.args.rest.now))

pub returns-then-not-is_fourth-clause-names : goal.returns-then-not-is_fourth-clause-names
returns-then-not-is_fourth-clause-names c =
    let words = one_word c.args.rest.now c.index-rest-0.result c.as_str-last.result.now (omega (arith, c.if-rest-eq0.false)) c.index-rest-0.is c.as_str-last.ensures.value in
    fourth-same (three_of c.args.names) c.as_str-last.result.now (texts (drop 1 c.args.rest.now)) (sym c.is_fourth.ensures ∙ c.if-not-is_fourth.true)
    ∙ ap (λ (r : List (List ℕ)). fourth (Some (three_of c.args.names, r))) (sym words)

pub returns-clause-names : goal.returns-clause-names
returns-clause-names c =
    let words = one_word c.args.rest.now c.index-rest-0.result c.as_str-last.result.now (omega (arith, c.if-rest-eq0.false)) c.index-rest-0.is c.as_str-last.ensures.value in
    ap (λ (r : List (List ℕ)). Some (three_of c.args.names, c.as_str-last.result.now, r)) (rest_of c.args.rest.now 1)
    ∙ (fourth-other (three_of c.args.names) c.as_str-last.result.now (texts (drop 1 c.args.rest.now)) (sym c.is_fourth.ensures ∙ c.if-not-is_fourth.false)
    ∙ ap (λ (r : List (List ℕ)). fourth (Some (three_of c.args.names, r))) (sym words))

pub returns-clause-apart : goal.returns-clause-apart
returns-clause-apart c =
    differ-four (three_of c.args.names) c.as_str-last.result.now c.requires.output_log (sym c.is_fourth.ensures ∙ c.if-not-is_fourth.false)
