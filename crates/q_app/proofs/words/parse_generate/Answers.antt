use Rattle.std.proofs.Common.{◌∙◌, sym, ap, arith, drop}
use Rattle.q_app.specs.Words.{generate_of, generate_to}
use Rattle.q_app.specs.Operands.{texts}
use Rattle.q_app.proofs.CommandWords.{texts-length, two_words, all_three, not_three, generate-is, generate-none}
use Rattle.q_app.proofs.words.parse_generate.Goals as goal

pub returns-then-operands-ne3-clause-request : goal.returns-then-operands-ne3-clause-request
returns-then-operands-ne3-clause-request c = not_three (texts c.args.operands.now) (λ e. omega (arith, c.if-operands-ne3.true, texts-length c.args.operands.now, e))

pub returns-in-Some-clause-request : goal.returns-in-Some-clause-request
returns-in-Some-clause-request c =
    let words = all_three c.args.operands.now c.index-operands-0.result c.index-operands-1.result c.index-operands-2.result c.as_str.result.now c.as_str-2.result.now c.as_str-in-Some.result.now c.if-operands-ne3.false c.index-operands-0.is c.index-operands-1.is c.index-operands-2.is c.as_str.ensures.value c.as_str-2.ensures.value c.as_str-in-Some.ensures.value in
    ap (generate_to c.as_str-in-Some.result.now) (sym c.in-Some.is ∙ c.scale_of.ensures.scale)
    ∙ (generate-is c.as_str.result.now c.as_str-2.result.now c.as_str-in-Some.result.now ∙ ap generate_of (sym words))

pub returns-in-None-clause-request : goal.returns-in-None-clause-request
returns-in-None-clause-request c =
    let words = two_words c.args.operands.now c.index-operands-0.result c.index-operands-1.result c.as_str.result.now c.as_str-2.result.now (omega (arith, c.if-operands-ne3.false)) c.index-operands-0.is c.index-operands-1.is c.as_str.ensures.value c.as_str-2.ensures.value in
    generate-none c.as_str.result.now c.as_str-2.result.now (texts (drop 2 c.args.operands.now)) (sym c.in-None.is ∙ c.scale_of.ensures.scale) ∙ ap generate_of (sym words)
