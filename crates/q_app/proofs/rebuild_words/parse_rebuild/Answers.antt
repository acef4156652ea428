use Rattle.std.proofs.Common.{◌∙◌, sym, ap, arith}
use Rattle.q_app.specs.RebuildWords.{rebuild_names}
use Rattle.q_app.specs.Operands.{texts}
use Rattle.q_app.proofs.CommandWords.{texts-length, all_five}
use Rattle.q_app.proofs.RebuildOperands.{not_five, equal_names, five_names}
use Rattle.q_app.proofs.rebuild_words.parse_rebuild.Goals as goal

pub returns-then-operands-ne5 : goal.returns-then-operands-ne5
returns-then-operands-ne5 c = not_five (texts c.args.operands.now) (λ e. omega (arith, c.if-operands-ne5.true, texts-length c.args.operands.now, e))

pub returns-then-not-are_apart : goal.returns-then-not-are_apart
returns-then-not-are_apart c =
    let words = all_five c.args.operands.now c.index-operands-0.result c.index-operands-1.result c.index-operands-2.result c.index-operands-3.result c.index-operands-4.result c.as_str-input.result.now c.as_str-output.result.now c.as_str-log.result.now c.as_str-skolem.result.now c.as_str-cert.result.now c.if-operands-ne5.false c.index-operands-0.is c.index-operands-1.is c.index-operands-2.is c.index-operands-3.is c.index-operands-4.is c.as_str-input.ensures.value c.as_str-output.ensures.value c.as_str-log.ensures.value c.as_str-skolem.ensures.value c.as_str-cert.ensures.value in
    equal_names c.as_str-input.result.now c.as_str-output.result.now c.as_str-log.result.now c.as_str-skolem.result.now c.as_str-cert.result.now (sym c.are_apart.ensures ∙ c.if-not-are_apart.true) ∙ ap rebuild_names (sym words)

pub returns : goal.returns
returns c =
    let words = all_five c.args.operands.now c.index-operands-0.result c.index-operands-1.result c.index-operands-2.result c.index-operands-3.result c.index-operands-4.result c.as_str-input.result.now c.as_str-output.result.now c.as_str-log.result.now c.as_str-skolem.result.now c.as_str-cert.result.now c.if-operands-ne5.false c.index-operands-0.is c.index-operands-1.is c.index-operands-2.is c.index-operands-3.is c.index-operands-4.is c.as_str-input.ensures.value c.as_str-output.ensures.value c.as_str-log.ensures.value c.as_str-skolem.ensures.value c.as_str-cert.ensures.value in
    five_names c.as_str-input.result.now c.as_str-output.result.now c.as_str-log.result.now c.as_str-skolem.result.now c.as_str-cert.result.now (sym c.are_apart.ensures ∙ c.if-not-are_apart.false) ∙ ap rebuild_names (sym words)
