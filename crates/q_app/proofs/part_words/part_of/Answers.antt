use Rattle.std.proofs.Common.{◌∙◌, sym, ap, arith, Some, option_map}
use Rattle.q_app.specs.Operands.{texts}
use Rattle.q_app.specs.PartWords.{part_of}
use Rattle.q_app.proofs.CommandWords.{texts-length, only_word}
use Rattle.q_app.proofs.PartOptions.{no_part, many_parts, one_part}
use Rattle.q_app.proofs.part_words.part_of.Goals as goal

pub returns-then-words-eq0 : goal.returns-then-words-eq0
returns-then-words-eq0 c = no_part (texts c.args.words.now) (omega (arith, c.if-words-eq0.true, texts-length c.args.words.now))

pub returns-then-words-gt1 : goal.returns-then-words-gt1
returns-then-words-gt1 c = many_parts (texts c.args.words.now) (omega (arith, c.if-words-gt1.true, texts-length c.args.words.now))

pub returns-in-Some : goal.returns-in-Some
returns-in-Some c =
    let words = only_word c.args.words.now c.index-words-0.result c.as_str.result.now (omega (arith, c.if-words-eq0.false, c.if-words-gt1.false)) c.index-words-0.is c.as_str.ensures.value in
    ap (option_map Some) (sym c.in-Some.is ∙ c.part_of_word.ensures) ∙ (one_part c.as_str.result.now ∙ ap part_of (sym words))

pub returns-in-None : goal.returns-in-None
returns-in-None c =
    let words = only_word c.args.words.now c.index-words-0.result c.as_str.result.now (omega (arith, c.if-words-eq0.false, c.if-words-gt1.false)) c.index-words-0.is c.as_str.ensures.value in
    ap (option_map Some) (sym c.in-None.is ∙ c.part_of_word.ensures) ∙ (one_part c.as_str.result.now ∙ ap part_of (sym words))
