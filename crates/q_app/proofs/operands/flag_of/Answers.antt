use Rattle.std.proofs.Common.{◌∙◌, sym, ap, arith}
use Rattle.q_app.specs.Operands.{flag_in, texts}
use Rattle.q_app.proofs.CommandWords.{texts-length, only_word, no_flag, more_words, flag-set, flag-other}
use Rattle.q_app.proofs.operands.flag_of.Goals as goal

pub returns-then-words-eq0 : goal.returns-then-words-eq0
returns-then-words-eq0 c = no_flag c.args.flag.now (texts c.args.words.now) (omega (arith, c.if-words-eq0.true, texts-length c.args.words.now))

pub returns-then-words-gt1 : goal.returns-then-words-gt1
returns-then-words-gt1 c = more_words c.args.flag.now (texts c.args.words.now) (omega (arith, c.if-words-gt1.true, texts-length c.args.words.now))

pub returns-then-eq : goal.returns-then-eq
returns-then-eq c =
    let words = only_word c.args.words.now c.index-words-0.result c.as_str.result.now (omega (arith, c.if-words-eq0.false, c.if-words-gt1.false)) c.index-words-0.is c.as_str.ensures.value in
    flag-set c.args.flag.now c.as_str.result.now (sym c.eq.ensures ∙ c.if-eq.true) ∙ ap (flag_in c.args.flag.now) (sym words)

pub returns : goal.returns
returns c =
    let words = only_word c.args.words.now c.index-words-0.result c.as_str.result.now (omega (arith, c.if-words-eq0.false, c.if-words-gt1.false)) c.index-words-0.is c.as_str.ensures.value in
    flag-other c.args.flag.now c.as_str.result.now (sym c.eq.ensures ∙ c.if-eq.false) ∙ ap (flag_in c.args.flag.now) (sym words)
