use Rattle.std.proofs.Common.{◌∙◌, sym, ap, arith, drop}
use Rattle.q_app.specs.Commands.{by_verb, request}
use Rattle.q_app.specs.Operands.{texts}
use Rattle.q_app.proofs.CommandWords.{texts-length, one_word, no_words, rest_of, request-is}
use Rattle.q_app.proofs.words.parse.Goals as goal

pub returns-then-words-eq0-clause-request : goal.returns-then-words-eq0-clause-request
returns-then-words-eq0-clause-request c = no_words (texts c.args.words.now) (omega (arith, c.if-words-eq0.true, texts-length c.args.words.now))

pub returns-clause-request : goal.returns-clause-request
returns-clause-request c =
    let words = one_word c.args.words.now c.index-words-0.result c.as_str.result.now (omega (arith, c.if-words-eq0.false)) c.index-words-0.is c.as_str.ensures.value in
    c.by_verb.ensures.request ∙ (ap (by_verb c.as_str.result.now) (rest_of c.args.words.now 1) ∙ (request-is c.as_str.result.now (texts (drop 1 c.args.words.now)) ∙ ap request (sym words)))
