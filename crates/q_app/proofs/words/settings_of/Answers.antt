use Rattle.std.proofs.Common.{◌∙◌, sym, ap, arith, drop, List, ℕ}
use Rattle.q_app.specs.Commands.{settings_behind, settings_in}
use Rattle.q_app.specs.Operands.{three_names, texts}
use Rattle.q_app.proofs.CommandWords.{texts-length, one_word, no_settings, other_verb, verb_simplify, rest_of, alike, unlike}
use Rattle.q_app.proofs.words.settings_of.Goals as goal

pub returns-then-words-eq0 : goal.returns-then-words-eq0
returns-then-words-eq0 c = no_settings (texts c.args.words.now) (omega (arith, c.if-words-eq0.true, texts-length c.args.words.now))

pub returns-then-ne : goal.returns-then-ne
returns-then-ne c =
    let words = one_word c.args.words.now c.index-words-0.result c.as_str.result.now (omega (arith, c.if-words-eq0.false)) c.index-words-0.is c.as_str.ensures.value in
    other_verb c.as_str.result.now (texts (drop 1 c.args.words.now)) (unlike _ _ c.ne.ensures c.if-ne.true) ∙ ap settings_in (sym words)

pub returns-in-Some : goal.returns-in-Some
returns-in-Some c =
    let words = one_word c.args.words.now c.index-words-0.result c.as_str.result.now (omega (arith, c.if-words-eq0.false)) c.index-words-0.is c.as_str.ensures.value in
    c.of.ensures
    ∙ (ap settings_behind c.in-Some.ensures.names
    ∙ (ap (λ (r : List (List ℕ)). settings_behind (three_names r)) (rest_of c.args.words.now 1)
    ∙ (verb_simplify c.as_str.result.now (texts (drop 1 c.args.words.now)) (alike _ _ c.ne.ensures c.if-ne.false) ∙ ap settings_in (sym words))))

pub returns-in-None : goal.returns-in-None
returns-in-None c =
    let words = one_word c.args.words.now c.index-words-0.result c.as_str.result.now (omega (arith, c.if-words-eq0.false)) c.index-words-0.is c.as_str.ensures.value in
    ap settings_behind c.in-None.ensures.names
    ∙ (ap (λ (r : List (List ℕ)). settings_behind (three_names r)) (rest_of c.args.words.now 1)
    ∙ (verb_simplify c.as_str.result.now (texts (drop 1 c.args.words.now)) (alike _ _ c.ne.ensures c.if-ne.false) ∙ ap settings_in (sym words)))
