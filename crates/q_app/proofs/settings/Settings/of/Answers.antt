use Rattle.std.proofs.Common.{◌∙◌, sym, ap, drop, suc, Some, Option, List, ℕ}
use Rattle.q_app.specs.declared.settings.Settings.{Settings}
use Rattle.q_app.specs.Words.{with_words, with_setting, setting_of}
use Rattle.q_app.specs.Operands.{texts}
use Rattle.q_app.proofs.CommandWords.{next-word, none-stays}
use Rattle.q_app.proofs.settings.Settings.of.Goals as goal

pub returns-in-None : goal.returns-in-None
returns-in-None c =
    let rest = texts (drop (suc c.loop-word.word-index) c.args.words.now) in
    none-stays rest ∙ (ap (λ (o : Option Settings). with_words o rest) c.in-None.ensures ∙ (ap (λ (t : List ℕ). with_words (with_setting c.loop-word.settings (setting_of t)) rest) c.as_str.ensures.value ∙ (sym (next-word (Some c.loop-word.settings) c.args.words.now c.loop-word.word-index c.word-item.result c.loop-word-test.true c.word-item.is) ∙ sym c.loop-word.invariant)))
