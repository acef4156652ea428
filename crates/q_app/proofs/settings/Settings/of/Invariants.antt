use Rattle.std.proofs.Common.{◌≡◌, Some, drop}
use Rattle.q_app.specs.Words.{with_words, nothing_set}
use Rattle.q_app.specs.Operands.{texts}
use Rattle.q_app.proofs.settings.Settings.of.Given as goal

abbrev pub invariant-loop-word : goal.invariant-loop-word
invariant-loop-word l = with_words (Some nothing_set) (texts l.words) ≡ with_words (Some l.settings) (texts (drop l.word-index l.words))
