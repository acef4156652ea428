use Rattle.std.proofs.Common.{◌≡◌, drop}
use Rattle.std.specs.List.{list_any}
use Rattle.q_c_library.specs.Jobs.{gives}
use Rattle.q_c_library.proofs.made.is_given.Given as goal

abbrev pub invariant-loop-word : goal.invariant-loop-word
invariant-loop-word l = list_any (gives l.name) l.words ≡ list_any (gives l.name) (drop l.word-index l.words)
