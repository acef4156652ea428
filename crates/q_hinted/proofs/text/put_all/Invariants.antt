use Rattle.std.proofs.Common.{◌≡◌, ◌++◌, drop}
use Rattle.q_text.specs.Texts.{Extends}
use Rattle.q_hinted.specs.Texts.{plain_text}
use Rattle.q_hinted.proofs.text.put_all.Given as goal

abbrev pub invariant-loop-number : goal.invariant-loop-number
invariant-loop-number l = record {
  text : l.text.items ++ plain_text (drop l.number-index l.numbers) ≡ l.initial.text.items ++ plain_text l.numbers;
  before : Extends l.initial.text.items l.text.items;
}
