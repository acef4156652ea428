use Rattle.std.proofs.Common.{◌≡◌, ◌++◌, drop}
use Rattle.q_text.specs.Texts.{Extends}
use Rattle.q_hinted.specs.Parts.{groups_numbers}
use Rattle.q_hinted.specs.Texts.{plain_text}
use Rattle.q_hinted.proofs.text.put_groups.Given as goal

abbrev pub invariant-loop-at : goal.invariant-loop-at
invariant-loop-at l = record {
  text : l.text.items ++ plain_text (groups_numbers (drop l.at l.proof.groups)) ≡ l.initial.text.items ++ plain_text (groups_numbers l.proof.groups);
  before : Extends l.initial.text.items l.text.items;
}
