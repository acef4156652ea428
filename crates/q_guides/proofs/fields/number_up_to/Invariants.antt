use Rattle.std.proofs.Common.{◌≡◌, ◌≤◌, drop}
use Rattle.q_text.specs.Words.{digits_behind}
use Rattle.q_guides.proofs.fields.number_up_to.Given as goal

abbrev pub invariant-loop-byte : goal.invariant-loop-byte
invariant-loop-byte l =
    record {
      within : l.value ≤ l.most;
      same : digits_behind 0 l.text ≡ digits_behind l.value (drop l.byte-index l.text);
    }
