use Rattle.std.proofs.Common.{◌≡◌, ◌≤◌, ◌+◌, drop}
use Rattle.q_text.specs.Texts.{line_from}
use Rattle.q_aiger.proofs.lines.last_line.Given as goal

abbrev pub invariant-loop-byte : goal.invariant-loop-byte
invariant-loop-byte l = record {
  small : l.line ≤ l.byte-index + 1;
  line : line_from l.line (drop l.byte-index l.text) ≡ line_from 1 l.text;
}
