use Rattle.std.proofs.Common.{◌≡◌, ◌+◌, ◌*◌, ◌^◌, ◌≤◌, length, drop}
use Rattle.q_log.specs.Texts.{literals_text}
use Rattle.q_log.proofs.text.lits_len.Given as goal

abbrev pub invariant-loop-lit : goal.invariant-loop-lit
invariant-loop-lit l = record {
  text : l.len + length (literals_text (drop l.lit-index l.lits)) ≡ length (literals_text l.lits);
  bound : l.len ≤ 12 * l.lit-index;
  small : l.lit-index ≤ 2 ^ 32 + 1;
}
