use Rattle.std.proofs.Common.{◌≡◌, ◌≤◌, ◌+◌, ◌++◌, length, vec_len, vec_capacity, drop}
use Rattle.q_logic.specs.Prelude.{without}
use Rattle.q_log.specs.Texts.{literals_text}
use Rattle.q_log.proofs.text.put_others.Given as goal

abbrev pub invariant-loop-lit : goal.invariant-loop-lit
invariant-loop-lit l = record {
  text : l.text.items ++ literals_text (without l.out (drop l.lit-index l.lits)) ≡ l.initial.text.items ++ literals_text (without l.out l.lits);
  room : vec_len l.text + length (literals_text (without l.out (drop l.lit-index l.lits))) ≤ vec_capacity l.text;
  capacity : vec_capacity l.initial.text ≤ vec_capacity l.text;
}
