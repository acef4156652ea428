use Rattle.std.proofs.Common.{◌≡◌, ◌++◌, ◌≤◌, vec_capacity, drop, None}
use Rattle.q_dimacs.specs.Writing.{bounds_text}
use Rattle.q_text.specs.Texts.{Extends}
use Rattle.q_dimacs.proofs.writer.put_prefix.Given as goal

abbrev pub invariant-loop-bound : goal.invariant-loop-bound
invariant-loop-bound l = record {
  text : l.text.items ++ bounds_text l.block (drop l.bound-index l.prefix) ≡ l.initial.text.items ++ bounds_text None l.prefix;
  before : Extends l.initial.text.items l.text.items;
  capacity : vec_capacity l.initial.text ≤ vec_capacity l.text;
}
