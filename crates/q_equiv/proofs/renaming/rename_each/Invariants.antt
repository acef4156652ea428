use Rattle.std.proofs.Common.{◌≡◌, ◌≤◌, take, map, vec_capacity}
use Rattle.q_logic.specs.Prelude.{renamed_literal}
use Rattle.q_equiv.proofs.renaming.rename_each.Given as goal

abbrev pub invariant-loop-lit : goal.invariant-loop-lit
invariant-loop-lit l = record {
  lits : l.buffer.items ≡ map (renamed_literal l.keep l.gone) (take l.lit-index l.clause);
  capacity : vec_capacity l.fn.buffer ≤ vec_capacity l.buffer;
}
