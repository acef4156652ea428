-- The numbers of a header that was accepted.
use Rattle.std.specs.Prelude.{◌≤◌}
use Rattle.q_aiger.specs.declared.header.Header.{Header}

pub record IsModest (h : Header) : Type 0 where
  pub max : h.max ≤ 268435456
  pub inputs : h.inputs ≤ 268435456
  pub outputs : h.outputs ≤ 576460752303423488
  pub gates : h.gates ≤ 268435456
